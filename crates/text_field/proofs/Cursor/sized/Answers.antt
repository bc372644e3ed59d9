-- 1 to 20 digits.
use mathlib.Core.Path.{refl}
use Rattle.std.proofs.Common.{rules}
use Rattle.rules.specs.Tests.{◌or◌, outside}
use Rattle.rules.specs.Register.{sized}
use Rattle.text_field.proofs.Cursor.sized.Goals as goal

pub returns-then-not-contains : goal.returns-then-not-contains
unfolding sized outside ◌or◌
returns-then-not-contains c = record { same = refl; is = search rules; kept = λ e. search rules }

pub returns : goal.returns
unfolding sized outside ◌or◌
returns c = record { same = refl; is = search rules; kept = λ e. search rules }
