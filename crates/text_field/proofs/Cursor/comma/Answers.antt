-- A comma is no byte past the end, so the offset after it fits.
use mathlib.Core.Path.{refl}
use Rattle.std.proofs.Common.{rules}
use Rattle.rules.specs.Register.{comma_at}
use Rattle.text_field.proofs.Cursor.comma.Goals as goal

pub returns-in-Some-eq44 : goal.returns-in-Some-eq44
unfolding comma_at
returns-in-Some-eq44 c = record { same = refl; is = search rules; kept = λ e. search rules }

pub returns-in_default : goal.returns-in_default
unfolding comma_at
returns-in_default c = record { same = refl; is = search rules; kept = λ e. search rules }

pub returns-in_default-2 : goal.returns-in_default-2
unfolding comma_at
returns-in_default-2 c = record { same = refl; is = search rules; kept = λ e. search rules }
