-- The four ends in turn. A byte that is there is no byte past the end, so the offset after it fits.
use mathlib.Core.Path.{refl}
use Rattle.std.proofs.Common.{rules}
use Rattle.rules.specs.Register.{end_at}
use Rattle.text_field.proofs.Cursor.line_end.Goals as goal

pub returns-in-None : goal.returns-in-None
unfolding end_at
returns-in-None c = record { same = refl; is = search rules; kept = λ e. search rules }

pub returns-in-Some-eq10 : goal.returns-in-Some-eq10
unfolding end_at
returns-in-Some-eq10 c = record { same = refl; is = search rules; kept = λ e. search rules }

pub returns-in-Some-eq13 : goal.returns-in-Some-eq13
unfolding end_at
returns-in-Some-eq13 c = record { same = refl; is = search rules; kept = λ e. search rules }

pub returns-in_default : goal.returns-in_default
unfolding end_at
returns-in_default c = record { same = refl; is = search rules; kept = λ e. search rules }

pub returns-in_default-2 : goal.returns-in_default-2
unfolding end_at
returns-in_default-2 c = record { same = refl; is = search rules; kept = λ e. search rules }

pub returns-in_default-3 : goal.returns-in_default-3
unfolding end_at
returns-in_default-3 c = record { same = refl; is = search rules; kept = λ e. search rules }
