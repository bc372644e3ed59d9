-- Each arm by what `read` ensures of the variant at hand.
use mathlib.Core.Path.{sym, ap, ◌∙◌}
use Rattle.std.proofs.Common.{Ok}
use Rattle.stream_read.proofs.Unread.{not_empty, taken_told}
use Rattle.stream_read.specs.Value.{reading_from}
use Rattle.stream_read.proofs.taken.Goals as goal

pub bounds-s-0 : goal.bounds-s-0
bounds-s-0 c = not_empty c.args.s.now _ (sym c.read.ensures ∙ ap reading_from (c.in-Ok-Some.is ∙ ap Ok c.in-Ok-Some.field-0-is))

pub returns-in-Ok-Some : goal.returns-in-Ok-Some
returns-in-Ok-Some c = c.width.ensures ∙ taken_told _ _ _ (c.in-Ok-Some.is ∙ ap Ok c.in-Ok-Some.field-0-is) c.read.ensures

pub returns-in-Ok-None : goal.returns-in-Ok-None
returns-in-Ok-None c = taken_told _ _ _ (c.in-Ok-None.is ∙ ap Ok c.in-Ok-None.field-0-is) c.read.ensures

pub returns-in-Err : goal.returns-in-Err
returns-in-Err c = taken_told _ _ _ c.in-Err.is c.read.ensures
