-- A key is not below itself; others are compared as fractions.
use mathlib.Core.Path.{sym, ◌∙◌}
use borrow.Author.Tests.{not-false}
use Rattle.draw_fraction.proofs.Order.{equal_fractions}
use Rattle.draw_bound.proofs.is_below.Goals as goal

pub returns-else-ne : goal.returns-else-ne
returns-else-ne c = c.if-ne.false ∙ sym (equal_fractions _ _ (not-false _ (sym c.ne.ensures ∙ c.if-ne.false)))
