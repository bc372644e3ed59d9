-- One comparison with the last unit, on the side where the number is.
use native.Mathlib.Omega.{arith}
use mathlib.Core.Path.{sym, ◌∙◌}
use borrow.Author.Tests.{not-true}
use Rattle.draw_key.proofs.Keys.{key_less_lem}
use Rattle.draw_bound.proofs.is_apart.Goals as goal

pub returns-then-i-b : goal.returns-then-i-b
returns-then-i-b c = λ h.
    record {
      before = λ l. key_less_lem c.key-last.ensures c.key-key.ensures ∙ sym c.is_below.ensures ∙ not-true _ h;
      behind = λ l. absurd (omega (arith, c.if-i-b.true));
    }

pub returns : goal.returns
returns c = λ h.
    record {
      before = λ l. absurd (omega (arith, c.if-i-b.false));
      behind = λ l. key_less_lem c.key-key.ensures c.key-last.ensures ∙ sym c.is_below-2.ensures ∙ not-true _ h;
    }
