-- `Frame::bad_lists` meets its contract: its three tests are the definition's.
use mathlib.Core.Path.{sym, ap, ◌∙◌}
use mathlib.Core.Bool.{not}
use borrow.Author.Tests.{eq-eqb, ne_eqb}
use Rattle.rules.specs.Tests.{◌or◌}
use Rattle.rules.specs.Draw.{bad_lists}
use Rattle.rules.proofs.Tests.{not_both}
use Rattle.frame.proofs.Frame.bad_lists.Goals as goal
use Rattle.frame.proofs.Frame.bad_lists.Goals.{then-self, else-self}

pub returns-then-self-2 : goal.returns-then-self-2
unfolding bad_lists ◌or◌
returns-then-self-2 c =
    elim c.if-self.branch [
      | then-self w ↦ rw (c.if-self-2.true, ne_eqb _ _ w.if-self.true)
      | else-self w ↦ rw (c.if-self-2.true, eq-eqb _ _ w.if-self.false, sym w.value-is ∙ c.if-self-2.true)
    ]

pub returns-else-self-2 : goal.returns-else-self-2
unfolding bad_lists ◌or◌
returns-else-self-2 c =
    elim c.if-self.branch [
      | then-self w ↦ absurd (not_both c.if-self.value (w.value-is ∙ ap not (ne_eqb _ _ w.if-self.true)) c.if-self-2.false)
      | else-self w ↦ rw (eq-eqb _ _ w.if-self.false, sym w.value-is ∙ c.if-self-2.false) c.bad_count.ensures
    ]
