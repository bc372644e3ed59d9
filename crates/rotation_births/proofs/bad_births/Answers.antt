-- `bad_births` meets its contract: its three tests are the definition's.
use mathlib.Core.Path.{sym, ap, ◌∙◌}
use mathlib.Core.Bool.{not}
use borrow.Author.Tests.{lt-ltb, le-ltb}
use Rattle.rules.specs.Tests.{◌or◌}
use Rattle.rules.specs.Rotation.{bad_births}
use Rattle.rules.proofs.Tests.{not_both}
use Rattle.rotation_births.proofs.bad_births.Goals as goal
use Rattle.rotation_births.proofs.bad_births.Goals.{then-births-gt-MOST_FRAME, else-births-gt-MOST_FRAME}

pub returns-then-not-rising : goal.returns-then-not-rising
unfolding bad_births ◌or◌
returns-then-not-rising c =
    elim c.if-births-gt-MOST_FRAME.branch [
      | then-births-gt-MOST_FRAME w ↦ rw (c.if-not-rising.true, lt-ltb _ _ w.if-births-gt-MOST_FRAME.true)
      | else-births-gt-MOST_FRAME w ↦
          rw (c.if-not-rising.true, le-ltb _ _ w.if-births-gt-MOST_FRAME.false, ap not (sym w.rising.ensures) ∙ sym w.value-is ∙ c.if-not-rising.true)
    ]

pub returns-else-not-rising : goal.returns-else-not-rising
unfolding bad_births ◌or◌
returns-else-not-rising c =
    elim c.if-births-gt-MOST_FRAME.branch [
      | then-births-gt-MOST_FRAME w ↦ absurd (not_both c.if-births-gt-MOST_FRAME.value (w.value-is ∙ lt-ltb _ _ w.if-births-gt-MOST_FRAME.true) c.if-not-rising.false)
      | else-births-gt-MOST_FRAME w ↦
          rw (le-ltb _ _ w.if-births-gt-MOST_FRAME.false, ap not (sym w.rising.ensures) ∙ sym w.value-is ∙ c.if-not-rising.false) c.outside.ensures
    ]
