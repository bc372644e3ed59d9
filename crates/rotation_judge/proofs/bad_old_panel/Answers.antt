-- `bad_old_panel` meets its contract: its three tests are the definition's.
use native.Mathlib.Omega.{arith}
use lib.ListN.{length}
use borrow.Author.Tests.{lt-ltb, le-ltb}
use Rattle.rules.specs.Limits.{most_panel}
use Rattle.rules.specs.Tests.{◌or◌}
use Rattle.rules.specs.Rotation.{bad_old_panel}
use Rattle.rotation_judge.proofs.bad_old_panel.Goals as goal
use Rattle.rotation_judge.proofs.bad_old_panel.Goals.{then-fraction-gt-FRACTION_SCALE, else-fraction-gt-FRACTION_SCALE}

pub returns-then-panel-gt-MOST_PANEL : goal.returns-then-panel-gt-MOST_PANEL
unfolding bad_old_panel ◌or◌
returns-then-panel-gt-MOST_PANEL c =
    elim c.if-fraction-gt-FRACTION_SCALE.branch [
      | then-fraction-gt-FRACTION_SCALE w ↦ rw (w.t-4-is, lt-ltb _ _ w.if-fraction-gt-FRACTION_SCALE.true)
      | else-fraction-gt-FRACTION_SCALE w ↦
          let long = lt-ltb most_panel (length c.args.panel.now) (omega (arith, c.if-panel-gt-MOST_PANEL.either, w.if-fraction-gt-FRACTION_SCALE.false)) in
          rw (w.t-4-is, le-ltb _ _ w.if-fraction-gt-FRACTION_SCALE.false, long)
    ]

pub returns-else-panel-gt-MOST_PANEL : goal.returns-else-panel-gt-MOST_PANEL
unfolding bad_old_panel ◌or◌
returns-else-panel-gt-MOST_PANEL c =
    let low = c.if-panel-gt-MOST_PANEL.false in
    rw (le-ltb _ _ low.0, le-ltb _ _ low.1, c.rising.ensures)
