-- `Previous::is_bad` meets its contract: its tests are the definition's.
use native.Mathlib.Omega.{arith}
use borrow.Author.Tests.{lt-ltb, le-ltb, eq-eqb, ne_eqb}
use Rattle.rules.specs.Limits.{most_turnover}
use Rattle.rules.specs.Tests.{◌or◌, ◌and◌}
use Rattle.rules.specs.Rotation.{bad_previous}
use Rattle.rotation_births.proofs.Previous.is_bad.Goals as goal
use Rattle.rotation_births.proofs.Previous.is_bad.Goals.{then-self-gt-MOST_PANEL, else-self-gt-MOST_PANEL}

pub returns-then-self-gt-MOST_TURNOVER : goal.returns-then-self-gt-MOST_TURNOVER
unfolding bad_previous ◌or◌
returns-then-self-gt-MOST_TURNOVER c =
    elim c.if-self-gt-MOST_PANEL.branch [
      | then-self-gt-MOST_PANEL w ↦ rw (w.t-3-is, lt-ltb _ _ w.if-self-gt-MOST_PANEL.true)
      | else-self-gt-MOST_PANEL w ↦
          let high = lt-ltb most_turnover c.args.self.rest (omega (arith, c.if-self-gt-MOST_TURNOVER.either, w.if-self-gt-MOST_PANEL.false)) in
          rw (w.t-3-is, le-ltb _ _ w.if-self-gt-MOST_PANEL.false, high)
    ]

pub returns-then-self-eq0 : goal.returns-then-self-eq0
unfolding bad_previous ◌or◌ ◌and◌
returns-then-self-eq0 c =
    let low = c.if-self-gt-MOST_TURNOVER.false in
    rw (le-ltb _ _ low.0, le-ltb _ _ low.1, eq-eqb _ 0 c.if-self-eq0.true)

pub returns-else-self-eq0 : goal.returns-else-self-eq0
unfolding bad_previous ◌or◌ ◌and◌
returns-else-self-eq0 c =
    let low = c.if-self-gt-MOST_TURNOVER.false in
    rw (le-ltb _ _ low.0, le-ltb _ _ low.1, ne_eqb _ 0 c.if-self-eq0.false)
