-- After i turns count and turnover are those of the first i units (proofs/Counted).
use native.Mathlib.Omega.{arith}
use Rattle.selection.proofs.Sums.{sum_list, count_le}
use Rattle.group_least.specs.Size.{has_least}
use Rattle.group_least.proofs.Counted.{none, next, more, taken, left}
use Rattle.group_least.proofs.reached.Goals as goal
use Rattle.group_least.proofs.reached.Goals.{then-least-unit, else-least-unit}

pub loop-unit-init : goal.loop-unit-init
loop-unit-init c = none _ _

pub overflow_add-count : goal.overflow_add-count
overflow_add-count c = omega (arith, c.loop-unit.invariant.many_is, count_le (has_least c.args.turnovers.now c.args.least) c.loop-unit.unit-index, c.well_formed)

pub overflow_add-turnover : goal.overflow_add-turnover
overflow_add-turnover c =
    let ts = c.args.turnovers.now in
    let k = c.loop-unit.invariant in
    omega (arith, more ts _ _ _ _ k c.loop-unit-test.true c.if-least-unit.true, next ts c.args.least _ _ _ k c.loop-unit-test.true, sum_list ts, c.requires)

pub loop-unit-preserved : goal.loop-unit-preserved
loop-unit-preserved c =
    let at = c.loop-unit in
    let ts = c.args.turnovers.now in
    elim c.if-least-unit.branch [
      | then-least-unit w ↦ rw (w.count-is, w.turnover-is) (taken ts c.args.least at.count at.turnover at.unit-index at.invariant c.loop-unit-test.true w.if-least-unit.true)
      | else-least-unit w ↦ rw (w.count-is, w.turnover-is) (left ts c.args.least at.count at.turnover at.unit-index at.invariant c.loop-unit-test.true w.if-least-unit.false)
    ]
