-- Each pass takes all who reach X, or finds that q fits (proofs/Passes).
use native.Mathlib.Omega.{arith}
use Rattle.group_least.proofs.Passes.{no_fewer, no_more, found, found_all}
use Rattle.group_least.proofs.Known.{known_none, part, known_next}
use Rattle.group_least.proofs.find_size.Goals as goal

pub loop-q-init : goal.loop-q-init
loop-q-init c = known_none _ _ _ c.requires c.total-total.ensures

pub returns-then-r-q : goal.returns-then-r-q
returns-then-r-q c =
    found c.args.turnovers.now c.args.z c.requires c.loop-q.invariant.grown c.loop-q-test.true c.least_reaching-at.result c.reached-r.result.count
    c.least_reaching-at.ensures c.reached-r.ensures.count_value c.if-r-q.true

pub overflow_sub-rest : goal.overflow_sub-rest
overflow_sub-rest c = part c.args.turnovers.now _ c.least_reaching-at.result _ c.total-total.ensures c.reached-r.ensures.turnover_value

pub loop-q-smaller : goal.loop-q-smaller
loop-q-smaller c =
    let at = c.least_reaching-at.result in
    let m = c.reached-r.result.count in
    let fewer =
    no_fewer c.args.turnovers.now c.args.z c.requires c.loop-q.invariant.grown c.loop-q-test.true at m c.least_reaching-at.ensures c.reached-r.ensures.count_value in
    let more =
    no_more c.args.turnovers.now c.args.z c.requires c.loop-q.invariant.grown c.loop-q-test.true at m c.least_reaching-at.ensures c.reached-r.ensures.count_value in
    omega (arith, fewer, more, c.if-r-q.false)

pub loop-q-preserved : goal.loop-q-preserved
loop-q-preserved c =
    known_next c.args.turnovers.now _ c.least_reaching-at.result _ c.total-total.ensures c.reached-r.ensures.turnover_value c.args.z c.requires
    c.loop-q.invariant.grown c.loop-q-test.true _ c.least_reaching-at.ensures c.reached-r.ensures.count_value

pub returns : goal.returns
returns c = found_all _ _ c.requires c.loop-q.invariant.grown c.loop-q-test.false
