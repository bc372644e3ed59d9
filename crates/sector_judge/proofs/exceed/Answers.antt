-- What T has left and the minima so far make T, so that the minima left exceed the one where all exceed the other.
use mathlib.Core.Path.{sym}
use Prim.Native.Nat.{◌≤◌, ◌<◌}
use native.Mathlib.Omega.{arith}
use borrow.Author.Tests.{lt-ltb, le-ltb}
use Rattle.rules.specs.Lists.{sum}
use Rattle.rules.proofs.Lists.{sum_step, sum_end}
use Rattle.sector_judge.proofs.exceed.Goals as goal

pub returns-in_default : goal.returns-in_default
returns-in_default c =
    let step = sum_step c.args.minima.now c.loop-minimum.minimum-index c.loop-minimum-test.true in
    let over : c.args.interviews < sum c.args.minima.now = grind (arith, step, c.loop-minimum.invariant, c.in_default.ensures) in
    sym (lt-ltb _ _ over)

pub loop-minimum-preserved : goal.loop-minimum-preserved
loop-minimum-preserved c = omega (arith, sum_step c.args.minima.now c.loop-minimum.minimum-index c.loop-minimum-test.true, c.in-Some.ensures)

pub returns : goal.returns
returns c =
    let within : sum c.args.minima.now ≤ c.args.interviews = omega (arith, sum_end c.args.minima.now c.loop-minimum.minimum-index c.loop-minimum-test.false, c.loop-minimum.invariant) in
    sym (le-ltb _ _ within)
