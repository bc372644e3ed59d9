-- `limited_sum`: what is added up and what is left make the whole sum; a sum over the limit is found where it is passed.
use native.Mathlib.Omega.{arith}
use mathlib.Core.Path.{◌≡◌, ap, ◌∙◌}
use Rattle.std.specs.Prelude.{Some}
use Rattle.rules.specs.Lists.{sum}
use Rattle.rules.proofs.Lists.{sum_step, sum_end}
use Rattle.chain_sums.proofs.Weights.{limited_over, limited_within}
use Rattle.chain_sums.proofs.limited_sum.Goals as goal

pub returns-then-acc-x : goal.returns-then-acc-x
returns-then-acc-x c = limited_over _ (omega (arith, sum_step c.args.weights.now c.loop-x.x-index c.loop-x-test.true))

pub loop-x-preserved : goal.loop-x-preserved
loop-x-preserved c = omega (arith, sum_step c.args.weights.now c.loop-x.x-index c.loop-x-test.true)

pub returns : goal.returns
returns c = let whole : c.loop-x.acc ≡ sum c.args.weights.now = omega (arith, sum_end c.args.weights.now c.loop-x.x-index c.loop-x-test.false) in
    ap Some whole ∙ limited_within _ (omega arith)
