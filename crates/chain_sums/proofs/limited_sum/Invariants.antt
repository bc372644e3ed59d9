-- `limited_sum`: what is added up and what is left make the whole sum, and what is added up is within the limit.
use mathlib.Core.Path.{◌≡◌}
use Prim.Native.Nat.{◌+◌, ◌≤◌}
use lib.ListN.{drop}
use Rattle.rules.specs.Limits.{most_weight}
use Rattle.rules.specs.Lists.{sum}
use Rattle.chain_sums.proofs.limited_sum.Given as goal

abbrev pub invariant-loop-x : goal.invariant-loop-x
invariant-loop-x l = (l.acc ≤ most_weight) × (l.acc + sum (drop l.x-index l.weights) ≡ sum l.weights)
