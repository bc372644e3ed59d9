-- `weighted_sums`: what is added up and what is left make the whole sums, which fit.
use mathlib.Core.Path.{◌≡◌}
use Prim.Native.Nat.{◌+◌}
use lib.ListN.{length, drop}
use Rattle.rules.specs.Lists.{sum, products}
use Rattle.chain_sums.proofs.weighted_sums.Given as goal

abbrev pub invariant-loop-x : goal.invariant-loop-x
invariant-loop-x l = (l.total + sum (drop (length l.yielded) l.v) ≡ sum l.v) × (l.acc + sum (products (drop (length l.yielded) l.v) (drop (length l.yielded) l.p)) ≡ sum (products l.v l.p))
