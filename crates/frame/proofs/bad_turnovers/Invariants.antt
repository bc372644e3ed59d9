-- What is left of the limit, with the turnovers so far, makes the limit, and none of them is 0.
use Prim.Native.Nat.{◌+◌}
use mathlib.Core.Path.{◌≡◌}
use lib.Dec.{eqb}
use lib.ListN.{drop}
use Rattle.rules.specs.Limits.{most_turnover}
use Rattle.rules.specs.Lists.{sum, any_of}
use Rattle.frame.proofs.bad_turnovers.Given as goal

abbrev pub invariant-loop-turnover : goal.invariant-loop-turnover
invariant-loop-turnover l = (most_turnover + sum (drop l.turnover-index l.turnovers) ≡ l.left + sum l.turnovers)
    × (any_of (λ t. eqb t 0) (drop l.turnover-index l.turnovers) ≡ any_of (λ t. eqb t 0) l.turnovers)
