-- What T has left and the minima so far make T, so that the minima left exceed the one where all exceed the other.
use mathlib.Core.Path.{◌≡◌}
use Prim.Native.Nat.{◌+◌}
use lib.ListN.{drop}
use Rattle.rules.specs.Lists.{sum}
use Rattle.sector_judge.proofs.exceed.Given as goal

abbrev pub invariant-loop-minimum : goal.invariant-loop-minimum
invariant-loop-minimum l = l.interviews + sum (drop l.minimum-index l.minima) ≡ l.left + sum l.minima
