-- After i turns the first i gaps stand.
use Prim.Native.Nat.{ℕ, ◌<◌}
use mathlib.Core.Path.{◌≡◌}
use lib.ListN.{get_or}
use Rattle.draw_gaps.specs.Gaps.{gap_of}
use Rattle.draw_gaps.proofs.fill.Given as goal

abbrev pub invariant-units : goal.invariant-units
invariant-units l = (k : ℕ) → k < l.i → get_or l.gaps k 0 ≡ gap_of l.turnovers l.marks l.off l.rest k
