-- The two ends come together; nothing is promised of where.
use Prim.Native.Nat.{◌-◌, ◌≤◌}
use mir.Syntax.{w64}
use mir.Val.{Fits}
use Rattle.draw_search.proofs.nth.Given as goal

abbrev pub invariant-loop-low : goal.invariant-loop-low
invariant-loop-low l = (l.low ≤ l.high) × Fits w64 l.high

abbrev pub decreases-loop-low : goal.decreases-loop-low
decreases-loop-low l = l.high - l.low
