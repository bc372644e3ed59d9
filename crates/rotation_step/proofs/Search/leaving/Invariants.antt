-- `Search::leaving` meets its contract: those of the first j members that are not sampled are counted.
use mathlib.Core.Path.{◌≡◌}
use Prim.Native.Nat.{◌≤◌}
use Rattle.rules.specs.Selection.{count}
use Rattle.rotation_step.specs.Leaving.{member_leaves}
use Rattle.rotation_step.specs.Moved.{of}
use Rattle.rotation_step.proofs.Search.leaving.Given as goal

abbrev pub invariant-loop-i : goal.invariant-loop-i
invariant-loop-i l = (l.count ≤ l.i-index) × (l.count ≡ count (of member_leaves l.self) l.i-index)
