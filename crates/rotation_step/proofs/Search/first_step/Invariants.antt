-- `Search::first_step` meets its contract: no step before k was enough, so the smallest is the smallest from k on.
use mathlib.Core.Path.{◌≡◌}
use Prim.Native.Nat.{◌-◌}
use Rattle.rules.specs.Limits.{steps}
use Rattle.rules.specs.Selection.{least_from}
use Rattle.rotation_step.specs.Leaving.{enough_leave, first_step}
use Rattle.rotation_step.specs.Moved.{of}
use Rattle.rotation_step.proofs.Search.first_step.Given as goal

abbrev pub invariant-loop-k : goal.invariant-loop-k
invariant-loop-k l = of first_step l.self l.need ≡ least_from (of enough_leave l.self l.need) (steps - l.k) l.k
