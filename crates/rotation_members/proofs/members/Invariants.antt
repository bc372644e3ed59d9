-- `members` meets its contract: the list is filled with the members below unit i, and the old panel and the births are passed as far.
use mathlib.Core.Path.{◌≡◌}
use Rattle.rotation_members.proofs.Turning.{At}
use Rattle.rotation_members.proofs.members.Given as goal

abbrev pub invariant-loop-i : goal.invariant-loop-i
invariant-loop-i l =
    (l.panel.list.now ≡ l.candidates.panel.now) × (l.births.list.now ≡ l.candidates.births.now)
    × At l.frame l.marks l.candidates l.initial.places l.places l.count l.panel.at l.births.at l.i
