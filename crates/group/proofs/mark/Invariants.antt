-- After i turns the first i marks are written and the rest is as it was.
use mathlib.Core.Path.{◌≡◌}
use lib.ListN.{length}
use Rattle.rules.specs.Refusals.{written}
use Rattle.group_least.specs.Size.{has_least}
use Rattle.group.specs.Group.{marks_of}
use Rattle.group.proofs.mark.Given as goal

abbrev pub invariant-loop-i : goal.invariant-loop-i
invariant-loop-i l = (l.marks ≡ written 0 (marks_of (has_least l.turnovers l.least) l.i) l.initial.marks) × (length l.marks ≡ length l.initial.marks)
