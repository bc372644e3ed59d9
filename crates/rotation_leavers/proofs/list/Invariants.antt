-- `list` meets its contract: the list is filled with those of the first j members that are not sampled.
use lib.ListN.{get_or}
use Rattle.rotation_members.specs.Filled.{Filled}
use Rattle.rotation_step.specs.Leaving.{member_leaves}
use Rattle.rotation_step.specs.Moved.{of}
use Rattle.rotation_leavers.proofs.list.Given as goal

abbrev pub invariant-loop-i : goal.invariant-loop-i
invariant-loop-i l =
    Filled (of member_leaves l.search) (λ k. get_or l.search.members.now k 0) l.i-index l.initial.places l.places l.count
