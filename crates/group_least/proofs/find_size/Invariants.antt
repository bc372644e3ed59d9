-- Each pass takes all who reach X, or finds that q fits (proofs/Passes).
use Prim.Native.Nat.{◌-◌}
use Rattle.group_least.proofs.Known.{Known}
use Rattle.group_least.proofs.find_size.Given as goal

abbrev pub invariant-loop-q : goal.invariant-loop-q
invariant-loop-q l = Known l.turnovers l.z l.total l.q l.rest l.least

abbrev pub decreases-loop-q : goal.decreases-loop-q
decreases-loop-q l = l.z - l.q
