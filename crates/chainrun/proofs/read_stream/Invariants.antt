-- The count is within the buffer: a read gives no more bytes than the part that it is lent has, and a turn that goes on gave at least one.
use Rattle.std.proofs.Common.{◌≤◌, ◌-◌, length}
use Rattle.chainrun.proofs.read_stream.Given as goal

abbrev pub invariant-loop-done : goal.invariant-loop-done
invariant-loop-done g l = l.done ≤ length l.bytes

abbrev pub decreases-loop-done : goal.decreases-loop-done
decreases-loop-done g l = length l.initial.bytes - l.done
