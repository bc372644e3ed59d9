-- The loop ends since each turn that goes on has read a command, and the rest is shorter. What is written is no part of a contract.
use Rattle.std.proofs.Common.{length}
use Rattle.chainrun.proofs.run_stream.Given as goal

abbrev pub decreases-loop-unread : goal.decreases-loop-unread
decreases-loop-unread l = length l.unread
