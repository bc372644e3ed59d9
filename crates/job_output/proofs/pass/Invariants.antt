-- `pass`: each turn by the laws of `Passes`; it ends since each turn that goes on has read a command, and the rest is shorter.
use lib.ListN.{length}
use Rattle.job_output.proofs.Passes.{Under}
use Rattle.job_output.proofs.pass.Given as goal

abbrev pub invariant-loop-turned : goal.invariant-loop-turned
invariant-loop-turned l = Under l.stream l.initial.out l.out l.unread l.turned.job l.at

abbrev pub decreases-loop-turned : goal.decreases-loop-turned
decreases-loop-turned l = length l.unread
