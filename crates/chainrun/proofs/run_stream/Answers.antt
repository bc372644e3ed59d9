-- A turn that goes on has read a command, and the rest is shorter.
use mathlib.Core.Path.{sym, ap, ◌∙◌}
use lib.ListN.{length}
use native.Mathlib.Omega.{arith}
use borrow.Author.Tests.{not-false}
use Rattle.job_state.specs.State.{job_of}
use Rattle.job_turn.proofs.Whole.{rest_shorter}
use Rattle.chainrun.proofs.run_stream.Goals as goal

pub loop-unread-smaller : goal.loop-unread-smaller
loop-unread-smaller c =
    let more = sym c.turn-turned.ensures.goes ∙ not-false _ c.if-not-turned.false in
    omega (arith, ap length c.unread-unread.ensures, rest_shorter _ c.loop-unread.unread.now (job_of c.loop-unread.turned.job) more)
