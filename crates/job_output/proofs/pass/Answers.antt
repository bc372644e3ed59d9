-- `pass`: each turn by the laws of `Passes`; it ends since each turn that goes on has read a command, and the rest is shorter.
use mathlib.Core.Path.{sym, ap, ◌∙◌}
use lib.ListN.{length}
use native.Mathlib.Omega.{arith}
use borrow.Author.Tests.{not-false, not-true}
use Rattle.job_state.specs.State.{job_of}
use Rattle.job_turn.proofs.Whole.{rest_shorter}
use Rattle.job_output.proofs.Passes.{start, ends, again}
use Rattle.job_output.proofs.pass.Goals as goal

pub loop-turned-init : goal.loop-turned-init
loop-turned-init c = start c.args.stream.now c.args.out.now c.empty.result c.empty.ensures.1

pub returns-then-not-turned : goal.returns-then-not-turned
returns-then-not-turned c = ends _ _ _ c.loop-turned.unread.now c.loop-turned.turned.job _ c.loop-turned.invariant _ _ _ _ c.turn-turned.ensures c.lay.ensures.1 (not-true _ c.if-not-turned.true)

pub loop-turned-smaller : goal.loop-turned-smaller
loop-turned-smaller c = let more = sym c.turn-turned.ensures.goes ∙ not-false _ c.if-not-turned.false in
    omega (arith, ap length c.unread-unread.ensures, rest_shorter _ c.loop-turned.unread.now (job_of c.loop-turned.turned.job) more)

pub loop-turned-preserved : goal.loop-turned-preserved
loop-turned-preserved c = again _ _ _ c.loop-turned.unread.now c.loop-turned.turned.job _ c.loop-turned.invariant c.turn-turned.result _ _ _ c.turn-turned.ensures c.lay.ensures.1 _
    c.unread-unread.ensures (not-false _ c.if-not-turned.false) c.lay.ensures.0 c.lay.auto.out
