-- `Search::leaving` meets its contract: those of the first j members that are not sampled are counted.
use mathlib.Core.Path.{◌≡◌, sym, ap, ◌∙◌}
use mathlib.Core.Bool.{not}
use native.Mathlib.Omega.{arith}
use lib.ListN.{length}
use Rattle.selection.proofs.Sums.{count_zero, count_yes, count_not}
use Rattle.rotation_step.specs.Leaving.{member_leaves, leaving}
use Rattle.rotation_step.proofs.Search.leaving.Goals.{then-not-is_sampled, else-not-is_sampled}
use Rattle.rotation_step.proofs.Search.leaving.Goals as goal

pub tell-told-requires : goal.tell-told-requires
tell-told-requires c = c.args.self.now.searched.sized

pub loop-i-init : goal.loop-i-init
loop-i-init c = (omega arith, sym (count_zero _))

pub is_sampled-requires : goal.is_sampled-requires
is_sampled-requires c = (c.tell-told.ensures, c.args.self.now.searched.low c.loop-i.i-index c.loop-i-test.true)

pub loop-i-preserved : goal.loop-i-preserved
unfolding member_leaves
loop-i-preserved c =
    let at = c.loop-i in
    let here = ap not (sym c.is_sampled.ensures) in
    elim c.if-not-is_sampled.branch [
      | then-not-is_sampled w ↦ (
        omega (arith, w.count-is),
        rw (w.count-is, at.invariant.1) (sym (count_yes _ at.i-index (here ∙ ap not w.if-not-is_sampled.true))),
      )
      | else-not-is_sampled w ↦ (
        omega (arith, w.count-is),
        rw (w.count-is, at.invariant.1) (sym (count_not _ at.i-index (here ∙ ap not w.if-not-is_sampled.false))),
      )
    ]

pub returns : goal.returns
unfolding leaving
returns c =
    let all : c.loop-i.i-index ≡ length c.args.self.now.members.now = omega arith in
    rw (← all) c.loop-i.invariant.1
