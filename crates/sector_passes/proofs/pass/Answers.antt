-- Each turn leaves the marks as the pass says (`Passed`); the two products of a turn fit.
use mathlib.Core.Path.{◌≡◌, refl, ap, ◌∙◌, subst}
use mathlib.Core.Bool.{false}
use Prim.Native.Nat.{ℕ, ◌≤◌, ◌<◌}
use native.Mathlib.Omega.{arith}
use borrow.Author.Tests.{lt-ltb, le-ltb}
use lib.ListN.{length, length-set}
use Rattle.rules.specs.Allocation.{sectors}
use Rattle.sector_judge.specs.Sharing.{sharing_of}
use Rattle.sector_passes.specs.Marks.{still_in, is_below}
use Rattle.sector_passes.proofs.Passed.{Passed, passed_none, passed_same, passed_all, turn_gone, turn_stays, turn_leaves}
use Rattle.sector_passes.proofs.Settling.{beyond_below}
use Rattle.sector_passes.proofs.pass.Goals.{then-gone-i-eq0+then-left-strength, else-gone-i-eq0, else-gone-i-eq0-via-then-gone-i-eq0+else-left-strength, else-gone-i-eq0-via-else-gone-i-eq0}
use Rattle.sector_passes.proofs.pass.Goals as goal

pub loop-i-init : goal.loop-i-init
loop-i-init c = record { most = omega arith; few = omega arith; same = refl; marks = passed_none _ _ }

pub loop-i-preserved : goal.loop-i-preserved
loop-i-preserved c =
    let a = c.args in
    let still = still_in a.gone.now in
    let below = is_below a.left.rest a.left.total (sharing_of a.sharing.now) in
    let at = c.loop-i in
    let l = c.loop-i-test.true in
    let room : at.i < length at.gone = omega (arith, l, at.invariant.same, c.requires.room) in
    elim c.if-gone-i-eq0.branch [
      | then-gone-i-eq0+then-left-strength w ↦ record {
        most = omega (arith, l);
        few = omega (arith, w.leave-is, at.invariant.few);
        same = ap length w.gone-is ∙ simp length-set at.invariant.same;
        marks = passed_same still below _ _ _ _ _ w.gone-is w.leave-is
            (turn_leaves still below _ _ _ at.invariant.marks w.if-gone-i-eq0.true (lt-ltb _ _ w.if-left-strength.true) room);
      }
      | else-gone-i-eq0 w ↦ record {
        most = omega (arith, l);
        few = omega (arith, w.leave-is, at.invariant.few);
        same = ap length w.gone-is ∙ at.invariant.same;
        marks = passed_same still below _ _ _ _ _ w.gone-is w.leave-is (elim w.else-gone-i-eq0.branch [
          | else-gone-i-eq0-via-then-gone-i-eq0+else-left-strength v ↦ turn_stays still below _ _ _ at.invariant.marks v.if-gone-i-eq0.true (le-ltb _ _ v.if-left-strength.false)
          | else-gone-i-eq0-via-else-gone-i-eq0 v ↦ turn_gone still below _ _ _ at.invariant.marks v.if-gone-i-eq0.false
        ]);
      }
    ]

pub returns : goal.returns
returns c =
    let a = c.args in
    let still = still_in a.gone.now in
    let below = is_below a.left.rest a.left.total (sharing_of a.sharing.now) in
    let at = c.loop-i in
    let end : at.i ≡ sectors (sharing_of a.sharing.now) = omega (arith, at.invariant.most, c.loop-i-test.false) in
    let w = subst (λ (k : ℕ). Passed still below at.gone k at.leave) end at.invariant.marks in
    let beyond : (k : ℕ) → sectors (sharing_of a.sharing.now) ≤ k → below k ≡ false =
    λ k l. beyond_below a.left.rest a.left.total (sharing_of a.sharing.now) k (omega (arith, l, c.requires.same)) in
    record { value = w.many; by_index = passed_all still below _ _ _ beyond w }
