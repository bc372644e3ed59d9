-- After i turns the list holds those of the first i sectors that are still there (`Held`).
use mathlib.Core.Path.{◌≡◌, refl, ap, ◌∙◌, subst}
use Prim.Native.Nat.{ℕ, ◌≤◌}
use native.Mathlib.Omega.{arith}
use lib.ListN.{length, length-set}
use Rattle.selection.specs.Held.{Held}
use Rattle.selection.proofs.Held.{held_none, held_not, held_more, held_same}
use Rattle.sector_passes.specs.Marks.{still_in}
use Rattle.sector_passes.proofs.Marked.{still_on, still_off}
use Rattle.sector_more.proofs.list_still.Goals.{then-gone-i-eq0, else-gone-i-eq0}
use Rattle.sector_more.proofs.list_still.Goals as goal

pub loop-i-init : goal.loop-i-init
loop-i-init c = record { most = omega arith; few = omega arith; same = refl; held = held_none }

pub loop-i-preserved : goal.loop-i-preserved
loop-i-preserved c =
    let gone = c.args.gone.now in
    let at = c.loop-i in
    let more = c.loop-i-test.true in
    let few : at.many ≤ at.i = at.invariant.few in
    elim c.if-gone-i-eq0.branch [
      | then-gone-i-eq0 w ↦ record {
        most = omega (arith, more);
        few = omega (arith, few, w.many-is);
        same = ap length w.places-is ∙ simp length-set at.invariant.same;
        held = held_same w.places-is w.many-is
            (held_more (still_on gone at.i w.if-gone-i-eq0.true) (omega (arith, few, at.invariant.same, more, c.requires.1)) at.invariant.held);
      }
      | else-gone-i-eq0 w ↦ record {
        most = omega (arith, more);
        few = omega (arith, few, w.many-is);
        same = ap length w.places-is ∙ at.invariant.same;
        held = held_same w.places-is w.many-is (held_not (still_off gone at.i w.if-gone-i-eq0.false) at.invariant.held);
      }
    ]

pub returns : goal.returns
returns c =
    let a = c.args in
    let at = c.loop-i in
    let end : at.i ≡ a.sectors = omega (arith, at.invariant.most, c.loop-i-test.false) in
    subst (λ (n : ℕ). Held (still_in a.gone.now) (λ i. i) n at.places at.many) end at.invariant.held
