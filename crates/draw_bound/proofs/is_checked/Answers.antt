-- Of the listed units looked at so far, those that pass are counted, and each of the bound's own part is on its side.
use Prim.Native.Nat.{ℕ, ◌+◌}
use native.Mathlib.Omega.{arith}
use mathlib.Core.Path.{◌≡◌, sym, ap, ap₂, subst, ◌∙◌}
use borrow.Author.Rules.{rules}
use borrow.Author.Count.{below_none, below_more}
use borrow.Author.Tests.{eqb-true}
use lib.ListN.{length, get_or}
use Rattle.std.proofs.lemmas.List.{length-append}
use Rattle.std.proofs.lemmas.Slice.Zip.{zip_turn, zip_end}
use Rattle.rules.specs.Selection.{count}
use Rattle.selection.proofs.Sums.{count_zero, count_yes, count_not}
use Rattle.draw_key.specs.Keyed.{over}
use Rattle.draw_bound.specs.Bound.{passes, Apart}
use Rattle.draw_bound.proofs.is_checked.Goals.{else-part-b-via-then-part-b+else-not-is_apart, else-part-b-via-else-part-b}
use Rattle.draw_bound.proofs.is_checked.Goals as goal

pub listed-init : goal.listed-init
listed-init c = (omega arith, sym (count_zero _), below_none _)

pub overflow_add-many : goal.overflow_add-many
overflow_add-many c =
    let turn = zip_turn c.args.units.now c.args.parts.now c.listed.yielded c.into_iter-i-iterator.result c.listed.i-iterator c.next.new.self c.next.result (search rules) (search rules) c.listed.yielded_by _ c.in-Some.is c.next.ensures.steps in
    omega (arith, turn.0, c.listed.invariant.0, c.well_formed)

pub listed-preserved-then-is_passed : goal.listed-preserved-then-is_passed
listed-preserved-then-is_passed c =
    let inv = c.listed.invariant in
    let turn = zip_turn c.args.units.now c.args.parts.now c.listed.yielded c.into_iter-i-iterator.result c.listed.i-iterator c.next.new.self c.next.result (search rules) (search rules) c.listed.yielded_by _ c.in-Some.is c.next.ensures.steps in
    let n = length c.listed.yielded in
    let passed = ap₂ (λ (p i : ℕ). passes c.args.b p i) (sym (turn.3 0)) (sym (turn.2 0)) ∙ sym c.is_passed.ensures ∙ c.if-is_passed.true in
    rw (length-append c.listed.yielded _) (
      omega (arith, inv.0),
      ap (λ (n : ℕ). n + 1) inv.1 ∙ sym (count_yes _ n passed),
      below_more _ n inv.2
          (elim c.else-part-b.branch [
            | else-part-b-via-then-part-b+else-not-is_apart w ↦ λ e. subst (λ (i : ℕ). over Apart c.args.keyed.now c.args.b i) (turn.2 0) (w.is_apart.ensures w.if-not-is_apart.false)
            | else-part-b-via-else-part-b w ↦ λ e. absurd (w.if-part-b.false (turn.3 0 ∙ e))
          ]),
    )

pub listed-preserved : goal.listed-preserved
listed-preserved c =
    let inv = c.listed.invariant in
    let turn = zip_turn c.args.units.now c.args.parts.now c.listed.yielded c.into_iter-i-iterator.result c.listed.i-iterator c.next.new.self c.next.result (search rules) (search rules) c.listed.yielded_by _ c.in-Some.is c.next.ensures.steps in
    let n = length c.listed.yielded in
    let passed = ap₂ (λ (p i : ℕ). passes c.args.b p i) (sym (turn.3 0)) (sym (turn.2 0)) ∙ sym c.is_passed.ensures ∙ c.if-is_passed.false in
    rw (length-append c.listed.yielded _) (
      omega (arith, inv.0),
      inv.1 ∙ sym (count_not _ n passed),
      below_more _ n inv.2
          (elim c.else-part-b.branch [
            | else-part-b-via-then-part-b+else-not-is_apart w ↦ λ e. subst (λ (i : ℕ). over Apart c.args.keyed.now c.args.b i) (turn.2 0) (w.is_apart.ensures w.if-not-is_apart.false)
            | else-part-b-via-else-part-b w ↦ λ e. absurd (w.if-part-b.false (turn.3 0 ∙ e))
          ]),
    )

pub returns : goal.returns
returns c = λ h.
    let inv = c.listed.invariant in
    let all = zip_end c.args.units.now c.args.parts.now c.listed.yielded c.into_iter-i-iterator.result c.listed.i-iterator c.next.new.self c.next.result (search rules) (search rules) c.listed.yielded_by c.in-None.is c.next.ensures.steps in
    let n : length c.listed.yielded ≡ length c.args.units.now = omega (arith, all, c.requires.1) in
    record {
      some = omega arith;
      last_low = omega arith;
      exactly = ap (λ (n : ℕ). count (λ k. passes c.args.b (get_or c.args.parts.now k 0) (get_or c.args.units.now k 0)) n) (sym n) ∙ sym inv.1 ∙ eqb-true _ _ h;
      apart = λ j l e. inv.2 j (omega (arith, n, l)) e;
    }
