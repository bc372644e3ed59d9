-- After j listed units, those of them within the bound are written: k of them.
use Prim.Native.Nat.{ℕ, ◌<◌}
use native.Mathlib.Omega.{arith}
use mathlib.Core.Path.{◌≡◌, refl, sym, ap, ◌∙◌}
use mathlib.Core.Bool.{Bool}
use mathlib.Core.List.{List}
use borrow.Author.Rules.{rules}
use lib.ListN.{length, get_or, take}
use lib.Seq.{get_or-take}
use Rattle.std.proofs.lemmas.List.{length-append}
use Rattle.std.proofs.lemmas.Slice.Zip.{zip_turn}
use Rattle.draw_bound.specs.declared.Bound.{Bound}
use Rattle.draw_bound.specs.Bound.{passes}
use Rattle.draw_list.specs.declared.found.Found.{Found}
use Rattle.draw_list.proofs.Searched.{listed_count}
use Rattle.draw_panel.specs.Panel.{weight_by}
use Rattle.draw_panel.proofs.Writing.{writing_none, writing_not, writing_more, writing_same, places}
use Rattle.draw_panel.proofs.write_found.Goals as goal

-- a place on the list that is lent
here :
    (r : Found) {list : List ℕ} → list ≡ take r.list.count r.list.units → (n : ℕ) → n < length list
    → (n < r.list.count) × (get_or list n 0 ≡ get_or r.list.units n 0)
here r e n l =
    let in_list : n < r.list.count = omega (arith, ap length e, listed_count r.list, l) in
    (in_list, ap (λ (xs : List ℕ). get_or xs n 0) e ∙ get_or-take r.list.count r.list.units n 0 in_list)

-- what is asked is whether the unit at that place passes
asked :
    (b : Bound) (p i : ℕ) (b' : Bound) (p' i' : ℕ) {r : Bool} → r ≡ passes b' p' i' → b'.part ≡ b.part → b'.last ≡ b.last → p' ≡ p → i' ≡ i
    → passes b p i ≡ r
unfolding passes
asked b p i b' p' i' e part last f g = sym (e ∙ rw (part, last, f, g) refl)

pub listed-init : goal.listed-init
listed-init c = writing_none

pub write-requires : goal.write-requires
write-requires c =
    let found = c.args.found.now in
    let n = length c.listed.yielded in
    let turn = zip_turn c.listed-2.result.now found.parts c.listed.yielded c.into_iter-i-iterator.result c.listed.i-iterator c.next.new.self c.next.result (search rules) (search rules) c.listed.yielded_by _ c.in-Some.is c.next.ensures.steps in
    let at = here found c.listed-2.ensures n turn.0 in
    let unit = turn.2 0 ∙ at.1 in
    let passed = asked found.bound (get_or found.parts n 0) (get_or found.list.units n 0) _ _ _ c.is_passed.ensures (omega arith) (omega arith) (omega (arith, turn.3 0)) (omega (arith, unit)) ∙ c.if-is_passed.true in
    let room = places c.listed.invariant found.list.count at.0 passed c.requires.count_in_bounds.0 c.requires.count_in_bounds.1 in
    record {
      unit = rw unit (c.requires.passing.low n at.0);
      place = (omega (arith, room.0, c.listed.invariant.panel_room), omega (arith, room.1, c.listed.invariant.weights_room));
    }

pub overflow_add-k : goal.overflow_add-k
overflow_add-k c =
    let found = c.args.found.now in
    let n = length c.listed.yielded in
    let turn = zip_turn c.listed-2.result.now found.parts c.listed.yielded c.into_iter-i-iterator.result c.listed.i-iterator c.next.new.self c.next.result (search rules) (search rules) c.listed.yielded_by _ c.in-Some.is c.next.ensures.steps in
    let at = here found c.listed-2.ensures n turn.0 in
    let unit = turn.2 0 ∙ at.1 in
    let passed = asked found.bound (get_or found.parts n 0) (get_or found.list.units n 0) _ _ _ c.is_passed.ensures (omega arith) (omega arith) (omega (arith, turn.3 0)) (omega (arith, unit)) ∙ c.if-is_passed.true in
    let room = places c.listed.invariant found.list.count at.0 passed c.requires.count_in_bounds.0 c.requires.count_in_bounds.1 in
    omega (arith, room.1, c.well_formed)

pub listed-preserved-then-is_passed : goal.listed-preserved-then-is_passed
listed-preserved-then-is_passed c =
    let found = c.args.found.now in
    let n = length c.listed.yielded in
    let turn = zip_turn c.listed-2.result.now found.parts c.listed.yielded c.into_iter-i-iterator.result c.listed.i-iterator c.next.new.self c.next.result (search rules) (search rules) c.listed.yielded_by _ c.in-Some.is c.next.ensures.steps in
    let at = here found c.listed-2.ensures n turn.0 in
    let unit = turn.2 0 ∙ at.1 in
    let passed = asked found.bound (get_or found.parts n 0) (get_or found.list.units n 0) _ _ _ c.is_passed.ensures (omega arith) (omega arith) (omega (arith, turn.3 0)) (omega (arith, unit)) ∙ c.if-is_passed.true in
    let room = places c.listed.invariant found.list.count at.0 passed c.requires.count_in_bounds.0 c.requires.count_in_bounds.1 in
    rw (length-append c.listed.yielded _)
    (writing_same c.write.ensures.panel_after c.write.ensures.weights_after refl
    (writing_more c.listed.invariant passed room.0 room.1 (ap (λ (u : ℕ). get_or c.args.w.now.numbers.now u 0) unit)
    (ap (weight_by c.args.w.now.turnovers.now c.args.w.now.marks.now c.args.w.now.setting) unit)))

pub listed-preserved : goal.listed-preserved
listed-preserved c =
    let found = c.args.found.now in
    let n = length c.listed.yielded in
    let turn = zip_turn c.listed-2.result.now found.parts c.listed.yielded c.into_iter-i-iterator.result c.listed.i-iterator c.next.new.self c.next.result (search rules) (search rules) c.listed.yielded_by _ c.in-Some.is c.next.ensures.steps in
    let at = here found c.listed-2.ensures n turn.0 in
    let unit = turn.2 0 ∙ at.1 in
    let passed = asked found.bound (get_or found.parts n 0) (get_or found.list.units n 0) _ _ _ c.is_passed.ensures (omega arith) (omega arith) (omega (arith, turn.3 0)) (omega (arith, unit)) ∙ c.if-is_passed.false in
    rw (length-append c.listed.yielded _) (writing_not c.listed.invariant passed)
