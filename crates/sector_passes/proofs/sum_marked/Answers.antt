-- The values with the mark, added.
use native.Mathlib.Omega.{arith}
use mathlib.Core.Path.{◌≡◌, ap}
use mathlib.Core.List.{[], ◌∷◌, ◌++◌}
use Prim.Native.Nat.{ℕ, ◌+◌, min}
use lib.ListN.{length, length-append}
use lib.Dec.{eqb}
use Rattle.std.proofs.Common.{rules}
use Rattle.std.proofs.lemmas.Slice.Zip.{zip_turn, zip_end}
use Rattle.sector_passes.specs.Marks.{marked_as}
use Rattle.sector_passes.proofs.Marked.{marked_is}
use Rattle.sector_passes.proofs.Summed.{summed_none, summed_room, summed_in, summed_out, summed_all}
use Rattle.sector_passes.proofs.sum_marked.Goals as goal

pub loop-value-init : goal.loop-value-init
loop-value-init c = summed_none _ _

pub overflow_add-sum : goal.overflow_add-sum
overflow_add-sum c =
    let a = c.args in
    let at = c.loop-value in
    let turn = zip_turn a.values.now a.gone.now at.yielded c.into_iter-value-iterator.result at.value-iterator c.next.new.self c.next.result (search rules) (search rules) at.yielded_by (c.in-Some.value, c.in-Some.mark) c.in-Some.is c.next.ensures.steps in
    let here = marked_is a.gone.now (length at.yielded) a.still _ _ c.if-mark-still.true (ap (λ (m : ℕ). eqb m 0) (turn.3 0)) in
    omega (arith, turn.2 0, summed_room (marked_as a.still a.gone.now) _ _ _ at.invariant a.gone.now c.requires turn.0 here)

pub loop-value-preserved-then-mark-still : goal.loop-value-preserved-then-mark-still
loop-value-preserved-then-mark-still c =
    let a = c.args in
    let at = c.loop-value in
    let turn = zip_turn a.values.now a.gone.now at.yielded c.into_iter-value-iterator.result at.value-iterator c.next.new.self c.next.result (search rules) (search rules) at.yielded_by (c.in-Some.value, c.in-Some.mark) c.in-Some.is c.next.ensures.steps in
    let here = marked_is a.gone.now (length at.yielded) a.still _ _ c.if-mark-still.true (ap (λ (m : ℕ). eqb m 0) (turn.3 0)) in
    let more : length (at.yielded ++ (c.in-Some.value, c.in-Some.mark) ∷ []) ≡ length at.yielded + 1 = rw length-append in
    rw more (summed_in (marked_as a.still a.gone.now) _ _ _ at.invariant _ turn.0 here (omega (arith, turn.2 0)))

pub loop-value-preserved : goal.loop-value-preserved
loop-value-preserved c =
    let a = c.args in
    let at = c.loop-value in
    let turn = zip_turn a.values.now a.gone.now at.yielded c.into_iter-value-iterator.result at.value-iterator c.next.new.self c.next.result (search rules) (search rules) at.yielded_by (c.in-Some.value, c.in-Some.mark) c.in-Some.is c.next.ensures.steps in
    let here = marked_is a.gone.now (length at.yielded) a.still _ _ c.if-mark-still.false (ap (λ (m : ℕ). eqb m 0) (turn.3 0)) in
    let more : length (at.yielded ++ (c.in-Some.value, c.in-Some.mark) ∷ []) ≡ length at.yielded + 1 = rw length-append in
    rw more (summed_out (marked_as a.still a.gone.now) _ _ _ at.invariant _ turn.0 here (omega arith))

pub returns : goal.returns
returns c =
    let a = c.args in
    let at = c.loop-value in
    let all : length at.yielded ≡ min (length a.values.now) (length a.gone.now) = zip_end a.values.now a.gone.now at.yielded c.into_iter-value-iterator.result at.value-iterator c.next.new.self c.next.result (search rules) (search rules) at.yielded_by c.in-None.is c.next.ensures.steps in
    summed_all (marked_as a.still a.gone.now) _ _ _ at.invariant (omega (arith, all, c.requires.room))
