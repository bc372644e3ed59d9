-- Refused: every list is as it was. Else the count and the lists' lengths are what `fill` asks, and its lists are the defined ones.
use mathlib.Core.Path.{◌≡◌, sym, ◌∙◌}
use mathlib.Core.Bool.{false}
use Prim.Native.Nat.{ℕ, ◌≤◌, ◌<◌}
use borrow.Author.Tests.{leb-false, ltb-false}
use Rattle.rules.specs.Limits.{most_frame, state_range}
use Rattle.rules.specs.Refusals.{refuse}
use Rattle.rules.specs.Load.{bad_load, load_refusal, load_answer, load_numbers, load_turnovers, load_randoms}
use Rattle.rules.proofs.Tests.{or_false}
use Rattle.frame_made.proofs.load.Goals as goal

-- what an accepted call has
facts : (start count n t r : ℕ) → bad_load start count n t r ≡ false → (start < state_range) × (count ≤ most_frame) × (count ≤ n) × (count ≤ t) × (count ≤ r)
unfolding bad_load
facts start count n t r e =
    let e5 = or_false _ _ e in
    let e4 = or_false _ _ e5.0 in
    let e3 = or_false _ _ e4.0 in
    let e2 = or_false _ _ e3.0 in
    let e1 = or_false _ _ e2.0 in
    (leb-false _ _ e1.0, ltb-false _ _ e2.1, ltb-false _ _ e3.1, ltb-false _ _ e4.1, ltb-false _ _ e5.1)

pub returns-then-bad_load : goal.returns-then-bad_load
unfolding load_answer load_numbers load_turnovers load_randoms load_refusal refuse
returns-then-bad_load c = let bad = sym c.bad_load.ensures ∙ c.if-bad_load.true in
    record { result_value = simp bad; numbers_after = simp bad; turnovers_after = simp bad; randoms_after = simp bad }

pub fill-requires : goal.fill-requires
fill-requires c = facts _ _ _ _ _ (sym c.bad_load.ensures ∙ c.if-bad_load.false)

pub returns : goal.returns
unfolding load_answer load_numbers load_turnovers load_randoms load_refusal refuse
returns c = let good = sym c.bad_load.ensures ∙ c.if-bad_load.false in
    record { result_value = simp good; numbers_after = simp good c.fill.ensures.numbers_after; turnovers_after = simp good c.fill.ensures.turnovers_after; randoms_after = simp good c.fill.ensures.randoms_after }
