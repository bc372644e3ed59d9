-- The bound of a short list tells who is sampled: where as many units are within it as have no key and n more, those are the units without a key and the n
-- sampled ones. Units without a key have the part 0, which is below the bound's; of the others, who is within comes before who is not.
use mathlib.Core.Path.{◌≡◌, sym, ap, ◌∙◌}
use mathlib.Core.Logic.{⊎_elim}
use mathlib.Core.Bool.{Bool, true, false}
use mathlib.Core.List.{List}
use Prim.Native.Nat.{ℕ, ◌+◌, ◌*◌, ◌/◌, ◌<◌}
use native.Mathlib.Nat.{div-eq_of_lt-le}
use native.Mathlib.Omega.{arith}
use lib.ListN.{length, get_or}
use lib.Dec.{ltb}
use borrow.Author.Tests.{lt-ltb, le-leb, eqb-true}
use Rattle.rules.specs.Tests.{◌or◌, ◌and◌}
use Rattle.rules.specs.Selection.{count}
use Rattle.rules.specs.Draw.{shifted}
use Rattle.rules.proofs.Tests.{and_left, and_right, and_true, and_on, or_on, or_off, by_test}
use Rattle.selection.proofs.Sums.{sum_same, count_or}
use Rattle.selection.proofs.Orders.{by_left, by_right}
use Rattle.selection.proofs.Segment.{Segment, segment_firsts}
use Rattle.draw_key.specs.declared.Setting.{Setting}
use Rattle.draw_key.specs.Units.{num_of, den_of, key_less, key_order, keyless, has_key, sampled_of, Units}
use Rattle.draw_key.proofs.Keys.{unit_positive, key_is_order}
use Rattle.draw_bound.specs.declared.Bound.{Bound}
use Rattle.draw_bound.specs.Bound.{reach_of, near, part_of, passes, within}
use Rattle.draw_list.specs.Found.{Bounds}
use Rattle.draw_list.proofs.Bounded.{bound_parts}

-- a numerator of 0 has the part 0
zero_part : (a scale d : ℕ) → a ≡ 0 → 0 < d → a * scale / d ≡ 0
zero_part a scale d e some =
    let none : a * scale ≡ 0 * scale = ap (λ (n : ℕ). n * scale) e in
    div-eq_of_lt-le d (omega arith) (omega arith)

module _ {ts rs gs : List ℕ} {s : Setting} {z : ℕ} {b : Bound} (ok : Units ts rs gs s) (size : count (keyless gs) (length ts) + s.n ≡ z) (h : Bounds ts rs gs s z b) where
  abbrev bounded : ℕ → Bool
  bounded = within ts rs gs s b

  -- ---- units without a key are within
  zero_num : (i : ℕ) → keyless gs i ≡ true → num_of rs gs s i ≡ 0
  unfolding num_of
  zero_num i e = ap (λ (n : ℕ). shifted s.start (get_or rs i 0) * n) (eqb-true (get_or gs i 0) 0 e) ∙ omega arith

  keyless_within : (i : ℕ) → i < length ts → keyless gs i ≡ true → bounded i ≡ true
  unfolding within near passes part_of
  keyless_within i l e =
      let zero = zero_num i e in
      let low = zero_part (num_of rs gs s i) b.scale (den_of ts rs s i) zero (unit_positive ok i l) in
      and_true (near ts rs gs s i) (passes b (part_of ts rs gs s b.scale i) i)
      (le-leb (num_of rs gs s i) (reach_of s.n * den_of ts rs s i) (omega arith))
      (or_on (ltb (part_of ts rs gs s b.scale i) b.part) _ (lt-ltb (part_of ts rs gs s b.scale i) b.part (omega (arith, h.some))))

  -- ---- the others: who is within comes first
  chosen : ℕ → Bool
  chosen i = has_key gs i and bounded i

  ahead : (i j : ℕ) → i < length ts → j < length ts → chosen i ≡ true → has_key gs j ≡ true → chosen j ≡ false → key_order ts rs gs s i j ≡ true
  unfolding key_order chosen
  ahead i j li lj ci aj cj =
      ⊎_elim
      (λ k. by_left (key_less ts rs gs s) i j k)
      (λ k. by_right (key_less ts rs gs s) i j k.0 k.1)
      (bound_parts ts rs gs s z b (unit_positive ok) h i j li lj (and_right (has_key gs i) (bounded i) ci) (sym (and_on (has_key gs j) (bounded j) aj) ∙ cj))

  segment : Segment (has_key gs) (key_order ts rs gs s) (length ts) chosen
  unfolding chosen
  segment = record { marked = λ i l c. and_left (has_key gs i) (bounded i) c; ahead = ahead }

  -- ---- how many
  both : (i : ℕ) → i < length ts → (keyless gs i or chosen i) ≡ bounded i
  unfolding chosen ◌or◌ ◌and◌
  both i l = by_test (keyless gs i) (λ e. rw e (sym (keyless_within i l e))) (λ e. rw e)

  chosen_count : count chosen (length ts) ≡ s.n
  unfolding chosen count
  chosen_count =
      let parts = count_or (keyless gs) bounded (length ts) in
      let same = sum_same (λ i. keyless gs i or chosen i) bounded (λ i. 1) (length ts) both in
      omega (arith, h.exactly, size)

  -- THE PANEL: within the bound are the units without a key and the sampled ones, and nobody else
  pub within_is : (i : ℕ) → i < length ts → bounded i ≡ (keyless gs i or sampled_of ts rs gs s i)
  unfolding sampled_of
  within_is i l = sym (both i l) ∙ ap (λ (x : Bool). keyless gs i or x) (segment_firsts (key_is_order ok) segment s.n chosen_count i l)

  pub within_sampled : (i : ℕ) → i < length ts → keyless gs i ≡ false → bounded i ≡ sampled_of ts rs gs s i
  within_sampled i l e = within_is i l ∙ or_off (keyless gs i) _ e
