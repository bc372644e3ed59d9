-- THE BRIDGE from keys over gaps to the definitions, crossed here and nowhere else: by either method, for every group of the rules that the marks tell and that
-- is sound, who is sampled by the gaps is who the definitions sample. Draw and rotation, and a group that is not the largest units, all cite this.
use mathlib.Core.Path.{◌≡◌, refl, sym, ap, ap₂, ◌∙◌}
use mathlib.Core.Bool.{Bool, true, false, not}
use mathlib.Core.List.{List}
use Prim.Native.Nat.{ℕ, ◌+◌, ◌-◌, ◌*◌, ◌≤◌, ◌<◌}
use native.Mathlib.Omega.{arith}
use native.Mathlib.Nat.{mul-pos, mul-le-mul_right, mul-lt-mul_of_pos_right, zero-mul, sub-zero}
use lib.ListN.{length, get_or}
use lib.Dec.{lit<}
use borrow.Author.Tests.{eq-eqb, ne_eqb, lt-ltb, le-ltb, not-true}
use Rattle.rules.specs.Limits.{random_range}
use Rattle.rules.specs.Tests.{◌or◌}
use Rattle.rules.specs.Selection.{count, by_key, firsts}
use Rattle.rules.specs.TakeAll.{Frame, turnover, base_weight, Group as RulesGroup}
use Rattle.rules.specs.Draw.{key_numerator, key_denominator, fraction_below, key_below, not_take_all, sampled_by, drawn_by}
use Rattle.rules.proofs.Tests.{by_test, by_order}
use Rattle.frame.proofs.Accepted.{Accepted}
use Rattle.selection.proofs.Sums.{sum_same, count_both}
use Rattle.selection.proofs.Orders.{firsts_zero, firsts_same, by_same}
use Rattle.group.specs.Group.{rules_group, Agree, Sound}
use Rattle.draw_key.specs.declared.Method.{Method}
use Rattle.draw_key.specs.declared.Method.TheVariants.{Pareto, SequentialPoisson}
use Rattle.draw_key.specs.declared.Setting.{Setting}
use Rattle.draw_key.specs.Methods.{method_of, taken_off, denominator_by}
use Rattle.draw_key.specs.Units.{num_of, den_of, key_less, key_order, keyless, has_key, sampled_of, Units}
use Rattle.draw_key.proofs.Keys.{taken_low, sampled_none}
use Rattle.draw_gaps.specs.Gaps.{gap_of, Gaps}

-- A COMMON FACTOR: keys over gaps are in the order of the definitions' keys. The Pareto key is its own; of a sequential Poisson key r over turnover, X over
-- 1,000,000 is the factor.
scaled_below : (a b c d p q : ℕ) → 0 < p → 0 < q → fraction_below (a * p) (q * b) (c * p) (q * d) ≡ fraction_below a b c d
unfolding fraction_below
scaled_below a b c d p q some some' =
    let factor : 0 < p * q = mul-pos some some' in
    by_order (a * d) (c * b)
    (λ h. lt-ltb (a * p * (q * d)) (c * p * (q * b)) (omega (arith, mul-lt-mul_of_pos_right h factor)) ∙ sym (lt-ltb (a * d) (c * b) h))
    (λ h. le-ltb (a * p * (q * d)) (c * p * (q * b)) (omega (arith, mul-le-mul_right (p * q) h)) ∙ sym (le-ltb (a * d) (c * b) h))

same_order :
    (m : Method) (g : RulesGroup) (t r t' r' : ℕ) → 0 < g.rest
    → fraction_below (r * (g.rest - taken_off m g.sample_size * t)) (denominator_by m t r) (r' * (g.rest - taken_off m g.sample_size * t')) (denominator_by m t' r')
    ≡ fraction_below (key_numerator (method_of m) g t r) (key_denominator (method_of m) t r) (key_numerator (method_of m) g t' r') (key_denominator (method_of m) t' r')
unfolding taken_off denominator_by key_numerator key_denominator
same_order Pareto g t r t' r' some = refl
same_order SequentialPoisson g t r t' r' some = simp (zero-mul, sub-zero) (scaled_below r t r' t' g.rest random_range some (lit< tt))

module _ (f : Frame) (s : Setting) {marks gs : List ℕ} {z : ℕ} {r : RulesGroup} (sound : Sound f.turnovers z r)
    (agree : Agree (length f.turnovers) (rules_group marks s.n s.rest) r) (filled : Gaps f.turnovers marks s.method s.n s.rest gs) where
  -- ---- the gap of one unit
  pub gap_inside : (i : ℕ) → i < length f.turnovers → r.takes_all i ≡ true → get_or gs i 0 ≡ 0
  unfolding gap_of
  gap_inside i l h = filled.at i l ∙ rw (agree.takes i l ∙ h)

  gap_outside :
      (i : ℕ) → i < length f.turnovers → r.takes_all i ≡ false
      → get_or gs i 0 ≡ r.rest - taken_off s.method r.sample_size * turnover f.turnovers i
  unfolding gap_of
  gap_outside i l h = filled.at i l ∙ rw (agree.takes i l ∙ h, agree.size_is, agree.rest_is)

  gap_low : (i : ℕ) → i < length f.turnovers → get_or gs i 0 ≤ r.rest
  gap_low i l = by_test (r.takes_all i) (λ h. omega (arith, gap_inside i l h)) (λ h. omega (arith, gap_outside i l h))

  -- where any unit is sampled, n × turnover is below X outside take-all
  below : 0 < s.n → (i : ℕ) → i < length f.turnovers → r.takes_all i ≡ false → r.sample_size * turnover f.turnovers i < r.rest
  below some i l h = sound.below (omega (arith, agree.size_is)) i l h

  -- a unit with a gap has n × turnover at most X
  gap_some : (i : ℕ) → i < length f.turnovers → 0 < get_or gs i 0 → s.n * turnover f.turnovers i ≤ r.rest
  gap_some i l some =
      by_order 0 s.n
      (λ any. by_test (r.takes_all i)
      (λ h. absurd (omega (arith, some, gap_inside i l h)))
      (λ h. rw agree.size_is (omega (arith, below any i l h))))
      (λ none. let zero : s.n ≡ 0 = omega arith in rw zero (omega arith))

  -- where any unit is sampled, the units without a key are the take-all group
  pub keyless_is : 0 < s.n → (i : ℕ) → i < length f.turnovers → keyless gs i ≡ r.takes_all i
  keyless_is some i l =
      by_test (r.takes_all i)
      (λ h. eq-eqb (get_or gs i 0) 0 (gap_inside i l h) ∙ sym h)
      (λ h. ne_eqb (get_or gs i 0) 0
      (λ e.
      let off = mul-le-mul_right (turnover f.turnovers i) (taken_low s.method r.sample_size) in
      omega (arith, gap_outside i l h, below some i l h, off))
      ∙ sym h)

  pub keyless_size : 0 < s.n → count (keyless gs) (length f.turnovers) + s.n ≡ z
  unfolding count
  keyless_size some = omega (arith, sum_same (keyless gs) r.takes_all (λ i. 1) (length f.turnovers) (keyless_is some), sound.parts, agree.size_is)

  -- ---- what the functions of keys ask for: a frame accepted with any start is ready for every other
  pub units_of_lem : {judged : ℕ} → Accepted f z judged → s.start < random_range → Units f.turnovers f.randoms gs s
  units_of_lem ok low = record {
    same = ok.randoms_length;
    room = filled.room;
    positive = ok.units.positive;
    within = λ i l. ok.units.within i;
    random_low_lem = ok.random_low;
    start_low_lem = low;
    gap_low = λ i l. omega (arith, gap_low i l, sound.rest_low, ok.units.total);
    size_low = omega (arith, sound.parts, agree.size_is, ok.units.size_few);
    product_low = λ i l some. omega (arith, gap_some i l some, sound.rest_low, ok.units.total);
    enough = by_order 0 s.n
        (λ some. omega (arith, keyless_size some, count_both (keyless gs) (length f.turnovers), ok.units.size_within))
        (λ none. omega arith);
  }

  -- ---- who is sampled
  -- outside take-all, keys over gaps are in the order of the keys
  less_is :
      0 < s.n → (j i : ℕ) → j < length f.turnovers → i < length f.turnovers → r.takes_all j ≡ false → r.takes_all i ≡ false
      → key_less f.turnovers f.randoms gs s j i ≡ key_below (method_of s.method) f r s.start j i
  unfolding key_less key_below num_of den_of
  less_is some j i lj li ej ei =
      rw (gap_outside j lj ej, gap_outside i li ei) (same_order s.method r _ _ _ _ (omega (arith, below some i li ei)))

  order_is :
      0 < s.n → (j i : ℕ) → j < length f.turnovers → i < length f.turnovers → has_key gs j ≡ true → has_key gs i ≡ true
      → key_order f.turnovers f.randoms gs s j i ≡ by_key (key_below (method_of s.method) f r s.start) j i
  unfolding key_order
  order_is some j i lj li hj hi =
      let ej = sym (keyless_is some j lj) ∙ not-true (keyless gs j) hj in
      let ei = sym (keyless_is some i li) ∙ not-true (keyless gs i) hi in
      by_same (key_less f.turnovers f.randoms gs s) j i (key_below (method_of s.method) f r s.start) (less_is some j i lj li ej ei)
      (less_is some i j li lj ei ej)

  -- THE BRIDGE
  pub sampled_is : (i : ℕ) → i < length f.turnovers → sampled_of f.turnovers f.randoms gs s i ≡ sampled_by (method_of s.method) f r s.start i
  unfolding sampled_of sampled_by
  sampled_is i l =
      by_order 0 s.n
      (λ some.
      firsts_same s.n (λ j m. ap not (keyless_is some j m)) (order_is some) i l
      ∙ ap (λ (n : ℕ). firsts (not_take_all r) (by_key (key_below (method_of s.method) f r s.start)) (length f.turnovers) n i) agree.size_is)
      (λ none.
      let zero : s.n ≡ 0 = omega arith in
      sampled_none f.turnovers f.randoms gs s i zero
      ∙ sym (ap (λ (n : ℕ). firsts (not_take_all r) (by_key (key_below (method_of s.method) f r s.start)) (length f.turnovers) n i) (sym agree.size_is ∙ zero)
      ∙ firsts_zero (not_take_all r) (by_key (key_below (method_of s.method) f r s.start)) (length f.turnovers) i))

  -- and so who is in the panel: who has no key, or is sampled
  pub drawn_is : 0 < s.n → (i : ℕ) → i < length f.turnovers → (keyless gs i or sampled_of f.turnovers f.randoms gs s i) ≡ drawn_by (method_of s.method) f r s.start i
  unfolding drawn_by
  drawn_is some i l = ap₂ (λ (a b : Bool). a or b) (keyless_is some i l) (sampled_is i l)

-- W by the marks
pub weight_is :
    (ts marks : List ℕ) {n rest : ℕ} {r : RulesGroup} → Agree (length ts) (rules_group marks n rest) r
    → (i : ℕ) → i < length ts → base_weight ts (rules_group marks n rest) i ≡ base_weight ts r i
unfolding base_weight
weight_is ts marks agree i l = rw (agree.size_is, agree.rest_is, agree.takes i l)
