-- The keys of units whose turnovers and random numbers are in range, by either method and under any start: each has a positive denominator, so that comparing keys, and
-- of equal keys the unit numbers, orders the units strictly and totally. This is what the laws of selection ask for.
use Rattle.std.proofs.lemmas.Bool.{true_from_ne_false}
use Prim.Native.Nat.{ℕ, ◌-◌, ◌*◌, ◌≤◌, ◌<◌}
use mathlib.Core.Bool.{Bool, true, false, not}
use mathlib.Core.Path.{◌≡◌, sym, ap, ◌∙◌, subst}
use native.Mathlib.Omega.{arith}
use native.Mathlib.Nat.{mul-pos, mul-le-mul}
use lib.Dec.{ltb}
use mathlib.Core.List.{List}
use lib.ListN.{length, get_or}
use borrow.Author.Tests.{ltb-true}
use Rattle.rules.specs.Limits.{random_range}
use Rattle.rules.specs.Selection.{firsts}
use Rattle.rules.specs.TakeAll.{Frame, Group, turnover}
use Rattle.rules.specs.Draw.{shifted, shifted_of, key_numerator, key_denominator, fraction_below, key_below, Method as RulesMethod}
use Rattle.rules.proofs.Tests.{and_off, by_test, by_order, not_both}
use Rattle.selection.proofs.Orders.{Order, KeyOrder, key_order_lem, firsts_zero}
use Rattle.draw_fraction.proofs.Order.{asymmetric, not_below_transitive, same_fractions}
use Rattle.draw_fraction.specs.declared.Fraction.{Fraction}
use Rattle.draw_key.specs.declared.Method.{Method}
use Rattle.draw_key.specs.declared.Method.TheVariants.{Pareto, SequentialPoisson}
use Rattle.draw_key.specs.declared.Setting.{Setting}
use Rattle.draw_key.specs.Methods.{taken_off, denominator_by}
use Rattle.draw_key.specs.Units.{num_of, den_of, key_less, key_order, keyless, has_key, sampled_of, Units, UnitKey}

-- a shifted number is in the range of the random number, whatever the start
pub shifted_low : (start random : ℕ) → random < random_range → shifted start random < random_range
unfolding shifted
shifted_low start random low =
    by_test (ltb random start) (λ e. rw e (omega (arith, ltb-true random start e))) (λ e. rw e (omega arith))

-- at most all of an amount is taken off
pub taken_low : (m : Method) (amount : ℕ) → taken_off m amount ≤ amount
unfolding taken_off
taken_low Pareto amount = omega arith
taken_low SequentialPoisson amount = omega arith

-- "1,000,000 − r" and the turnover are positive, so the denominator is
far_positive : (t off : ℕ) → 0 < t → off < random_range → 0 < (random_range - off) * t
far_positive t off some low = let far : 0 < random_range - off = omega arith in mul-pos far some

denominator_positive : (m : RulesMethod) (t r : ℕ) → 0 < t → r < random_range → 0 < key_denominator m t r
unfolding key_denominator
denominator_positive RulesMethod.pareto t r some low = far_positive t r some low
denominator_positive RulesMethod.sequential_poisson t r some low = some

pub by_positive : (m : Method) (t r : ℕ) → 0 < t → r < random_range → 0 < denominator_by m t r
unfolding denominator_by
by_positive m t r some low = far_positive t (taken_off m r) some (omega (arith, taken_low m r))

-- a numerator that is not 0 has a gap
pub gap_some : (r gap : ℕ) → 0 < r * gap → 0 < gap
gap_some r gap h =
    by_order 0 gap (λ l. l) (λ l. let none : r * gap ≡ r * 0 = ap (λ (n : ℕ). r * n) (omega arith) in absurd (omega arith))

-- a product by "1,000,000 − r"
far_low : (far t m most : ℕ) → far ≤ random_range → m * t ≤ most → m * (far * t) ≤ random_range * most
far_low far t m most hf h = omega (arith, mul-le-mul {n₁ = far} {m₁ = m * t} {n₂ = random_range} {m₂ = most} hf h)

-- fractions of positive denominators are in a strict weak order
fractions_compare :
    (among : ℕ → Bool) (num den : ℕ → ℕ) (n : ℕ) → ((i : ℕ) → i < n → 0 < den i)
    → KeyOrder among (λ i j. fraction_below (num i) (den i) (num j) (den j)) n
fractions_compare among num den n positive = record {
  asym = λ i j li lj ai aj below. asymmetric _ _ _ _ below;
  split = λ i j k li lj lk ai aj ak below not. true_from_ne_false (fraction_below (num j) (den j) (num k) (den k))
      (λ e. not_both (fraction_below (num i) (den i) (num k) (den k)) below
      (not_below_transitive _ _ _ _ _ _ (positive i li) (positive j lj) (positive k lk) not e));
}

-- keys are in a strict weak order, by either method and for any X and n: what "the n smallest keys …; equal keys go by lower unit number" asks for
module _ (m : RulesMethod) (f : Frame) (start n : ℕ) (positive : (i : ℕ) → i < n → 0 < turnover f.turnovers i) (low : (i : ℕ) → i < n → get_or f.randoms i 0 < random_range) where
  pub keys_compare : (among : ℕ → Bool) (g : Group) → KeyOrder among (key_below m f g start) n
  unfolding key_below
  keys_compare among g =
      fractions_compare among
      (λ i. key_numerator m g (turnover f.turnovers i) (shifted_of f start i))
      (λ i. key_denominator m (turnover f.turnovers i) (shifted_of f start i))
      n
      (λ i l. denominator_positive m _ _ (positive i l) (shifted_low start (get_or f.randoms i 0) (low i l)))

-- the same of keys over gaps
module _ {ts rs gs : List ℕ} {s : Setting} (ok : Units ts rs gs s) where
  pub unit_positive : (i : ℕ) → i < length ts → 0 < den_of ts rs s i
  unfolding den_of
  unit_positive i l = by_positive s.method _ _ (ok.positive i l) (shifted_low s.start (get_or rs i 0) (ok.random_low_lem i l))

  pub key_is_order : Order (has_key gs) (key_order ts rs gs s) (length ts)
  unfolding key_order key_less
  key_is_order = key_order_lem (fractions_compare (has_key gs) (num_of rs gs s) (den_of ts rs s) (length ts) unit_positive)

-- none is sampled where n is 0, nor a unit without a key
module _ (ts rs gs : List ℕ) (s : Setting) (i : ℕ) where
  pub sampled_none : s.n ≡ 0 → sampled_of ts rs gs s i ≡ false
  unfolding sampled_of
  sampled_none e = ap (λ (n : ℕ). firsts (has_key gs) (key_order ts rs gs s) (length ts) n i) e ∙ firsts_zero (has_key gs) (key_order ts rs gs s) (length ts) i

  pub sampled_keyless : keyless gs i ≡ true → sampled_of ts rs gs s i ≡ false
  unfolding sampled_of firsts
  sampled_keyless e = and_off (has_key gs i) _ (ap not e)

-- a key of its own terms
module _ {ts rs gs : List ℕ} {s : Setting} {i : ℕ} {f : Fraction} (k : UnitKey ts rs gs s i f) where
  pub key_less_lem : {j : ℕ} {g : Fraction} → UnitKey ts rs gs s j g → key_less ts rs gs s i j ≡ fraction_below f.num f.den g.num g.den
  unfolding key_less
  key_less_lem q = sym (same_fractions k.num_is k.den_is q.num_is q.den_is)

  -- a key that is not 0 has a gap, and then n × den stays within 10^6 × 10^12
  pub key_gap : 0 < f.num → 0 < get_or gs i 0
  unfolding num_of
  key_gap h = gap_some (shifted s.start (get_or rs i 0)) (get_or gs i 0) (subst (λ (n : ℕ). 0 < n) k.num_is h)

  pub key_room : (m most : ℕ) → (0 < get_or gs i 0 → m * turnover ts i ≤ most) → 0 < f.num → m * f.den ≤ random_range * most
  unfolding den_of denominator_by
  key_room m most low h =
      let far = random_range - taken_off s.method (shifted s.start (get_or rs i 0)) in
      subst (λ (n : ℕ). m * n ≤ random_range * most) (sym k.den_is) (far_low far (turnover ts i) m most (omega arith) (low (key_gap h)))
