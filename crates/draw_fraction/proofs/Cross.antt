-- How whole parts and remainders decide `fraction_below`, the comparison by cross multiplication.
-- Each law multiplies `x / y * y + x % y ≡ x` out by the other denominator.
use Prim.Native.Nat.{ℕ, ◌+◌, ◌*◌, ◌/◌, ◌%◌, ◌<◌}
use mathlib.Core.Bool.{true, false}
use mathlib.Core.Path.{◌≡◌, sym, ap, ◌∙◌}
use native.Mathlib.Nat.{mul-zero, mul-pos, pos_of_ne-zero, mul-lt-mul_of_pos_right, mul-le-mul_right, lt_of_mul-lt-mul_right}
use native.Mathlib.Nat.{div-lt_iff_lt-mul, div-mul-le_self, div-add-mod'}
use native.Mathlib.Omega.{arith}
use borrow.Author.Tests.{ltb-true, lt-ltb, le-ltb}
use lib.Dec.{ltb}
use Rattle.rules.specs.Draw.{fraction_below}
use Rattle.rules.proofs.Tests.{by_test}

-- two tests that hold together are equal
ltb_same : (x y u v : ℕ) → (x < y → u < v) → (u < v → x < y) → ltb x y ≡ ltb u v
ltb_same x y u v to from =
    by_test (ltb x y)
    (λ e. e ∙ sym (lt-ltb u v (to (ltb-true x y e))))
    (λ e. by_test (ltb u v) (λ h. lt-ltb x y (from (ltb-true u v h)) ∙ sym h) (λ h. e ∙ sym h))

module _ (a b c d : ℕ) where
  -- a/0 is below nothing
  pub zero_left : b ≡ 0 → fraction_below a b c d ≡ false
  unfolding fraction_below
  zero_left e = rw (e, mul-zero) (le-ltb (a * d) 0 (omega arith))

  -- a/b is below c/0 where c is not 0
  pub zero_right : (b ≡ 0 → ⊥) → d ≡ 0 → fraction_below a b c d ≡ ltb 0 c
  unfolding fraction_below
  zero_right hb e =
      rw (e, mul-zero)
      (ltb_same 0 (c * b) 0 c (λ p. lt_of_mul-lt-mul_right b (omega arith)) (λ p. mul-pos p (pos_of_ne-zero hb)))

  -- "whole parts first": the smaller whole part is the smaller fraction
  pub whole_less : (b ≡ 0 → ⊥) → (d ≡ 0 → ⊥) → a / b < c / d → fraction_below a b c d ≡ true
  unfolding fraction_below
  whole_less hb hd h =
      lt-ltb (a * d) (c * b)
      (omega (
        arith,
        mul-lt-mul_of_pos_right ((div-lt_iff_lt-mul (pos_of_ne-zero hb)).0 h) (pos_of_ne-zero hd),
        mul-le-mul_right b (div-mul-le_self c d),
      ))

  pub whole_more : (b ≡ 0 → ⊥) → (d ≡ 0 → ⊥) → c / d < a / b → fraction_below a b c d ≡ false
  unfolding fraction_below
  whole_more hb hd h =
      le-ltb (a * d) (c * b)
      (omega (
        arith,
        mul-lt-mul_of_pos_right ((div-lt_iff_lt-mul (pos_of_ne-zero hd)).0 h) (pos_of_ne-zero hb),
        mul-le-mul_right d (div-mul-le_self a b),
      ))

  -- equal whole parts: "the two remainders turned upside down, where less becomes greater"
  pub turned : a / b ≡ c / d → fraction_below a b c d ≡ fraction_below d (c % d) b (a % b)
  unfolding fraction_below
  turned e =
      let x : (a / b * b + a % b) * d ≡ a * d = ap (λ (n : ℕ). n * d) (div-add-mod' a b) in
      let y : (c / d * d + c % d) * b ≡ c * b = ap (λ (n : ℕ). n * b) (div-add-mod' c d) in
      let z : a / b * b * d ≡ c / d * b * d = ap (λ (n : ℕ). n * b * d) e in
      ltb_same (a * d) (c * b) (d * (a % b)) (b * (c % d)) (λ p. omega arith) (λ p. omega arith)
