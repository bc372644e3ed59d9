-- A field in the middle of its digits: `field_from` says what it comes to from the next byte on, and one digit more leaves that as it is.
use mathlib.Core.Path.{◌≡◌, refl, ap}
use mathlib.Core.Bool.{true, false, cond}
use mathlib.Core.List.{List, [], ◌∷◌}
use Prim.Native.Nat.{ℕ, suc, ◌+◌, ◌*◌, ◌-◌, ◌<◌, ◌≤◌}
use native.Mathlib.Nat.{le_refl}
use native.Mathlib.Omega.{arith}
use lib.ListN.{length, get_or, drop, drop_of_length-le}
use lib.Dec.{leb, ltb}
use borrow.Author.Tests.{leb-true, lt-ltb, le-ltb}
use Rattle.std.proofs.Common.{rules}
use Rattle.std.specs.Char.{is_ascii_digit}
use Rattle.rules.specs.Tests.{◌and◌}
use Rattle.rules.specs.Register.{Part, is_digit, digits_in, spelled, sized, field_at}
use Rattle.rules.proofs.Tests.{and_left, and_right, by_test}
use Rattle.rules.proofs.Lists.{drop_step}

-- ---- bytes
pub digit_is : (c : ℕ) → is_digit c ≡ true → (48 ≤ c) × (c ≤ 57)
unfolding is_digit
digit_is c h = (leb-true _ _ (and_left (leb 48 c) (leb c 57) h), leb-true _ _ (and_right (leb 48 c) (leb c 57) h))

-- the library's digits are these
pub ascii : (c : ℕ) → is_ascii_digit c ≡ is_digit c
unfolding is_digit ◌and◌
ascii c = search rules

-- ---- digits and their number, by the next byte
module _ (t : List ℕ) (i : ℕ) (inside : i < length t) where
  abbrev c : ℕ
  c = get_or t i 0

  digits_step : digits_in (drop i t) ≡ cond (is_digit c) (suc (digits_in (drop (i + 1) t))) 0
  unfolding digits_in
  digits_step = ap digits_in (drop_step t i inside)

  spelled_step : (v : ℕ) → spelled v (drop i t) ≡ cond (is_digit c) (spelled (v * 10 + (c - 48)) (drop (i + 1) t)) v
  unfolding spelled
  spelled_step v = ap (spelled v) (drop_step t i inside)

digits_end : (t : List ℕ) (i : ℕ) → length t ≤ i → digits_in (drop i t) ≡ 0
unfolding digits_in
digits_end t i h = ap digits_in (drop_of_length-le t h)

spelled_end : (t : List ℕ) (i v : ℕ) → length t ≤ i → spelled v (drop i t) ≡ v
unfolding spelled
spelled_end t i v h = ap (spelled v) (drop_of_length-le t h)

-- more digits spell no less
spelled_le : (v : ℕ) (s : List ℕ) → v ≤ spelled v s
unfolding spelled
spelled_le v [] = le_refl v
spelled_le v (c ∷ s) = by_test (is_digit c) (λ e. rw e (omega (arith, spelled_le (v * 10 + (c - 48)) s))) (λ e. rw e (le_refl v))

-- ---- the field from i on, where the digits before i spell v
module _ (t : List ℕ) (at most : ℕ) where
  unfoldable pub field_from : ℕ → ℕ → Part
  field_from v i = cond (ltb most (spelled v (drop i t))) Part.none (sized (spelled v (drop i t)) at ((i - at) + digits_in (drop i t)))

  pub from_start : field_from 0 at ≡ field_at t at most
  unfolding field_from field_at
  from_start = let none_yet : (at - at) + digits_in (drop at t) ≡ digits_in (drop at t) = omega arith in rw none_yet refl

  pub from_digit : (v i : ℕ) → at ≤ i → i < length t → is_digit (get_or t i 0) ≡ true → field_from v i ≡ field_from (v * 10 + (get_or t i 0 - 48)) (i + 1)
  unfolding field_from
  from_digit v i low h e =
      let number : spelled v (drop i t) ≡ spelled (v * 10 + (get_or t i 0 - 48)) (drop (i + 1) t) = simp e at (spelled_step t i h v) in
      let one : digits_in (drop i t) ≡ suc (digits_in (drop (i + 1) t)) = simp e at (digits_step t i h) in
      let digits : (i - at) + digits_in (drop i t) ≡ (i + 1 - at) + digits_in (drop (i + 1) t) = omega arith in
      rw (number, digits) refl

  -- the digits end at i
  module _ (v i : ℕ) (fits : v ≤ most) where
    ended : spelled v (drop i t) ≡ v → digits_in (drop i t) ≡ 0 → sized v at (i - at) ≡ field_from v i
    unfolding field_from
    ended s d = let digits : (i - at) + 0 ≡ i - at = omega arith in rw (s, d, digits) (simp (le-ltb most v fits))

    pub from_other : i < length t → is_digit (get_or t i 0) ≡ false → sized v at (i - at) ≡ field_from v i
    from_other h e = ended (simp e at (spelled_step t i h v)) (simp e at (digits_step t i h))

    pub from_end : length t ≤ i → sized v at (i - at) ≡ field_from v i
    from_end h = ended (spelled_end t i v h) (digits_end t i h)

  -- a number that passes `most` stays past it
  pub from_large : (v i : ℕ) → most < v → Part.none ≡ field_from v i
  unfolding field_from
  from_large v i h = let past-it : most < spelled v (drop i t) = omega (arith, spelled_le v (drop i t)) in simp (lt-ltb _ _ past-it)
