-- The change: a signed number times 10,000 by its sign, its quotient and rest, and that no other quotient and rest have the equation of the request.
use Prim.Native.Nat.{ℕ, zero, suc, ◌+◌, ◌-◌, ◌*◌, ◌/◌, ◌%◌, ◌≤◌, ◌<◌, zero-le}
use mathlib.Core.Path.{◌≡◌, refl, sym, ap, ap₂, ◌∙◌}
use lib.IntN.{ℤ, pos, negsuc, neg_ℤ, nat_abs, sub_ℕ, ◌+ℤ◌, ◌-ℤ◌, ◌*ℤ◌}
use native.Mathlib.Omega.{arith}
use native.Mathlib.Nat.{add-zero, div-add-mod', mod-lt, mul-add-div_right, div-eq_of_lt}
use borrow.Author.Tests.{lt-ltb, le-ltb}
use Rattle.std.specs.Int.{int_div_euclid, int_rem_euclid}
use Rattle.rules.specs.Limits.{change_scale}
use Rattle.rules.specs.Sheet.{divided_by, change_of}

-- ---- (new − old) × 10,000
difference : (a b : ℕ) → pos a -ℤ pos b ≡ sub_ℕ a b
difference a zero =
    let none : a + 0 ≡ a - 0 = omega arith in
    rw (le-ltb a 0 zero-le) (ap pos none)
difference a (suc b) = refl

pub scaled_rise : (new old : ℕ) → old ≤ new → (pos new -ℤ pos old) *ℤ pos change_scale ≡ pos ((new - old) * change_scale)
scaled_rise new old h = rw (difference new old, le-ltb new old h)

pub scaled_fall : (new old : ℕ) → new < old → (pos new -ℤ pos old) *ℤ pos change_scale ≡ negsuc ((old - new) * change_scale - 1)
scaled_fall new old h =
    let some : suc (old - suc new) * change_scale ≡ suc ((old - new) * change_scale - 1) = omega arith in
    rw (difference new old, lt-ltb new old h) (ap (λ (n : ℕ). neg_ℤ (pos n)) some)

-- ---- quotient and rest
-- a number less a smaller one
negsuc_plus : (p rest n : ℕ) → suc (n + rest) ≡ p → neg_ℤ (pos p) +ℤ pos rest ≡ negsuc n
negsuc_plus p rest n e =
    let below : rest < suc (n + rest) = omega arith in
    let less : suc (n + rest) - suc rest ≡ n = omega arith in
    rw (← e, lt-ltb rest (suc (n + rest)) below) (ap negsuc less)

module _ (d : ℕ) (some : 0 < d) where
  pub rest_below : (z : ℤ) → (divided_by d z).rest < d
  unfolding divided_by
  rest_below (pos n) = mod-lt n some
  rest_below (negsuc n) = omega (arith, mod-lt n some)

  pub divides : (z : ℤ) → z ≡ (divided_by d z).hundredths *ℤ pos d +ℤ pos (divided_by d z).rest
  unfolding divided_by
  divides (pos n) = ap pos (sym (div-add-mod' n d))
  divides (negsuc n) =
      let sum : suc (n + (d - suc (n % d))) ≡ suc (n / d) * d = omega (arith, div-add-mod' n d, mod-lt n some) in
      sym (negsuc_plus (suc (n / d) * d) (d - suc (n % d)) n sum)

  -- q times d and a rest below d: they are the quotient and the rest
  quotient : (q r : ℕ) → r < d → ((q * d + r) / d ≡ q) × ((q * d + r) % d ≡ r)
  quotient q r h =
      let div : (q * d + r) / d ≡ q = mul-add-div_right some q r ∙ ap (λ (n : ℕ). q + n) (div-eq_of_lt h) ∙ add-zero q in
      let whole = ap (λ (n : ℕ). n * d) div in
      (div, omega (arith, whole, div-add-mod' (q * d + r) d))

  -- the only ones
  pub only : (z c : ℤ) (r : ℕ) → r < d → z ≡ c *ℤ pos d +ℤ pos r → divided_by d z ≡ record { hundredths = c; rest = r }
  unfolding divided_by
  only z (pos q) r h e =
      let are = quotient q r h in
      rw e (ap₂ (λ (a b : ℕ). record { hundredths = pos a; rest = b }) are.0 are.1)
  only z (negsuc q) r h e =
      let low : d - suc r < d = omega arith in
      let are = quotient q (d - suc r) low in
      let sum : suc (q * d + (d - suc r) + r) ≡ suc q * d = omega arith in
      let n = q * d + (d - suc r) in
      let same : z ≡ negsuc n = ◌∙◌ {b = negsuc q *ℤ pos d +ℤ pos r} e (negsuc_plus (suc q * d) r n sum) in
      let back : d - suc ((q * d + (d - suc r)) % d) ≡ r = omega (arith, are.1) in
      rw same (ap₂ (λ (a b : ℕ). record { hundredths = negsuc a; rest = b }) are.0 back)

-- the library's quotient and rest are these
pub euclid : (d : ℕ) (z q r : ℤ) → q ≡ int_div_euclid z (pos d) → r ≡ int_rem_euclid z (pos d) → record { hundredths = q; rest = nat_abs r } ≡ divided_by d z
unfolding divided_by
euclid d (pos n) q r e f = rw (e, f)
euclid d (negsuc n) q r e f = let rest : d - 1 - n % d ≡ d - suc (n % d) = omega arith in rw (e, f, rest)

-- THEOREM: "(new − old) × 10,000 = c × old + rest and 0 ≤ rest < old"
pub change_equation : (new old : ℕ) → 0 < old → let c = change_of new old in
    ((pos new -ℤ pos old) *ℤ pos change_scale ≡ c.hundredths *ℤ pos old +ℤ pos c.rest) × (c.rest < old)
unfolding change_of
change_equation new old some =
    let z = (pos new -ℤ pos old) *ℤ pos change_scale in
    (divides old some z, rest_below old some z)

-- THEOREM: and no other c and rest have it
pub change_only : (new old : ℕ) → 0 < old → (c : ℤ) (rest : ℕ) → rest < old
    → (pos new -ℤ pos old) *ℤ pos change_scale ≡ c *ℤ pos old +ℤ pos rest → change_of new old ≡ record { hundredths = c; rest = rest }
unfolding change_of
change_only new old some c rest h e = only old some _ c rest h e
