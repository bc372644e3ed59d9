-- The bytes of a number in a width, the first the highest, as std's `to_be_bytes` has them.
use Prim.Native.Nat.{ℕ, zero, suc, ◌+◌, ◌*◌, ◌/◌, ◌%◌, ◌^◌, ◌<◌}
use mathlib.Core.Path.{◌≡◌, refl, sym, ap, ap₂, ◌∙◌}
use mathlib.Core.List.{[], ◌∷◌, ◌++◌}
use lib.ListN.{length, length-append}
use native.Mathlib.Omega.{arith}
use native.Mathlib.Nat.{pow-suc}
use Rattle.std.proofs.Math.Nat.{div-div-eq-div-mul}
use Rattle.std.specs.Int.{byte_at, bytes_high_first}
use Rattle.rules.specs.Writing.{bytes_with}
use Rattle.text_decimal.specs.declared.Writer.{Writer}
use Rattle.text_decimal.specs.Wrote.{Wrote}

-- one byte more, the lowest
pub more : (width x : ℕ) → bytes_with (suc width) x ≡ bytes_with width (x / 256) ++ (x % 256 ∷ [])
unfolding bytes_with
more width x = refl

pub nothing : (x : ℕ) → bytes_with zero x ≡ []
unfolding bytes_with
nothing x = refl

-- a byte is its own number
pub one_byte : (x : ℕ) → x < 256 → bytes_with 1 x ≡ x ∷ []
unfolding bytes_with
one_byte x h =
    let e : x % 256 ≡ x = omega arith in
    ap (λ (b : ℕ). b ∷ []) e

pub bytes_length : (width x : ℕ) → length (bytes_with width x) ≡ width
bytes_length zero x = ap length (nothing x)
bytes_length (suc width) x =
    ap length (more width x) ∙ length-append (bytes_with width (x / 256)) (x % 256 ∷ []) ∙ omega (arith, bytes_length width (x / 256))

-- a byte by what the number is without the lowest
byte_above : (k n : ℕ) → byte_at k (n / 256) ≡ byte_at (suc k) n
byte_above zero n = refl
byte_above (suc k) n =
    let e : 256 * 256 ^ suc k ≡ 256 ^ suc (suc k) = omega (arith, pow-suc 256 (suc k)) in
    ap (λ x. x % 256) (div-div-eq-div-mul n 256 (256 ^ suc k) ∙ ap (λ p. n / p) e)

-- the highest byte is the first
first : (k n : ℕ) → bytes_with (suc k) n ≡ byte_at k n ∷ bytes_with k n
first zero n = more zero n ∙ ap (λ l. l ++ (n % 256 ∷ [])) (nothing (n / 256)) ∙ ap (λ l. n % 256 ∷ l) (sym (nothing n))
first (suc k) n =
    more (suc k) n ∙ ap (λ l. l ++ (n % 256 ∷ [])) (first k (n / 256))
    ∙ ap₂ (λ b l. b ∷ l) (byte_above k n) (sym (more k n))

pub bytes_as : (k n : ℕ) → bytes_high_first k n ≡ bytes_with k n
bytes_as zero n = sym (nothing n)
bytes_as (suc k) n = ap (λ l. byte_at k n ∷ l) (bytes_as k n) ∙ sym (first k n)

-- the place after a number that was laid
pub after : (width x : ℕ) {w v : Writer} → Wrote w (bytes_with width x) v → v.at ≡ w.at + width
after width x wrote = omega (arith, wrote.put.place, bytes_length width x)
