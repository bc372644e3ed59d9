-- How long texts are, and the pieces that they are laid in.
use Prim.Native.Nat.{max, ℕ, zero, suc, ◌+◌, ◌*◌, ◌-◌, ◌/◌, ◌%◌, ◌^◌, ◌≤◌, ◌<◌}
use mathlib.Core.Path.{◌≡◌, refl, sym, ap, ◌∙◌}
use mathlib.Core.Bool.{Bool, true, false}
use mathlib.Core.List.{List, [], ◌∷◌, ◌++◌, append_assoc}
use lib.ListN.{length, take, replicate, length-append, length-replicate}
use native.Mathlib.Omega.{arith}
use native.Mathlib.Nat.{pow-zero, pow-suc}
use Rattle.rules.specs.Limits.{name_columns, number_columns, figure_decimals}
use Rattle.rules.specs.Sheet.{last_digits, with_decimals, left_in, right_in}
use Rattle.rules.proofs.Tests.{by_order}
use Rattle.text_decimal.specs.Put.{digits_of}
use Rattle.text_decimal.proofs.Digits.{on, one_digit, one_more_length}
use Rattle.text_columns.specs.Signed.{sign_of, signed_text}

-- ---- digits
pub digits_one : (n : ℕ) → n < 10 → length (digits_of n) ≡ 1
digits_one n h = ap length (one_digit n h)

some_power : (k : ℕ) → 0 < 10 ^ k
some_power zero = omega (arith, pow-zero 10)
some_power (suc k) = omega (arith, pow-suc 10 k, some_power k)

-- as many as its highest power of ten says
pub digits_by : (k n : ℕ) → 10 ^ k ≤ max n 1 → n < 10 * 10 ^ k → n < 2 ^ 64 → length (digits_of n) ≡ k + 1
digits_by zero n low high fits = digits_one n (omega (arith, pow-zero 10))
digits_by (suc k) n low high fits =
    let p = pow-suc 10 k in
    let some = some_power k in
    let h : 10 ≤ n = omega arith in
    omega (arith, one_more_length n h fits, digits_by k (n / 10) (omega arith) (omega arith) (omega arith))

pub digits_few : (k n : ℕ) → n < 10 * 10 ^ k → n < 2 ^ 64 → length (digits_of n) ≤ k + 1
digits_few zero n high fits = omega (arith, digits_one n (omega (arith, pow-zero 10)))
digits_few (suc k) n high fits =
    let p = pow-suc 10 k in
    by_order n 10 (λ h. omega (arith, digits_one n h))
    (λ h. omega (arith, one_more_length n h fits, digits_few k (n / 10) (omega arith) (omega arith)))

-- ---- decimals
pub last_none : (n : ℕ) → last_digits 0 n ≡ []
unfolding last_digits
last_none n = refl

pub last_more : (k n : ℕ) → last_digits (suc k) n ≡ last_digits k (n / 10) ++ ((48 + n % 10) ∷ [])
unfolding last_digits
last_more k n = refl

pub last_length : (k n : ℕ) → length (last_digits k n) ≡ k
last_length zero n = ap length (last_none n)
last_length (suc k) n = omega (arith, ap length (last_more k n), length-append (last_digits k (n / 10)) ((48 + n % 10) ∷ []), last_length k (n / 10))

-- the whole part, the point, the decimals
pub decimals_pieces : (k n : ℕ) → (digits_of (n / 10 ^ k) ++ (46 ∷ [])) ++ last_digits k n ≡ with_decimals k n
unfolding with_decimals
decimals_pieces k n = append_assoc (digits_of (n / 10 ^ k)) (46 ∷ []) (last_digits k n) ∙ sym (on (n / 10 ^ k) (46 ∷ last_digits k n))

pub decimals_length : (k n : ℕ) → length (with_decimals k n) ≡ length (digits_of (n / 10 ^ k)) + 1 + k
decimals_length k n = omega (arith, simp length-append at (ap length (decimals_pieces k n)), last_length k n)

pub signed_length : (negative : Bool) (k n : ℕ) → length (signed_text negative k n) ≡ length (sign_of negative) + (length (digits_of (n / 10 ^ k)) + 1 + k)
signed_length negative k n = length-append (sign_of negative) (with_decimals k n) ∙ ap (λ (m : ℕ). length (sign_of negative) + m) (decimals_length k n)

pub sign_length : (negative : Bool) → length (sign_of negative) ≤ 1
sign_length true = omega arith
sign_length false = omega arith

-- a number below 10,000 with at most a figure's decimals and a sign does not overflow its columns
pub number_fits : (negative : Bool) (k n : ℕ) → n / 10 ^ k < 10000 → k ≤ figure_decimals → length (signed_text negative k n) ≤ number_columns
number_fits negative k n h few = omega (arith, signed_length negative k n, digits_few 3 (n / 10 ^ k) (omega arith) (omega arith), sign_length negative)

-- ---- spaces
-- `[b' '; 20]`, of which so many are taken
pub spaces_of : (n m : ℕ) → n ≤ m → take {A = ℕ} n (replicate m 32) ≡ replicate n 32
spaces_of zero m h = refl
spaces_of (suc n) zero h = absurd (omega arith)
spaces_of (suc n) (suc m) h = ap (λ (l : List ℕ). 32 ∷ l) (spaces_of n m (omega arith))

pub space_count : (n : ℕ) → n ≤ name_columns → length (take {A = ℕ} n (replicate name_columns 32)) ≡ n
space_count n h = ap length (spaces_of n name_columns h) ∙ length-replicate n 32

-- a text that fits is as long as its columns
pub left_length : (columns : ℕ) (text : List ℕ) → length text ≤ columns → length (left_in columns text) ≡ columns
unfolding left_in
left_length columns text h = omega (arith, length-append text (replicate (columns - length text) 32), length-replicate {A = ℕ} (columns - length text) 32)

pub right_length : (columns : ℕ) (text : List ℕ) → length text ≤ columns → length (right_in columns text) ≡ columns
unfolding right_in
right_length columns text h = omega (arith, length-append (replicate (columns - length text) 32) text, length-replicate {A = ℕ} (columns - length text) 32)
