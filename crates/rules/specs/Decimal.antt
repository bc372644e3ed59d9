-- A number in decimal digits, as a list of ASCII codes.
use Rattle.std.specs.Prelude.{ℕ, zero, suc, ◌+◌, ◌/◌, ◌%◌, cond, List, ◌∷◌, ltb}

-- the decimal digits of n, at most `most` of them, in front of a text
unfoldable pub digits_on : ℕ → ℕ → List ℕ → List ℕ
digits_on zero n text = text
digits_on (suc most) n text =
    let more = digits_on most (n / 10) ((48 + n % 10) ∷ text) in
    cond (ltb n 10) ((48 + n) ∷ text) more

-- a 64-bit number has at most 20 digits
abbrev pub most_digits : ℕ
most_digits = 20

unfoldable pub decimal_on : ℕ → List ℕ → List ℕ
decimal_on n text = digits_on most_digits n text
