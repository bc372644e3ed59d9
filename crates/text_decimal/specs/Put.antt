-- Document 01, "Job stream": a text laid into a lent buffer from a place on, and the place after it.
use Rattle.std.specs.Prelude.{ℕ, ◌+◌, ◌≡◌, List, [], ◌∷◌, ◌++◌, length, take, drop}
use Rattle.rules.specs.Decimal.{decimal_on}

-- the decimal digits of n alone
abbrev pub digits_of : ℕ → List ℕ
digits_of n = decimal_on n []

-- a space and a number; a letter before them
abbrev pub field_of : ℕ → List ℕ
field_of n = 32 ∷ digits_of n

abbrev pub start_of : ℕ → ℕ → List ℕ
start_of letter n = letter ∷ field_of n

-- the buffer with a text from the place at on; the places before and after it stay
unfoldable pub laid_at : ℕ → List ℕ → List ℕ → List ℕ
laid_at at text buffer = take at buffer ++ (text ++ drop (at + length text) buffer)

-- a text was laid from the place at on, and next is the place after it
pub record Put (at : ℕ) (text before after : List ℕ) (next : ℕ) : Type 0 where
  pub place : next ≡ at + length text
  pub bytes : after ≡ laid_at at text before
