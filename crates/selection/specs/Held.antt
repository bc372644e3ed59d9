-- Marked units held in an array, in the order of their numbers.
use Rattle.std.specs.Prelude.{◌≡◌, Bool, List, ℕ, take}
use Rattle.rules.specs.Selection.{count, listed}

-- the first n places of xs hold f of the marked units below i
pub record Held (mark : ℕ → Bool) (f : ℕ → ℕ) (i : ℕ) (xs : List ℕ) (n : ℕ) : Type 0 where
  pub many : n ≡ count mark i
  pub units_are : take n xs ≡ listed mark f i
