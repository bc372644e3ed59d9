-- Marks over a frame: one number a unit, written at the places of listed units.
use Rattle.std.specs.Prelude.{◌≡◌, List, ℕ, ◌<◌, length, get_or}

-- units of a frame of n
pub record Placed (n : ℕ) (units : List ℕ) : Type 0 where
  pub low : (j : ℕ) → j < length units → get_or units j 0 < n

-- `new` is `old` with v at the place of each of the first k units
pub record Marked (units : List ℕ) (k v : ℕ) (old new : List ℕ) : Type 0 where
  pub here : (j : ℕ) → j < k → get_or new (get_or units j 0) 0 ≡ v
  pub others : (i : ℕ) → ((j : ℕ) → j < k → get_or units j 0 ≡ i → ⊥) → get_or new i 0 ≡ get_or old i 0
