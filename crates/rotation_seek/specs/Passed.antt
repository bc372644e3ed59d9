-- Two rising lists gone through side by side: how far the second is passed by a number of the first.
use Rattle.std.specs.Prelude.{Bool, cond, List, ℕ, ◌+◌, ◌≤◌, ◌<◌, length, get_or, ltb, eqb}
use Rattle.rules.specs.Tests.{◌and◌}

-- what stands in front of place j is below x
pub record Passed (list : List ℕ) (j x : ℕ) : Type 0 where
  pub within : j ≤ length list
  pub below : (k : ℕ) → k < j → get_or list k 0 < x

-- from place `from` on, r is the first where that no longer holds of what stands there
pub record Reached (list : List ℕ) (from x r : ℕ) : Type 0 where
  pub onward : from ≤ r
  pub passed : Passed list r x
  pub stops : r < length list → x ≤ get_or list r 0

-- x stands at place j
unfoldable pub stands : List ℕ → ℕ → ℕ → Bool
stands list j x = ltb j (length list) and eqb x (get_or list j 0)

-- the place behind x where it stands at place j, else j
unfoldable pub behind : List ℕ → ℕ → ℕ → ℕ
behind list j x = cond (stands list j x) (j + 1) j
