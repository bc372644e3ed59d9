-- Document 02, [10]: the marks of the sectors that left, and what the sums and a pass ask.
use Rattle.std.specs.Prelude.{◌≡◌, Bool, true, false, not, List, ℕ, ◌*◌, ◌≤◌, ◌<◌, length, get_or, ltb, eqb}
use Rattle.rules.specs.Limits.{most_sectors, highest_strength, most_interviews}
use Rattle.rules.specs.Selection.{sum_of, every}
use Rattle.rules.specs.Allocation.{Sharing, sectors, strength, minimum}

-- sector i is still there: its mark is 0, as it is beyond the marks
unfoldable pub still_in : List ℕ → ℕ → Bool
still_in gone i = eqb (get_or gone i 0) 0

-- sector i is still there, or else has left
abbrev pub marked_as : Bool → List ℕ → ℕ → Bool
marked_as true gone i = still_in gone i
marked_as false gone i = not (still_in gone i)

-- the value of sector i
abbrev pub value_of : List ℕ → ℕ → ℕ
value_of values i = get_or values i 0

-- the quota of sector i, rest × strength / total, is below its minimum
abbrev pub is_below : ℕ → ℕ → Sharing → ℕ → Bool
is_below rest total a i = ltb (rest * strength a i) (minimum a i * total)

-- There is a mark for each value, and their sum is as low as strengths and minima are.
pub record Summable (values gone : List ℕ) : Type 0 where
  pub room : length values ≤ length gone
  pub low : sum_of every (value_of values) (length values) ≤ most_sectors * highest_strength

-- There is a minimum and a mark for each strength, and the products of a pass fit.
pub record Passable (rest total : ℕ) (a : Sharing) (gone : List ℕ) : Type 0 where
  pub same : length a.minima ≡ sectors a
  pub room : sectors a ≤ length gone
  pub strong : (i : ℕ) → i < sectors a → strength a i ≤ highest_strength
  pub least : (i : ℕ) → i < sectors a → minimum a i ≤ most_interviews
  pub few : rest ≤ most_interviews
  pub low : total ≤ most_sectors * highest_strength
