-- Document 02, [10]: the three lists before one more each, by T' (`rest`), the strengths left (`total`) and the marks of the sectors that left.
use Rattle.std.specs.Prelude.{◌≡◌, cond, List, ℕ, ◌*◌, ◌/◌, ◌%◌, ◌≤◌, ◌<◌, length}
use Rattle.rules.specs.Limits.{most_sectors, highest_strength, most_interviews}
use Rattle.rules.specs.Allocation.{Sharing, sectors, strength, minimum}
use Rattle.sector_passes.specs.Marks.{still_in}

abbrev pub whole_by : ℕ → ℕ → Sharing → List ℕ → ℕ → ℕ
whole_by rest total a gone i = cond (still_in gone i) (rest * strength a i / total) 0

abbrev pub remainder_by : ℕ → ℕ → Sharing → List ℕ → ℕ → ℕ
remainder_by rest total a gone i = cond (still_in gone i) (rest * strength a i % total) 0

abbrev pub count_by : ℕ → ℕ → Sharing → List ℕ → ℕ → ℕ
count_by rest total a gone i = cond (still_in gone i) (rest * strength a i / total) (minimum a i)

-- There is a minimum and a mark for each strength, somebody is still there, and the products fit.
pub record Dividable (rest total : ℕ) (a : Sharing) (gone : List ℕ) : Type 0 where
  pub same : length a.minima ≡ sectors a
  pub room : sectors a ≤ length gone
  pub places : sectors a ≤ most_sectors
  pub some : 0 < total
  pub few : rest ≤ most_interviews
  pub strong : (i : ℕ) → i < sectors a → strength a i ≤ highest_strength
