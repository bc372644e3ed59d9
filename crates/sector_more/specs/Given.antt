-- Document 02, [10]: what giving one more each asks and what it leaves.
use Rattle.std.specs.Prelude.{◌≡◌, Bool, cond, List, ℕ, ◌+◌, ◌≤◌, ◌<◌, length, get_or}
use Rattle.rules.specs.Limits.{most_sectors, most_interviews}
use Rattle.rules.specs.Selection.{count, firsts}
use Rattle.sector_passes.specs.Marks.{still_in}

-- Each sector has a remainder, a mark and a count; those that are still there are enough.
pub record Givable (remainders gone : List ℕ) (n more : ℕ) (counts : List ℕ) : Type 0 where
  pub few : n ≤ most_sectors
  pub keys : n ≤ length remainders
  pub marks : n ≤ length gone
  pub room : n ≤ length counts
  pub enough : more ≤ count (still_in gone) n
  pub low : (i : ℕ) → i < n → get_or counts i 0 ≤ most_interviews

-- The `more` first of those that are still there have one more, and nothing else has changed.
pub record Given (still : ℕ → Bool) (before : ℕ → ℕ → Bool) (n more : ℕ) (old new : List ℕ) : Type 0 where
  pub same : length new ≡ length old
  pub at : (i : ℕ) → i < n → get_or new i 0 ≡ get_or old i 0 + cond (firsts still before n more i) 1 0
  pub beyond : (i : ℕ) → n ≤ i → get_or new i 0 ≡ get_or old i 0
