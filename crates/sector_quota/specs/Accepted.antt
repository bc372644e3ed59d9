-- Document 02, [10]: what refusal 31 leaves of the input.
use Rattle.std.specs.Prelude.{◌≡◌, ℕ, ◌≤◌, ◌<◌, length}
use Rattle.rules.specs.Limits.{most_sectors, highest_strength, most_interviews}
use Rattle.rules.specs.Selection.{sum_of, every}
use Rattle.rules.specs.Allocation.{Sharing, sectors, strength, minimum}

pub record Accepted (a : Sharing) : Type 0 where
  pub same : length a.minima ≡ sectors a
  pub some : 0 < sectors a
  pub few : sectors a ≤ most_sectors
  pub strong : (i : ℕ) → i < sectors a → (0 < strength a i) × (strength a i ≤ highest_strength)
  pub most : a.interviews ≤ most_interviews
  pub fits : sum_of every (minimum a) (sectors a) ≤ a.interviews
