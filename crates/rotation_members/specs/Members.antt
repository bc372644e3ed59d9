-- Document 01, "Rotation", and document 02, [2]: one unit's membership, where it is told in which lists it stands, and what the comparison of a birth asks.
use Rattle.std.specs.Prelude.{◌≡◌, Bool, false, not, List, ℕ, ◌≤◌, ◌<◌, length, get_or}
use Rattle.rules.specs.Limits.{most_turnover, random_range}
use Rattle.rules.specs.Tests.{◌or◌, ◌and◌}
use Rattle.rules.specs.Draw.{shifted}
use Rattle.rules.specs.Rotation.{within_previous, bad_previous}
use Rattle.group.specs.Group.{marked}
use Rattle.rotation_births.specs.declared.Previous.{Previous}

-- what refusals 1 to 5 and 25 leave: a mark and a random number for each unit
pub record Judgeable (ts rs marks : List ℕ) (p : Previous) : Type 0 where
  pub few : length ts ≤ length marks
  pub same : length rs ≡ length ts
  pub within : (i : ℕ) → get_or ts i 0 ≤ most_turnover
  pub low : (i : ℕ) → i < length ts → get_or rs i 0 < random_range
  pub start_low_lem : p.start < random_range
  pub allowed : bad_previous p.n p.rest ≡ false

-- `member` of `rules`, of a unit of the old panel or not, and of a birth or not
unfoldable pub member_of : List ℕ → List ℕ → List ℕ → Previous → ℕ → Bool → Bool → Bool
member_of ts rs marks p i old birth =
    old and not (marked marks i)
    or (birth and not (marked marks i) and within_previous p.n p.rest (shifted p.start (get_or rs i 0)) (get_or ts i 0))
