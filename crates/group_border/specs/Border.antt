-- What the functions at the border ask and give, over the marks of a group.
use Rattle.std.specs.Prelude.{◌≡◌, Bool, true, not, List, ℕ, ◌*◌, ◌≤◌, ◌<◌, ltb, leb, length}
use Rattle.rules.specs.Limits.{most_turnover, most_panel, threshold_scale}
use Rattle.rules.specs.Tests.{◌and◌}
use Rattle.rules.specs.Lists.{rising, elem}
use Rattle.rules.specs.Selection.{count}
use Rattle.rules.specs.TakeAll.{turnover, larger, Group as RulesGroup}
use Rattle.rules.specs.Kept.{Keeping, candidate}
use Rattle.selection.specs.Ranked.{Ranked}
use Rattle.order.specs.InOrder.{Below, Distinct}
use Rattle.group.specs.Group.{marked}

-- turnovers, the marks of a group, γ, n and X, as refusals 3, 5 and 30 leave them
pub record Bordered (ts marks : List ℕ) (threshold n rest : ℕ) : Type 0 where
  pub room : length ts ≤ length marks
  pub within : (i : ℕ) → turnover ts i ≤ most_turnover
  pub rest_low : rest ≤ most_turnover
  pub size_low : n ≤ most_panel
  pub threshold_low : threshold ≤ threshold_scale

-- a previous list, as 30 leaves it
pub record Listed (list : List ℕ) : Type 0 where
  pub rises : rising list ≡ true
  pub few : length list ≤ most_panel

-- unit numbers, as 1 and 2 leave them
pub record Numbered (ns ts : List ℕ) : Type 0 where
  pub same : length ns ≡ length ts
  pub rises : rising ns ≡ true

-- a unit of the frame, outside the group, that is near the border
unfoldable pub eligible : List ℕ → List ℕ → ℕ → ℕ → ℕ → ℕ → Bool
eligible ts marks threshold n rest i =
    ltb i (length ts) and not (marked marks i) and leb (threshold * rest) (threshold_scale * (n * turnover ts i))

-- a list of units: each candidate once, and nobody else
pub record Gathered (ns ts : List ℕ) (p : Keeping) (g : RulesGroup) (units : List ℕ) : Type 0 where
  pub low : Below units (length ts)
  pub distinct : Distinct units
  pub all : (i : ℕ) → i < length ts → elem i units ≡ candidate ns ts p g i

-- the first n places of a list hold the candidates, the largest first, equal turnovers by lower number
pub record Candidates (ns ts : List ℕ) (p : Keeping) (g : RulesGroup) (units : List ℕ) (n : ℕ) : Type 0 where
  pub within : n ≤ length units
  pub many : n ≡ count (candidate ns ts p g) (length ts)
  pub ranked : Ranked (candidate ns ts p g) (larger ts) (length ts) units n
