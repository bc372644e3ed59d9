-- What the search with previous lists asks and gives.
use Rattle.std.specs.Prelude.{◌≡◌, cond, List, map, ℕ, ◌≤◌, ◌<◌, length, get_or}
use Rattle.rules.specs.Limits.{threshold_scale}
use Rattle.rules.specs.Lists.{sum}
use Rattle.rules.specs.Selection.{count}
use Rattle.rules.specs.TakeAll.{turnover}
use Rattle.rules.specs.Kept.{Keeping, enlarged_group}
use Rattle.group_least.specs.Size.{Sized}
use Rattle.group.specs.declared.Group.{Group}
use Rattle.group.specs.Group.{rules_group, Agree}
use Rattle.group_border.specs.Border.{Listed, Numbered}

-- a frame, a panel size and parameters that refusals 1 to 5 and 30 leave
pub record Enlargeable (ns ts : List ℕ) (z : ℕ) (p : Keeping) : Type 0 where
  pub sized : Sized ts z
  pub numbered : Numbered ns ts
  pub threshold_low : p.threshold ≤ threshold_scale
  pub first_is : Listed p.first
  pub second_is : Listed p.second

-- marks and g are the enlarged group of a frame at panel size z
pub record IsEnlarged (ns ts : List ℕ) (z : ℕ) (p : Keeping) (marks : List ℕ) (g : Group) : Type 0 where
  pub size : g.q ≡ count (enlarged_group ns ts z p).takes_all (length ts)
  pub mark_is : (i : ℕ) → i < length ts → get_or marks i 0 ≡ cond ((enlarged_group ns ts z p).takes_all i) 1 0
  pub agrees : Agree (length ts) (rules_group marks g.n g.rest) (enlarged_group ns ts z p)

-- the turnover of listed units
unfoldable pub turnover_of : List ℕ → List ℕ → ℕ
turnover_of ts units = sum (map (λ i. turnover ts i) units)

-- each of them is a unit of the frame, and the rest turnover holds them all
pub record Outside (ts units : List ℕ) (rest : ℕ) : Type 0 where
  pub low : (j : ℕ) → j < length units → get_or units j 0 < length ts
  pub fits : turnover_of ts units ≤ rest
