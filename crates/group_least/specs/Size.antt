-- The size of the take-all group in the words of `rules`, and a turnover that tells who is in it.
use Rattle.std.specs.Prelude.{◌≡◌, Bool, List, ℕ, ◌-◌, ◌≤◌, ◌<◌, length, leb}
use Rattle.rules.specs.Limits.{most_turnover, most_panel}
use Rattle.rules.specs.Lists.{sum}
use Rattle.rules.specs.TakeAll.{turnover, largest, take_all_size, rest_turnover}
use Rattle.group_least.specs.declared.Size.{Size}

-- what the search asks of turnovers and z: what refusals 3 and 5 leave
pub record Sized (ts : List ℕ) (z : ℕ) : Type 0 where
  pub some : 0 < z
  pub most : z ≤ most_panel
  pub within : z ≤ length ts
  pub total : sum ts ≤ most_turnover
  pub positive : (i : ℕ) → i < length ts → 0 < turnover ts i

-- unit i has at least this turnover
unfoldable pub has_least : List ℕ → ℕ → ℕ → Bool
has_least ts least i = leb least (turnover ts i)

-- s has the size, n and X of the take-all group of turnovers ts at panel size z, and the units of its least turnover or more are the group
pub record IsSize (ts : List ℕ) (z : ℕ) (s : Size) : Type 0 where
  pub size : s.q ≡ take_all_size ts z
  pub sample : s.n ≡ z - s.q
  pub rest_is : s.rest ≡ rest_turnover ts z
  pub group : (i : ℕ) → i < length ts → has_least ts s.least i ≡ largest ts s.q i
