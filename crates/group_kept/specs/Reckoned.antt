-- What a group has that is reckoned from its own units, the base group as the enlarged one: z units with the sampled ones, X the turnover outside it, and
-- outside n × turnover < X where any is sampled; X is 0 where nobody is, though units may remain outside.
use Rattle.std.specs.Prelude.{◌≡◌, false, not, List, ℕ, ◌+◌, ◌*◌, ◌<◌, length}
use Rattle.rules.specs.Selection.{sum_of, count}
use Rattle.rules.specs.TakeAll.{Group, turnover}

pub record Reckoned (ts : List ℕ) (z : ℕ) (g : Group) : Type 0 where
  pub parts : count g.takes_all (length ts) + g.sample_size ≡ z
  pub rest_is : 0 < g.sample_size → g.rest ≡ sum_of (λ i. not (g.takes_all i)) (turnover ts) (length ts)
  pub below : 0 < g.sample_size → (i : ℕ) → i < length ts → g.takes_all i ≡ false → g.sample_size * turnover ts i < g.rest
  pub cut : g.sample_size ≡ 0 → g.rest ≡ 0
