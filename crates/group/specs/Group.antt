-- A take-all group as marks: who is in it, n and X. Everything above speaks of the marks, and of any group of `rules` that agrees with them, so that a group
-- need not be the largest units, and n can be 0 while units remain outside.
use Rattle.std.specs.Prelude.{◌≡◌, Bool, false, cond, List, ℕ, ◌+◌, ◌*◌, ◌≤◌, ◌<◌, length, get_or, eqb}
use Rattle.rules.specs.Lists.{sum}
use Rattle.rules.specs.Selection.{count, listed, every}
use Rattle.rules.specs.TakeAll.{turnover, take_all_size, take_all_group, Group as RulesGroup}
use Rattle.group.specs.declared.Group.{Group}

-- a mark for each of n units: 1 for one that is taken and 0 for another
abbrev pub marks_of : (ℕ → Bool) → ℕ → List ℕ
marks_of takes n = listed every (λ i. cond (takes i) 1 0) n

-- unit i has the mark of the group
unfoldable pub marked : List ℕ → ℕ → Bool
marked marks i = eqb (get_or marks i 0) 1

-- marks, n and X as a group of `rules`
abbrev pub rules_group : List ℕ → ℕ → ℕ → RulesGroup
rules_group marks n rest = record { takes_all = marked marks; sample_size = n; rest = rest }

-- two groups of a frame of `units` units are the same
pub record Agree (units : ℕ) (g r : RulesGroup) : Type 0 where
  pub takes : (i : ℕ) → i < units → g.takes_all i ≡ r.takes_all i
  pub size_is : g.sample_size ≡ r.sample_size
  pub rest_is : g.rest ≡ r.rest

-- marks and g are the take-all group of turnovers ts at panel size z
pub record IsGroup (ts : List ℕ) (z : ℕ) (marks : List ℕ) (g : Group) : Type 0 where
  pub size : g.q ≡ take_all_size ts z
  pub mark_is : (i : ℕ) → i < length ts → get_or marks i 0 ≡ cond ((take_all_group ts z).takes_all i) 1 0
  pub agrees : Agree (length ts) (rules_group marks g.n g.rest) (take_all_group ts z)

-- What draw and rotation know of a group, whoever is in it: z units with the sampled ones, outside it n × turnover < X where any is sampled, and X at
-- most the total.
pub record Sound (ts : List ℕ) (z : ℕ) (r : RulesGroup) : Type 0 where
  pub parts : count r.takes_all (length ts) + r.sample_size ≡ z
  pub below : 0 < r.sample_size → (i : ℕ) → i < length ts → r.takes_all i ≡ false → r.sample_size * turnover ts i < r.rest
  pub rest_low : r.rest ≤ sum ts
