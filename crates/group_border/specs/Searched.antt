-- What is searched at the border, in the words of `rules`.
use Rattle.std.specs.Prelude.{Bool, List, ℕ}
use Rattle.rules.specs.TakeAll.{Group as RulesGroup}
use Rattle.rules.specs.Kept.{keeping}
use Rattle.group.specs.Group.{rules_group}
use Rattle.group_keeping.specs.Keeping.{keeping_of}
use Rattle.group_border.specs.declared.border.Border.{Border}
use Rattle.group_border.specs.Border.{eligible, Gathered, Candidates}

-- its group
abbrev pub group_of : Border → RulesGroup
group_of b = rules_group b.marks.now b.group.n b.group.rest

-- a unit of its frame, outside the group, that is near the border
abbrev pub eligible_in : Border → ℕ → Bool
eligible_in b i = eligible b.turnovers.now b.marks.now b.keeping.threshold b.group.n b.group.rest i

-- a list of units: each candidate of two lists once, and nobody else
abbrev pub GatheredFrom : Border → List ℕ → List ℕ → List ℕ → Type 0
GatheredFrom b first second units = Gathered b.numbers.now b.turnovers.now (keeping b.keeping.threshold first second) (group_of b) units

-- the first n places hold the candidates of its lists, the largest first, equal turnovers by lower number
abbrev pub CandidatesOf : Border → List ℕ → ℕ → Type 0
CandidatesOf b units n = Candidates b.numbers.now b.turnovers.now (keeping_of b.keeping) (group_of b) units n
