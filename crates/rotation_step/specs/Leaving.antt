-- Document 01, "Rotation", asked of the members alone: `leaves` and `suffices` of `rules` look at each unit of the frame, a
-- step looks at the list of the members' places; proofs/Members of `rotation` shows that both say the same.
use Rattle.std.specs.Prelude.{Bool, not, List, Option, Some, None, ℕ, length, get_or, leb}
use Rattle.rules.specs.Limits.{steps}
use Rattle.rules.specs.Selection.{count, least_from}
use Rattle.rules.specs.Rotation.{start_at}
use Rattle.draw_key.specs.declared.Setting.{Setting}
use Rattle.draw_key.specs.Units.{sampled_of}

-- the same method, n and X under another start, and under the start that step k leads to
abbrev pub under : Setting → ℕ → Setting
under s start = record { method = s.method; start = start; n = s.n; rest = s.rest }

abbrev pub setting_at : Setting → ℕ → Setting
setting_at s k = under s (start_at s.start k)

-- the member whose place stands at j is not sampled
unfoldable pub member_leaves : List ℕ → List ℕ → List ℕ → List ℕ → Setting → ℕ → Bool
member_leaves ts rs gs members s j = not (sampled_of ts rs gs s (get_or members j 0))

-- how many members are not sampled
unfoldable pub leaving : List ℕ → List ℕ → List ℕ → List ℕ → Setting → ℕ
leaving ts rs gs members s = count (member_leaves ts rs gs members s) (length members)

-- at step k at least `need` members are not sampled
unfoldable pub enough_leave : List ℕ → List ℕ → List ℕ → List ℕ → Setting → ℕ → ℕ → Bool
enough_leave ts rs gs members s need k = leb need (leaving ts rs gs members (setting_at s k))

-- the smallest such step, or 1,000
unfoldable pub first_step : List ℕ → List ℕ → List ℕ → List ℕ → Setting → ℕ → ℕ
first_step ts rs gs members s need = least_from (enough_leave ts rs gs members s need) steps 0

-- the step that is found, or 1,000 where none is
abbrev pub step_or_last : Option ℕ → ℕ
step_or_last (Some k) = k
step_or_last None = steps
