-- What the writing of the panel asks for, and what it writes.
use Rattle.std.specs.Prelude.{Bool, true, not, List, ◌≡◌, ℕ, ◌≤◌, ◌<◌, length, get_or, eqb}
use Rattle.rules.specs.Limits.{most_turnover, most_panel}
use Rattle.rules.specs.Tests.{◌or◌}
use Rattle.rules.specs.Lists.{sum}
use Rattle.rules.specs.Selection.{count, listed}
use Rattle.rules.specs.TakeAll.{base_weight}
use Rattle.group.specs.Group.{marked, rules_group}
use Rattle.draw_key.specs.declared.Setting.{Setting}
use Rattle.draw_key.specs.Units.{has_key, sampled_of}

-- turnovers, marks and a setting by which a W fits 64 bits
pub record Weighable (ts marks : List ℕ) (s : Setting) : Type 0 where
  pub total : sum ts ≤ most_turnover
  pub size_low : s.n ≤ most_panel
  pub marks_room : length ts ≤ length marks

-- W by the marks of the take-all group
abbrev pub weight_by : List ℕ → List ℕ → Setting → ℕ → ℕ
weight_by ts marks s = base_weight ts (rules_group marks s.n s.rest)

-- unit i has any mark
abbrev pub any_mark : List ℕ → ℕ → Bool
any_mark marks i = not (eqb (get_or marks i 0) 0)

-- how many have any, and f of those
abbrev pub marked_size : List ℕ → List ℕ → ℕ
marked_size ts marks = count (any_mark marks) (length ts)

abbrev pub marked_of : List ℕ → List ℕ → (ℕ → ℕ) → List ℕ
marked_of ts marks f = listed (any_mark marks) f (length ts)

-- in the panel: take-all or sampled
abbrev pub drawn_of : List ℕ → List ℕ → List ℕ → List ℕ → Setting → ℕ → Bool
drawn_of ts rs gs marks s i = marked marks i or sampled_of ts rs gs s i

-- how many are, and f of those
abbrev pub panel_size : List ℕ → List ℕ → List ℕ → List ℕ → Setting → ℕ
panel_size ts rs gs marks s = count (drawn_of ts rs gs marks s) (length ts)

abbrev pub panel_of : List ℕ → List ℕ → List ℕ → List ℕ → Setting → (ℕ → ℕ) → List ℕ
panel_of ts rs gs marks s f = listed (drawn_of ts rs gs marks s) f (length ts)

-- marks of a group, 1 or 0 for each unit, and 0 for one with a key
pub record Markable (ts gs marks : List ℕ) : Type 0 where
  pub low : (i : ℕ) → i < length ts → get_or marks i 0 ≤ 1
  pub keyed : (i : ℕ) → i < length ts → has_key gs i ≡ true → get_or marks i 0 ≡ 0
