-- What the search for a step asks of its members and sizes: what refusals 1 to 7 leave.
use Rattle.std.specs.Prelude.{◌≡◌, List, ℕ, ◌+◌, ◌<◌, length, get_or}
use Rattle.rules.specs.Selection.{count}
use Rattle.draw_key.specs.declared.Setting.{Setting}
use Rattle.draw_key.specs.Units.{keyless}

-- z the take-all units of a frame and those to sample under a setting, and the places of the members
pub record Searched (ts gs members : List ℕ) (s : Setting) (z : ℕ) : Type 0 where
  pub sized : 0 < s.n → count (keyless gs) (length ts) + s.n ≡ z
  pub low : (j : ℕ) → j < length members → get_or members j 0 < length ts
