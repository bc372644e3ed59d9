-- The gaps of a frame's units (document 01, "Draw"; document 02, [8]): the part of a key that no start changes, known before any start is looked at.
use Rattle.std.specs.Prelude.{◌≡◌, cond, List, ℕ, ◌-◌, ◌*◌, ◌≤◌, ◌<◌, length, get_or}
use Rattle.rules.specs.TakeAll.{turnover}
use Rattle.group.specs.Group.{marked}
use Rattle.draw_key.specs.declared.Method.{Method}
use Rattle.draw_key.specs.Methods.{taken_off}

-- "X − n × turnover" of "a unit outside take-all", and X where n is not taken off; a take-all unit has no key, and 0 here
unfoldable pub gap_of : List ℕ → List ℕ → ℕ → ℕ → ℕ → ℕ
gap_of ts marks off rest i = cond (marked marks i) 0 (rest - off * turnover ts i)

-- gs holds the gap of each unit, by the method
pub record Gaps (ts marks : List ℕ) (m : Method) (n rest : ℕ) (gs : List ℕ) : Type 0 where
  pub room : length ts ≤ length gs
  pub at : (i : ℕ) → i < length ts → get_or gs i 0 ≡ gap_of ts marks (taken_off m n) rest i
