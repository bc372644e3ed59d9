-- Document 01, "Rotation", and document 02, [1]: the leavers as units of the frame, in order, and their numbers.
use Rattle.std.specs.Prelude.{◌≡◌, List, map, ℕ, ◌<◌, length, get_or, take}
use Rattle.rules.specs.Selection.{listed}
use Rattle.rules.specs.Order.{ordered}
use Rattle.rules.specs.TakeAll.{larger}
use Rattle.draw_key.specs.declared.Setting.{Setting}
use Rattle.rotation_members.specs.Filled.{Filled}
use Rattle.rotation_step.specs.Leaving.{member_leaves, leaving}

-- the places of the members that are not sampled, in the members' order
unfoldable pub leaving_units : List ℕ → List ℕ → List ℕ → List ℕ → Setting → List ℕ
leaving_units ts rs gs members s = listed (member_leaves ts rs gs members s) (λ j. get_or members j 0) (length members)

-- the front of a lent list is filled with them
abbrev pub Listed : List ℕ → List ℕ → List ℕ → List ℕ → Setting → List ℕ → List ℕ → ℕ → Type 0
Listed ts rs gs members s before after n = Filled (member_leaves ts rs gs members s) (λ j. get_or members j 0) (length members) before after n

-- "by falling turnover in the new frame, equal turnovers by lower unit number"
unfoldable pub units_in_order : List ℕ → List ℕ → List ℕ → List ℕ → Setting → List ℕ
units_in_order ts rs gs members s = ordered (larger ts) (leaving_units ts rs gs members s)

-- the first n places of a list hold them
pub record Ordered (ts rs gs members : List ℕ) (s : Setting) (list : List ℕ) (n : ℕ) : Type 0 where
  pub many : n ≡ leaving ts rs gs members s
  pub front : take n list ≡ units_in_order ts rs gs members s

-- each unit of the list has a number
pub record Numbered (numbers units : List ℕ) : Type 0 where
  pub at : (j : ℕ) → j < length units → get_or units j 0 < length numbers

-- the numbers of units, in the order of the list
unfoldable pub numbers_of : List ℕ → List ℕ → List ℕ
numbers_of numbers units = map (λ i. get_or numbers i 0) units
