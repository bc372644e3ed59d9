-- The place of a number in a list.
use Rattle.std.specs.Prelude.{◌≡◌, false, List, ℕ, ◌<◌, length, get_or, Option, Some, None}
use Rattle.rules.specs.Lists.{elem}

-- x stands at the place, or nowhere where there is none
abbrev pub Found : List ℕ → ℕ → Option ℕ → Type 0
Found list x (Some i) = (i < length list) × (get_or list i 0 ≡ x)
Found list x None = elem x list ≡ false
