-- A test of the strengths in std's words is that of `rules`.
use mathlib.Core.Path.{◌≡◌, refl, ap, ◌∙◌}
use mathlib.Core.Bool.{Bool, true, false, ◌||◌}
use mathlib.Core.List.{List, [], ◌∷◌}
use Prim.Native.Nat.{ℕ}
use lib.Dec.{ltb}
use Rattle.std.specs.List.{list_any}
use Rattle.rules.specs.Tests.{◌or◌, outside}
use Rattle.rules.specs.Lists.{any_of}

either_as : (a b : Bool) → (a || b) ≡ (a or b)
unfolding ◌or◌
either_as true b = refl
either_as false b = refl

module _ (low high : ℕ) where
  abbrev pub is_outside : ℕ → Bool
  is_outside x = ltb x low || ltb high x

  pub outside_as : (l : List ℕ) → list_any is_outside l ≡ any_of (outside low high) l
  unfolding outside any_of
  outside_as [] = refl
  outside_as (x ∷ xs) = either_as (is_outside x) (list_any is_outside xs) ∙ ap (λ b. b or list_any is_outside xs) (either_as (ltb x low) (ltb high x)) ∙ ap (λ b. outside low high x or b) (outside_as xs)
