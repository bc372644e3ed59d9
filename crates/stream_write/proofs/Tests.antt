-- Tests of lists in std's words are those of `rules`.
use Prim.Native.Nat.{ℕ}
use mathlib.Core.Path.{◌≡◌, refl, ap, ◌∙◌}
use mathlib.Core.Bool.{Bool, true, false, not, ◌||◌}
use mathlib.Core.List.{List, [], ◌∷◌}
use lib.Dec.{eqb}
use lib.ListN.{length}
use Rattle.std.specs.List.{list_any}
use Rattle.rules.specs.Tests.{◌or◌}
use Rattle.rules.specs.Lists.{any_of}
use Rattle.rules.specs.Writing.{Lists, unequal, differ}
use Rattle.stream_write.specs.Answer.{lengths_of}

either_as : (a b : Bool) → (a || b) ≡ (a or b)
unfolding ◌or◌
either_as true b = refl
either_as false b = refl

pub any_as : (test : ℕ → Bool) (l : List ℕ) → list_any test l ≡ any_of test l
unfolding any_of
any_as test [] = refl
any_as test (x ∷ xs) = either_as (test x) (list_any test xs) ∙ ap (λ b. test x or b) (any_as test xs)

five : (a b c d e : Bool) → (a || (b || (c || (d || (e || false))))) ≡ (a or b or c or d or e)
unfolding ◌or◌
five true b c d e = refl
five false true c d e = refl
five false false true d e = refl
five false false false true e = refl
five false false false false true = refl
five false false false false false = refl

pub unequal_as : (l : Lists) → list_any (λ n. not (eqb n (length l.kinds))) (lengths_of l) ≡ unequal l
unfolding differ
unequal_as l = five _ _ _ _ _
