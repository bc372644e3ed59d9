-- Tests and sums of lists in std's words are those of `rules`.
use mathlib.Core.Path.{◌≡◌, refl, sym, ap, ◌∙◌}
use mathlib.Core.Bool.{Bool, true, false, not, ◌||◌}
use mathlib.Core.List.{List, [], ◌∷◌}
use mathlib.Core.Logic.{◌⊎◌, inl, inr}
use Prim.Native.Nat.{ℕ, ◌+◌, ◌*◌}
use Rattle.std.specs.Prelude.{ltb, eqb}
use lib.ListN.{length}
use Rattle.std.specs.List.{list_any, sum_by}
use Rattle.std.proofs.lemmas.List.Recursion.{is_sum_by}
use Rattle.rules.specs.Tests.{◌or◌}
use Rattle.rules.specs.Limits.{most_sectors, sector_scale}
use Rattle.rules.specs.Lists.{sum, products, any_of}
use Rattle.rules.specs.Chain.{bad_index}
use Rattle.rules.specs.Total.{bad_sectors}

pub sum_as : (l : List ℕ) → sum_by (λ x. x) l ≡ sum l
unfolding sum
sum_as l = sym (is_sum_by sum (λ x. x) refl (λ _ _. refl) l)

either_as : (a b : Bool) → (a || b) ≡ (a or b)
unfolding ◌or◌
either_as true b = refl
either_as false b = refl

pub any_as : (test : ℕ → Bool) (l : List ℕ) → list_any test l ≡ any_of test l
unfolding any_of
any_as test [] = refl
any_as test (x ∷ xs) = either_as (test x) (list_any test xs) ∙ ap (λ b. test x or b) (any_as test xs)

-- the pairs of two lists, one after the other
pub products_more : {xs ys xs' ys' : List ℕ} {x y r : ℕ} → (xs ≡ x ∷ xs') × (ys ≡ y ∷ ys') → r ≡ x → sum (products xs ys) ≡ r * y + sum (products xs' ys')
unfolding sum products
products_more e r = rw (e.0, e.1, r)

products_nothing : (xs : List ℕ) → sum (products xs []) ≡ 0
unfolding sum products
products_nothing [] = refl
products_nothing (x ∷ xs) = refl

pub products_none : {xs ys : List ℕ} → (xs ≡ []) ⊎ (ys ≡ []) → sum (products xs ys) ≡ 0
unfolding sum products
products_none (inl e) = rw e
products_none {xs = xs} (inr e) = ap (λ ys. sum (products xs ys)) e ∙ products_nothing xs

-- the tests of 14 one after the other: by this alone `bad_sectors` is proved, so that a slip in any of its returns is refused by what it answers
pub bad_as : (shares indices : List ℕ) → bad_sectors shares indices ≡
    (not (eqb (length indices) (length shares))
    || eqb (length shares) 0
    || ltb most_sectors (length shares)
    || not (eqb (sum_by (λ x. x) shares) sector_scale)
    || list_any bad_index indices)
unfolding bad_sectors ◌or◌
bad_as shares indices = rw (sum_as shares, any_as bad_index indices, either_as) refl
