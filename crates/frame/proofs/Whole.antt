-- What a chain over a whole list says, in the words of `rules`: whether a test holds somewhere, the largest number, and the sum.
use mathlib.Core.Path.{◌≡◌, refl, sym, ◌∙◌}
use mathlib.Core.Bool.{Bool}
use mathlib.Core.List.{List, [], ◌∷◌}
use Prim.Native.Nat.{ℕ, suc, ◌*◌, ◌<◌, ◌≤◌, max}
use native.Mathlib.Omega.{arith}
use lib.Dec.{leb}
use lib.ListN.{length, get_or}
use borrow.Author.Tests.{le-leb, lt-leb, leb-true, leb-false}
use Rattle.std.specs.List.{list_any, sum as std_sum}
use Rattle.std.proofs.lemmas.List.Recursion.{is_sum_by}
use Rattle.rules.specs.Tests.{◌or◌}
use Rattle.rules.specs.Lists.{sum, any_of}
use Rattle.rules.proofs.Tests.{by_test}

-- the test holds at some place
pub any_is : (test : ℕ → Bool) (l : List ℕ) → list_any test l ≡ any_of test l
unfolding any_of ◌or◌
any_is test [] = refl
any_is test (x ∷ xs) = by_test (test x) (λ e. rw e) (λ e. rw e (any_is test xs))

-- the largest number, or 0
abbrev pub largest : List ℕ → ℕ
largest [] = 0
largest (x ∷ xs) = max x (largest xs)

pub largest_at : (limit : ℕ) (l : List ℕ) → 0 < limit → leb limit (largest l) ≡ any_of (leb limit) l
unfolding any_of ◌or◌
largest_at limit [] h = lt-leb limit 0 h
largest_at limit (x ∷ xs) h =
    by_test (leb limit x)
    (λ e. let l = leb-true limit x e in rw e (le-leb limit (max x (largest xs)) (omega arith)))
    (λ e. let l = leb-false limit x e in
    rw e
    (by_test (leb limit (largest xs))
    (λ k. let m = leb-true limit (largest xs) k in le-leb limit (max x (largest xs)) (omega arith) ∙ sym k)
    (λ k. let m = leb-false limit (largest xs) k in lt-leb limit (max x (largest xs)) (omega arith) ∙ sym k)
    ∙ largest_at limit xs h))

-- the sum
pub sum_is : (l : List ℕ) → sum l ≡ std_sum l
unfolding sum
sum_is = is_sum_by sum (λ x. x) refl (λ _ _. refl)
