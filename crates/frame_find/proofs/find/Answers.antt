-- `find` meets its contract: in a rising list a binary search finds a number that stands in it.
use mathlib.Core.Path.{◌≡◌}
use mathlib.Core.Bool.{true}
use mathlib.Core.List.{List}
use Prim.Native.Nat.{ℕ, ◌≤◌, ◌<◌}
use native.Mathlib.Omega.{arith}
use lib.ListN.{length, get_or}
use Rattle.std.specs.Prelude.{Result, Ok, Err}
use Rattle.std.specs.Ordering.{nat_cmp}
use Rattle.std.specs.Result.{result_ok}
use Rattle.std.specs.List.Sorted.{IsBinarySearchResult}
use Rattle.std.proofs.lemmas.List.Sorted.{searched}
use Rattle.rules.specs.Lists.{rising}
use Rattle.rules.proofs.Tests.{by_order}
use Rattle.rules.proofs.Lists.{rising_below, elem_nowhere}
use Rattle.frame_find.specs.Found.{Found}
use Rattle.frame_find.proofs.find.Goals as goal

-- a rising list does not fall
never_falls : (list : List ℕ) → rising list ≡ true → (i j : ℕ) → i ≤ j → j < length list → get_or list i 0 ≤ get_or list j 0
never_falls list up i j l lj =
    by_order i j (λ a. omega (arith, rising_below list up i j a lj)) (λ a. let e : i ≡ j = omega arith in rw e (omega arith))

-- so the place that it gives is the number's, and with none the number is nowhere
found_is :
    (list : List ℕ) (x : ℕ) → rising list ≡ true → (r : Result ℕ ℕ) → IsBinarySearchResult (λ y. nat_cmp y x) list r → Found list x (result_ok r)
found_is list x up (Ok i) b = searched list x (Ok i) b (never_falls list up)
found_is list x up (Err i) b =
    let apart = searched list x (Err i) b (never_falls list up) in
    elem_nowhere x list (λ k l e. by_order k i (λ a. omega (arith, apart.1 k a, e)) (λ a. omega (arith, apart.2 k a l, e)))

-- It cites the search and no call behind it, so that what an edit puts there is refused for what it answers alone.
pub returns : goal.returns
returns c =
    let found = found_is c.args.list.now c.args.number c.requires _ c.binary_search.ensures.position in
    grind (arith, found)
