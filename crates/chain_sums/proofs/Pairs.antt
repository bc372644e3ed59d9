-- A test of two lists in step (`rules`, Lists), as a chain of iterators asks it.
use mathlib.Core.Path.{◌≡◌, refl, ◌∙◌}
use mathlib.Core.Bool.{Bool, true, false, ◌||◌}
use mathlib.Core.List.{List, [], ◌∷◌}
use Prim.Native.Nat.{ℕ}
use denote.Param.Members.{Mut}
use denote.Ref.{Bor}
use Rattle.std.proofs.iter.Yields.{fronts}
use Rattle.std.proofs.lemmas.Iterator.{YieldsList-from_slice, YieldsList-from_zip, zips}
use Rattle.std.proofs.lemmas.Iterator.Search.{any_from_yields_List}
use Rattle.std.specs.Fn.{Called}
use Rattle.std.specs.Iterator.{ChecksAny}
use Rattle.std.specs.Iterator.Adapters.{zip_first, zip_second}
use Rattle.std.specs.List.{list_any, zip}
use Rattle.std.specs.Slice.Iter.{iter_rest}
use Rattle.std.specs.declared.slice.Iter.{Iter}
use Rattle.std.specs.declared.iter.Zip.{Zip}
use Rattle.rules.specs.Tests.{◌or◌}
use Rattle.rules.specs.Lists.{any_of, any_pair}

or_same : (a b c : Bool) → b ≡ c → (a || b) ≡ (a or c)
unfolding ◌or◌
or_same true b c e = refl
or_same false b c e = e

pub any_of_is : (test : ℕ → Bool) (xs : List ℕ) → list_any test xs ≡ any_of test xs
unfolding any_of
any_of_is test [] = refl
any_of_is test (x ∷ xs) = or_same (test x) _ _ (any_of_is test xs)

any_pair_is : (test : ℕ → ℕ → Bool) (xs ys : List ℕ) → list_any (λ (p : ℕ × ℕ). test p.0 p.1) (zip xs ys) ≡ any_pair test xs ys
unfolding any_pair
any_pair_is test [] ys = refl
any_pair_is test (x ∷ xs) [] = refl
any_pair_is test (x ∷ xs) (y ∷ ys) = or_same (test x y) _ _ (any_pair_is test xs ys)

any_same_is : (test : ℕ → ℕ → Bool) (xs : List ℕ) → list_any (λ x. test x x) xs ≡ any_pair test xs xs
unfolding any_pair
any_same_is test [] = refl
any_same_is test (x ∷ xs) = or_same (test x x) _ _ (any_same_is test xs)

-- what `any` answers over one list, and over two
pub any_one : {F : Type 0} {g : Mut F (Bor ℕ × Unit {0}) Bool} {s : Iter ℕ} {f : F} {r : Bool} (test : ℕ → Bool) (xs : List ℕ) (t : Iter ℕ) →
    ChecksAny fronts g s f r t → iter_rest s ≡ xs → ((x : Bor ℕ) (b : Bool) (q : F) → Called g f (x, tt) b q → (q ≡ f) × (b ≡ test x.now)) → r ≡ any_of test xs
any_one {f = f} {r = r} test xs t ran e h = any_from_yields_List test t f r ran (YieldsList-from_slice xs e) h ∙ any_of_is test xs

pub any_two : {F : Type 0} {g : Mut F ((Bor ℕ × Bor ℕ) × Unit {0}) Bool} {s : Zip (Iter ℕ) (Iter ℕ)} {f : F} {r : Bool} (test : ℕ → ℕ → Bool) (xs ys : List ℕ) (t : Zip (Iter ℕ) (Iter ℕ)) →
    ChecksAny (zips fronts fronts) g s f r t → iter_rest (zip_first s) ≡ xs → iter_rest (zip_second s) ≡ ys →
    ((x : Bor ℕ × Bor ℕ) (b : Bool) (q : F) → Called g f (x, tt) b q → (q ≡ f) × (b ≡ test x.0.now x.1.now)) → r ≡ any_pair test xs ys
any_two {f = f} {r = r} test xs ys t ran a b h =
    any_from_yields_List (λ (p : ℕ × ℕ). test p.0 p.1) t f r ran (YieldsList-from_zip (YieldsList-from_slice xs a) (YieldsList-from_slice ys b)) h ∙ any_pair_is test xs ys

-- a list in step with itself
pub any_same : {F : Type 0} {g : Mut F (Bor ℕ × Unit {0}) Bool} {s : Iter ℕ} {f : F} {r : Bool} (test : ℕ → ℕ → Bool) (xs : List ℕ) (t : Iter ℕ) →
    ChecksAny fronts g s f r t → iter_rest s ≡ xs → ((x : Bor ℕ) (b : Bool) (q : F) → Called g f (x, tt) b q → (q ≡ f) × (b ≡ test x.now x.now)) → r ≡ any_pair test xs xs
any_same {f = f} {r = r} test xs t ran e h = any_from_yields_List (λ x. test x x) t f r ran (YieldsList-from_slice xs e) h ∙ any_same_is test xs
