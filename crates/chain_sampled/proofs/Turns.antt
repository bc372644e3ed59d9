-- The sampled units from place i on: a turn of a loop passes a take-all unit by, or takes a sampled one.
use mathlib.Core.Path.{◌≡◌, refl, sym, ap, ap₂, ◌∙◌}
use mathlib.Core.Bool.{Bool, true, false, not, ◌&&◌, false≢true}
use mathlib.Core.List.{List, [], ◌∷◌}
use Prim.Native.Nat.{ℕ, zero, suc, ◌+◌, ◌<◌, ◌≤◌}
use native.Mathlib.Omega.{arith}
use borrow.Author.Tests.{eqb-true, eq-eqb, ne_eqb, not-false}
use lib.Dec.{eqb}
use lib.ListN.{length, get_or, drop, drop_of_length-le}
use Rattle.rules.specs.Tests.{◌or◌}
use Rattle.rules.specs.Lists.{any_of, any_pair}
use Rattle.rules.specs.Panel.{of_sampled, sampled_base}
use Rattle.rules.proofs.Lists.{drop_step}

abbrev pub left : ℕ → List ℕ → List ℕ → List ℕ
left i ms xs = of_sampled (drop i ms) (drop i xs)

pass : (mark x : ℕ) (ms xs : List ℕ) → mark ≡ 0 → of_sampled (mark ∷ ms) (x ∷ xs) ≡ of_sampled ms xs
unfolding of_sampled
pass mark x ms xs e = rw e

take_one : (mark x : ℕ) (ms xs : List ℕ) → (mark ≡ 0 → ⊥) → of_sampled (mark ∷ ms) (x ∷ xs) ≡ x ∷ of_sampled ms xs
unfolding of_sampled
take_one zero x ms xs some = absurd (some refl)
take_one (suc mark) x ms xs some = refl

module _ (ms xs : List ℕ) (i : ℕ) where
  step : i < length ms → i < length xs → left i ms xs ≡ of_sampled (get_or ms i 0 ∷ drop (i + 1) ms) (get_or xs i 0 ∷ drop (i + 1) xs)
  step h k = ap₂ of_sampled (drop_step ms i h) (drop_step xs i k)

  pub passed : i < length ms → i < length xs → get_or ms i 0 ≡ 0 → left i ms xs ≡ left (i + 1) ms xs
  passed h k e = step h k ∙ pass _ _ _ _ e

  pub took : i < length ms → i < length xs → (get_or ms i 0 ≡ 0 → ⊥) → left i ms xs ≡ get_or xs i 0 ∷ left (i + 1) ms xs
  took h k some = step h k ∙ take_one _ _ _ _ some

  pub ended : length ms ≤ i → left i ms xs ≡ []
  unfolding of_sampled
  ended h = ap (λ (l : List ℕ). of_sampled l (drop i xs)) (drop_of_length-le ms h)

-- a test of the sampled units' numbers, as one of marks and numbers in step
abbrev pub sampled_other : ℕ → ℕ → ℕ → Bool
sampled_other x mark y = not (eqb mark 0) && not (eqb y x)

pub any_sampled : (x : ℕ) (ms xs : List ℕ) → any_pair (sampled_other x) ms xs ≡ any_of (λ y. not (eqb y x)) (of_sampled ms xs)
unfolding of_sampled any_pair any_of ◌or◌
any_sampled x [] xs = refl
any_sampled x (mark ∷ ms) [] = refl
any_sampled x (zero ∷ ms) (y ∷ xs) = any_sampled x ms xs
any_sampled x (suc mark ∷ ms) (y ∷ xs) = let some : eqb (suc mark) 0 ≡ false = ne_eqb (suc mark) 0 (λ e. absurd (omega (arith, e))) in
    rw some (ap (λ b. not (eqb y x) or b) (any_sampled x ms xs))

-- a mark that is not 0
abbrev pub marked : ℕ → Bool
marked mark = not (eqb mark 0)

pub marked_some : (mark : ℕ) → marked mark ≡ true → mark ≡ 0 → ⊥
marked_some mark e z = false≢true (sym (ap not (eq-eqb mark 0 z)) ∙ e)

pub marked_none : (mark : ℕ) → marked mark ≡ false → mark ≡ 0
marked_none mark e = eqb-true mark 0 (not-false _ e)

-- the first sampled unit stands at the first mark that is not 0
pub first_at : (ms xs : List ℕ) (i : ℕ) → i < length ms → length ms ≡ length xs → (get_or ms i 0 ≡ 0 → ⊥) → ((k : ℕ) → k < i → get_or ms k 0 ≡ 0) → get_or xs i 0 ≡ sampled_base ms xs
unfolding sampled_base of_sampled
first_at [] xs i h l some none = absurd (omega arith)
first_at (mark ∷ ms) [] i h l some none = absurd (omega arith)
first_at (zero ∷ ms) (x ∷ xs) zero h l some none = absurd (some refl)
first_at (zero ∷ ms) (x ∷ xs) (suc i) h l some none = first_at ms xs i (omega arith) (omega arith) some (λ k lt. none (suc k) (omega arith))
first_at (suc mark ∷ ms) (x ∷ xs) zero h l some none = refl
first_at (suc mark ∷ ms) (x ∷ xs) (suc i) h l some none = absurd (omega (arith, none 0 (omega arith)))

pub first_none : (ms xs : List ℕ) → ((k : ℕ) → k < length ms → get_or ms k 0 ≡ 0) → 0 ≡ sampled_base ms xs
unfolding sampled_base of_sampled
first_none [] xs none = refl
first_none (mark ∷ ms) [] none = refl
first_none (zero ∷ ms) (x ∷ xs) none = first_none ms xs (λ k lt. none (suc k) (omega arith))
first_none (suc mark ∷ ms) (x ∷ xs) none = absurd (omega (arith, none 0 (omega arith)))
