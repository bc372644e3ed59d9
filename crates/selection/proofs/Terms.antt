-- Sums term by term: of two marks, of products, of bounded terms, of one for each; and the list of a sum's terms.
use mathlib.Core.Path.{◌≡◌, refl, sym, ap, ◌∙◌}
use mathlib.Core.Logic.{⊎_elim}
use mathlib.Core.Bool.{Bool, true, false, not, cond}
use mathlib.Core.List.{List, [], ◌∷◌, ◌++◌}
use Prim.Native.Nat.{ℕ, zero, suc, ◌+◌, ◌*◌, ◌≤◌, ◌<◌}
use native.Mathlib.Nat.{le_refl, le_antisymm, eq-or-lt_of_le, le_of_suc-le-suc, not-suc-le-zero, mul-le-mul_right}
use native.Mathlib.Omega.{arith}
use lib.ListN.{length, get_or, replicate, get_or-append}
use lib.Seq.{get_or_at}
use Rattle.rules.specs.Tests.{◌and◌}
use Rattle.rules.specs.Lists.{sum}
use Rattle.rules.specs.Selection.{sum_of, count, listed, every}
use Rattle.rules.proofs.Tests.{by_test}
use Rattle.selection.proofs.Sums.{sum_le, sum_next, sum_grows, count_le, count_every, listed_length}

-- ---- one turn of a loop that adds the marked terms
module _ (mark : ℕ → Bool) (f : ℕ → ℕ) (i : ℕ) where
  pub sum_in : mark i ≡ true → sum_of mark f (i + 1) ≡ sum_of mark f i + f i
  sum_in h = sum_next mark f i ∙ rw h

  pub sum_out : mark i ≡ false → sum_of mark f (i + 1) ≡ sum_of mark f i
  sum_out h = sum_next mark f i ∙ rw h (omega arith)

  -- one more is within the whole sum
  pub sum_room : (n : ℕ) → mark i ≡ true → i < n → sum_of mark f i + f i ≤ sum_of mark f n
  sum_room n h l = omega (arith, sum_in h, sum_grows mark f (i + 1) n (omega arith))

pub sum_every : (mark : ℕ → Bool) (f : ℕ → ℕ) (n : ℕ) → sum_of mark f n ≤ sum_of every f n
sum_every mark f n = sum_le mark every f n (λ i l h. refl)

-- ---- two marks, or two terms
-- of the marked, those with a second mark and those without
pub sum_second : (p q : ℕ → Bool) (f : ℕ → ℕ) (n : ℕ) → sum_of p f n ≡ sum_of (λ i. p i and q i) f n + sum_of (λ i. p i and not (q i)) f n
unfolding sum_of ◌and◌
sum_second p q f zero = refl
sum_second p q f (suc n) =
    let rest = sum_second p q f n in
    by_test (p n) (λ a. by_test (q n) (λ b. rw (a, b) (omega arith)) (λ b. rw (a, b) (omega arith))) (λ a. rw a (omega arith))

-- one term for the marked, another for the others
pub sum_either : (p : ℕ → Bool) (f g : ℕ → ℕ) (n : ℕ) → sum_of every (λ i. cond (p i) (f i) (g i)) n ≡ sum_of p f n + sum_of (λ i. not (p i)) g n
unfolding sum_of
sum_either p f g zero = refl
sum_either p f g (suc n) =
    let rest = sum_either p f g n in
    by_test (p n) (λ e. rw e (omega arith)) (λ e. rw e (omega arith))

-- one for each of a part
pub sum_ones : (p q : ℕ → Bool) (n : ℕ) → ((i : ℕ) → i < n → q i ≡ true → p i ≡ true) → sum_of p (λ i. cond (q i) 1 0) n ≡ count q n
unfolding sum_of count
sum_ones p q zero h = refl
sum_ones p q (suc n) h =
    let rest = sum_ones p q n (λ i l. h i (omega arith)) in
    by_test (q n) (λ e. rw (e, h n (omega arith) e) (omega arith)) (λ e. by_test (p n) (λ a. rw (e, a) (omega arith)) (λ a. rw (e, a) (omega arith)))

module _ (p : ℕ → Bool) where
  pub sum_times : (f : ℕ → ℕ) (c n : ℕ) → sum_of p (λ i. f i * c) n ≡ sum_of p f n * c
  unfolding sum_of
  sum_times f c zero = omega arith
  sum_times f c (suc n) =
      let rest = sum_times f c n in
      by_test (p n) (λ e. rw e (omega arith)) (λ e. rw e (omega arith))

  pub sum_plus : (f g : ℕ → ℕ) (n : ℕ) → sum_of p (λ i. f i + g i) n ≡ sum_of p f n + sum_of p g n
  unfolding sum_of
  sum_plus f g zero = refl
  sum_plus f g (suc n) =
      let rest = sum_plus f g n in
      by_test (p n) (λ e. rw e (omega arith)) (λ e. rw e (omega arith))

  -- terms that are no larger; smaller, by one for each; equal; within a limit
  pub sum_terms : (f g : ℕ → ℕ) (n : ℕ) → ((i : ℕ) → i < n → p i ≡ true → f i ≤ g i) → sum_of p f n ≤ sum_of p g n
  unfolding sum_of
  sum_terms f g zero h = le_refl 0
  sum_terms f g (suc n) h =
      let rest = sum_terms f g n (λ i l. h i (omega arith)) in
      by_test (p n) (λ e. rw e (omega (arith, h n (omega arith) e))) (λ e. rw e (omega arith))

  pub sum_smaller : (f g : ℕ → ℕ) (n : ℕ) → ((i : ℕ) → i < n → p i ≡ true → f i < g i) → sum_of p f n + count p n ≤ sum_of p g n
  unfolding count
  sum_smaller f g n h = omega (arith, sum_plus f (λ i. 1) n, sum_terms (λ i. f i + 1) g n (λ i l k. omega (arith, h i l k)))

  pub sum_equal : (f g : ℕ → ℕ) (n : ℕ) → ((i : ℕ) → i < n → p i ≡ true → f i ≡ g i) → sum_of p f n ≡ sum_of p g n
  sum_equal f g n h =
      le_antisymm (sum_terms f g n (λ i l k. omega (arith, h i l k))) (sum_terms g f n (λ i l k. omega (arith, h i l k)))

  pub sum_most : (f : ℕ → ℕ) (most n : ℕ) → ((i : ℕ) → i < n → p i ≡ true → f i ≤ most) → sum_of p f n ≤ n * most
  unfolding count
  sum_most f most n h =
      omega (
        arith,
        sum_terms f (λ i. 1 * most) n (λ i l k. omega (arith, h i l k)),
        sum_times (λ i. 1) most n,
        mul-le-mul_right most (count_le p n),
      )

-- ---- the list of all terms
pub sum_append : (xs ys : List ℕ) → sum (xs ++ ys) ≡ sum xs + sum ys
unfolding sum
sum_append [] ys = omega arith
sum_append (x ∷ xs) ys = omega (arith, sum_append xs ys)

pub sum_listed : (p : ℕ → Bool) (f : ℕ → ℕ) (n : ℕ) → sum (listed p f n) ≡ sum_of p f n
unfolding sum listed sum_of
sum_listed p f zero = refl
sum_listed p f (suc n) =
    let rest = sum_listed p f n in
    sum_append (listed p f n) (cond (p n) (f n ∷ []) []) ∙ by_test (p n) (λ e. rw e (omega arith)) (λ e. rw e (omega arith))

pub sum_zeros : (k : ℕ) → sum (replicate k 0) ≡ 0
unfolding sum
sum_zeros zero = refl
sum_zeros (suc k) = omega (arith, sum_zeros k)

module _ (f : ℕ → ℕ) where
  pub length_terms : (n : ℕ) → length (listed every f n) ≡ n
  length_terms n = listed_length every f n ∙ count_every n

  -- each term stands at its place
  pub term_at : (n i : ℕ) → i < n → get_or (listed every f n) i 0 ≡ f i
  unfolding listed
  term_at zero i l = absurd (not-suc-le-zero l)
  term_at (suc n) i l =
      ⊎_elim
      (λ e. get_or_at (listed every f n) (f n) [] 0 i (length_terms n ∙ sym e) ∙ ap f (sym e))
      (λ k. get_or-append (listed every f n) (f n ∷ []) 0 i (omega (arith, length_terms n)) ∙ term_at n i k)
      (eq-or-lt_of_le (le_of_suc-le-suc l))
