-- What is listed of marked units: each is below the frame's end, each marked unit stands at its place, and a second look at the listed ones alone.
use mathlib.Core.Path.{◌≡◌, refl, sym, ap, ◌∙◌, subst}
use mathlib.Core.Logic.{⊎_elim}
use mathlib.Core.Bool.{Bool, true, cond}
use mathlib.Core.List.{List, [], ◌∷◌, ◌++◌, append-nil}
use Prim.Native.Nat.{ℕ, zero, suc, ◌+◌, ◌<◌}
use native.Mathlib.Nat.{not-suc-le-zero, eq-or-lt_of_le, le_of_suc-le-suc}
use native.Mathlib.Omega.{arith}
use native.Mathlib.Numerals.{add-one}
use lib.ListN.{length, get_or, take, get_or-append}
use lib.Seq.{get_or_at}
use Rattle.rules.specs.Tests.{◌and◌}
use Rattle.rules.specs.Selection.{count, listed, sum_of, every}
use Rattle.rules.proofs.Tests.{by_test}
use Rattle.rules.proofs.Lists.{take_last, snoc_under}
use Rattle.selection.proofs.Sums.{has_room, listed_length, count_every}

module _ (mark : ℕ → Bool) (f : ℕ → ℕ) (bound : ℕ) where
  -- what is listed is below a bound that f of each unit is below
  pub listed_under : (n : ℕ) → ((i : ℕ) → i < n → f i < bound) → (j : ℕ) → j < length (listed mark f n) → get_or (listed mark f n) j 0 < bound
  unfolding listed
  listed_under zero low j = λ h. absurd (not-suc-le-zero h)
  listed_under (suc n) low j =
      let rest = listed_under n (λ i l. low i (omega arith)) in
      by_test (mark n) (λ e. rw e (snoc_under (listed mark f n) (f n) bound rest (low n (omega arith)) j)) (λ e. rw (e, append-nil) (rest j))

module _ (mark : ℕ → Bool) where
  -- so the listed units below n are below n
  pub listed_low : (n j : ℕ) → j < length (listed mark (λ i. i) n) → get_or (listed mark (λ i. i) n) j 0 < n
  listed_low n = listed_under mark (λ i. i) n n (λ i l. l)

  -- a marked unit stands at the place that counts those before it
  pub listed_has : (n i : ℕ) → i < n → mark i ≡ true → get_or (listed mark (λ k. k) n) (count mark i) 0 ≡ i
  unfolding listed
  listed_has zero i l h = absurd (not-suc-le-zero l)
  listed_has (suc n) i l h =
      let here = listed mark (λ k. k) n in
      ⊎_elim
      (λ e.
      let marked : mark n ≡ true = subst (λ (k : ℕ). mark k ≡ true) e h in
      rw marked (get_or_at here n [] 0 (count mark i) (listed_length mark (λ k. k) n ∙ ap (count mark) (sym e)) ∙ sym e))
      (λ k.
      let room : count mark i < length here = omega (arith, listed_length mark (λ k. k) n, has_room mark n i k h) in
      get_or-append here (cond (mark n) (n ∷ []) []) 0 (count mark i) room ∙ listed_has n i k h)
      (eq-or-lt_of_le (le_of_suc-le-suc l))

-- of every unit, the one at its own place
pub every_at : (f : ℕ → ℕ) (n i : ℕ) → i < n → get_or (listed every f n) i 0 ≡ f i
unfolding listed
every_at f zero i l = absurd (not-suc-le-zero l)
every_at f (suc n) i l =
    let here = listed every f n in
    let size : length here ≡ n = listed_length every f n ∙ count_every n in
    ⊎_elim
    (λ e. get_or_at here (f n) [] 0 i (size ∙ sym e) ∙ ap f (sym e))
    (λ k. get_or-append here (f n ∷ []) 0 i (omega (arith, size)) ∙ every_at f n i k)
    (eq-or-lt_of_le (le_of_suc-le-suc l))

-- THE SECOND LOOK: of the units with the first mark, held as a list of places, those with the second are listed as a look at the whole frame for both
-- marks would list them
module _ (first second : ℕ → Bool) (ps : List ℕ) where
  pub listed_again :
      (f : ℕ → ℕ) (n : ℕ) → take (count first n) ps ≡ listed first (λ i. i) n
      → listed (λ j. second (get_or ps j 0)) (λ j. f (get_or ps j 0)) (count first n) ≡ listed (λ i. first i and second i) f n
  unfolding listed count sum_of ◌and◌
  listed_again f zero = λ h. refl
  listed_again f (suc n) =
      let rest = listed_again f n in
      let same : count first n + 0 ≡ count first n = omega arith in
      by_test (first n)
      (λ e. rw (e, add-one (count first n)) (λ h.
      let both = take_last ps (listed first (λ i. i) n) n (count first n) (listed_length first (λ i. i) n) h in
      rw both.1 (ap (λ (xs : List ℕ). xs ++ cond (second n) (f n ∷ []) []) (rest both.0))))
      (λ e. rw (e, same, append-nil, append-nil) rest)

-- marks and values that agree list the same
pub listed_both :
    (p q : ℕ → Bool) (f g : ℕ → ℕ) (n : ℕ) → ((i : ℕ) → i < n → p i ≡ q i) → ((i : ℕ) → i < n → f i ≡ g i) → listed p f n ≡ listed q g n
unfolding listed
listed_both p q f g zero h k = refl
listed_both p q f g (suc n) h k =
    rw (h n (omega arith), k n (omega arith), listed_both p q f g n (λ i l. h i (omega arith)) (λ i l. k i (omega arith)))

pub listed_same : (p q : ℕ → Bool) (f : ℕ → ℕ) (n : ℕ) → ((i : ℕ) → i < n → p i ≡ q i) → listed p f n ≡ listed q f n
listed_same p q f n h = listed_both p q f f n h (λ i l. refl)
