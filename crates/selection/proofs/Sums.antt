-- Sums and counts over marked units, and the list of them.
use Rattle.std.proofs.lemmas.Bool.{false_from_ne_true}
use mathlib.Core.Path.{◌≡◌, refl, sym, ap, ◌∙◌, subst}
use mathlib.Core.Logic.{⊎_elim}
use mathlib.Core.Bool.{Bool, true, false, not, cond, true≢false}
use mathlib.Core.List.{List, [], ◌∷◌, append-nil}
use Prim.Native.Nat.{ℕ, zero, suc, ◌+◌, ◌≤◌, ◌<◌}
use native.Mathlib.Nat.{le_trans, le_refl, eq-or-lt_of_le, le_of_suc-le-suc, not-suc-le-zero}
use native.Mathlib.Omega.{arith}
use native.Mathlib.Numerals.{add-one}
use lib.ListN.{length, get_or, set, drop, length-append}
use lib.Seq.{drop-cons, set_at, append_snoc}
use Rattle.rules.specs.Tests.{◌or◌, ◌and◌}
use Rattle.rules.specs.Refusals.{written}
use Rattle.rules.specs.Lists.{sum}
use Rattle.rules.specs.Selection.{sum_of, count, listed, every}
use Rattle.rules.proofs.Tests.{by_test}

module _ (p q : ℕ → Bool) (f : ℕ → ℕ) where
  -- more marks, a larger sum
  pub sum_le : (n : ℕ) → ((i : ℕ) → i < n → p i ≡ true → q i ≡ true) → sum_of p f n ≤ sum_of q f n
  unfolding sum_of
  sum_le zero h = le_refl 0
  sum_le (suc n) h =
      let rest = sum_le n (λ i l. h i (omega arith)) in
      by_test (p n) (λ e. rw (e, h n (omega arith) e) (omega arith)) (λ e. rw e (omega arith))

  -- equal marks, an equal sum
  pub sum_same : (n : ℕ) → ((i : ℕ) → i < n → p i ≡ q i) → sum_of p f n ≡ sum_of q f n
  unfolding sum_of
  sum_same zero h = refl
  sum_same (suc n) h = rw (sum_same n (λ i l. h i (omega arith)), h n (omega arith))

  module _ (w : ℕ) (unmarked : p w ≡ false) (marked : q w ≡ true) where
    last_marks : (n : ℕ) → w ≡ n → (p n ≡ false) × (q n ≡ true)
    last_marks n e = (subst (λ (k : ℕ). p k ≡ false) e unmarked, subst (λ (k : ℕ). q k ≡ true) e marked)

    -- larger by at least f w where w has only the second mark
    pub sum_less : (n : ℕ) → ((i : ℕ) → i < n → p i ≡ true → q i ≡ true) → w < n → sum_of p f n + f w ≤ sum_of q f n
    unfolding sum_of
    sum_less zero h l = absurd (not-suc-le-zero l)
    sum_less (suc n) h l =
        ⊎_elim
        (λ e. rw ((last_marks n e).0, (last_marks n e).1, e) (omega (arith, sum_le n (λ i m. h i (omega arith)))))
        (λ k.
        let rest = sum_less n (λ i m. h i (omega arith)) k in
        by_test (p n) (λ e. rw (e, h n (omega arith) e) (omega arith)) (λ e. rw e (omega arith)))
        (eq-or-lt_of_le (le_of_suc-le-suc l))

    -- and by f w where the others have both or neither
    pub sum_one : (n : ℕ) → ((i : ℕ) → i < n → (i ≡ w → ⊥) → p i ≡ q i) → w < n → sum_of q f n ≡ sum_of p f n + f w
    unfolding sum_of
    sum_one zero h l = absurd (not-suc-le-zero l)
    sum_one (suc n) h l =
        ⊎_elim
        (λ e. rw ((last_marks n e).0, (last_marks n e).1, e) (omega (arith, sum_same n (λ i m. h i (omega arith) (λ g. omega arith)))))
        (λ k.
        let rest = sum_one n (λ i m. h i (omega arith)) k in
        rw (h n (omega arith) (λ g. omega arith)) (omega arith))
        (eq-or-lt_of_le (le_of_suc-le-suc l))

module _ (p : ℕ → Bool) (f : ℕ → ℕ) where
  pub sum_none : (n : ℕ) → ((i : ℕ) → i < n → p i ≡ false) → sum_of p f n ≡ 0
  unfolding sum_of
  sum_none zero h = refl
  sum_none (suc n) h = rw (sum_none n (λ i l. h i (omega arith)), h n (omega arith))

  -- one of them is at most the sum
  pub sum_has : (n w : ℕ) → w < n → p w ≡ true → f w ≤ sum_of p f n
  sum_has n w l h = omega (arith, sum_less (λ i. false) p f w refl h n (λ i k g. absurd (true≢false (sym g))) l)

  -- the marked and the unmarked add up
  pub sum_both : (n : ℕ) → sum_of p f n + sum_of (λ i. not (p i)) f n ≡ sum_of every f n
  unfolding sum_of
  sum_both zero = refl
  sum_both (suc n) =
      let rest = sum_both n in
      by_test (p n) (λ e. rw e (omega arith)) (λ e. rw e (omega arith))

  -- one unit further
  pub sum_next : (i : ℕ) → sum_of p f (i + 1) ≡ sum_of p f i + cond (p i) (f i) 0
  unfolding sum_of
  sum_next i = rw (add-one i)

  pub sum_grows : (i n : ℕ) → i ≤ n → sum_of p f i ≤ sum_of p f n
  unfolding sum_of
  sum_grows i zero l = let e : i ≡ 0 = omega arith in rw e (le_refl _)
  sum_grows i (suc n) l =
      ⊎_elim (λ e. rw e (le_refl _)) (λ k. le_trans (sum_grows i n (le_of_suc-le-suc k)) (omega arith)) (eq-or-lt_of_le l)

-- all of a list, by places and by its recursion
sum_shift : (x : ℕ) (xs : List ℕ) (n : ℕ) → sum_of every (λ i. get_or (x ∷ xs) i 0) (suc n) ≡ x + sum_of every (λ i. get_or xs i 0) n
unfolding sum_of
sum_shift x xs zero = omega arith
sum_shift x xs (suc n) = omega (arith, sum_shift x xs n)

pub sum_list : (xs : List ℕ) → sum_of every (λ i. get_or xs i 0) (length xs) ≡ sum xs
unfolding sum sum_of
sum_list [] = refl
sum_list (x ∷ xs) = sum_shift x xs (length xs) ∙ ap (λ (n : ℕ). x + n) (sum_list xs)

-- so each place of a list is at most its sum
pub place_le : (xs : List ℕ) (i : ℕ) → i < length xs → get_or xs i 0 ≤ sum xs
place_le xs i l = omega (arith, sum_has every (λ k. get_or xs k 0) (length xs) i l refl, sum_list xs)

-- all the units below n are n
pub count_every : (n : ℕ) → count every n ≡ n
unfolding count sum_of
count_every zero = refl
count_every (suc n) = omega (arith, count_every n)

module _ (p : ℕ → Bool) where
  pub count_le : (n : ℕ) → count p n ≤ n
  unfolding count
  count_le n = omega (arith, count_every n, sum_le p every (λ i. 1) n (λ i l h. refl))

  pub count_zero : count p 0 ≡ 0
  unfolding count sum_of
  count_zero = refl

  pub count_yes : (i : ℕ) → p i ≡ true → count p (i + 1) ≡ count p i + 1
  unfolding count sum_of
  count_yes i h = rw (add-one i, h)

  pub count_not : (i : ℕ) → p i ≡ false → count p (i + 1) ≡ count p i
  unfolding count sum_of
  count_not i h = rw (add-one i, h) (omega arith)

  pub count_grows : (i n : ℕ) → i ≤ n → count p i ≤ count p n
  unfolding count
  count_grows i n l = sum_grows p (λ k. 1) i n l

  -- a marked unit is counted
  pub has_room : (n i : ℕ) → i < n → p i ≡ true → count p i < count p n
  has_room n i l h = omega (arith, count_yes i h, count_grows (i + 1) n (omega arith))

  -- where no more are counted, none is marked
  pub count_rest : (i n : ℕ) → count p i ≡ count p n → (k : ℕ) → i ≤ k → k < n → p k ≡ false
  count_rest i n e k l h = false_from_ne_true (p k) (λ q. omega (arith, has_room n k h q, count_grows i k l))

  -- the marked and the unmarked are all
  pub count_both : (n : ℕ) → count p n + count (λ i. not (p i)) n ≡ n
  unfolding count
  count_both n = omega (arith, sum_both p (λ i. 1) n, count_every n)

-- the units of one mark, and of the others those of a second
pub count_or : (a b : ℕ → Bool) (n : ℕ) → count (λ i. a i or (not (a i) and b i)) n ≡ count a n + count (λ i. not (a i) and b i) n
unfolding count sum_of ◌or◌ ◌and◌
count_or a b zero = refl
count_or a b (suc n) =
    let rest = count_or a b n in
    by_test (a n) (λ e. rw e (omega arith)) (λ e. rw e (omega arith))

module _ (p : ℕ → Bool) (f : ℕ → ℕ) where
  -- what is listed is as long as the count
  pub listed_length : (n : ℕ) → length (listed p f n) ≡ count p n
  unfolding listed count sum_of
  listed_length zero = refl
  listed_length (suc n) =
      let rest = listed_length n in
      by_test (p n) (λ e. rw e (simp length-append (omega arith))) (λ e. rw e (simp length-append (omega arith)))

  -- an unmarked unit is not listed
  pub listed_not : (i : ℕ) → p i ≡ false → listed p f (i + 1) ≡ listed p f i
  unfolding listed
  listed_not i h = rw (add-one, h) (append-nil _)

  -- nor are any number of them
  pub listed_skip : (i j : ℕ) → i ≤ j → ((k : ℕ) → i ≤ k → k < j → p k ≡ false) → listed p f j ≡ listed p f i
  unfolding listed
  listed_skip i zero l h = let e : i ≡ 0 = omega arith in rw e
  listed_skip i (suc j) l h =
      ⊎_elim (λ e. rw e)
      (λ k. rw (h j (omega arith) (omega arith)) (append-nil _ ∙ listed_skip i j (omega arith) (λ m a b. h m a (omega arith))))
      (eq-or-lt_of_le l)

  -- a turn of a loop that lists into a buffer: the next is stored behind those that are there
  pub written_store :
      (old now : List ℕ) (i k v : ℕ) → p i ≡ true → v ≡ f i → now ≡ written 0 (listed p f i) old → k ≡ count p i → k < length old
      → set now k v ≡ written 0 (listed p f (i + 1)) old
  unfolding listed
  written_store old now i k v h g e q l =
      let here : length (listed p f i) ≡ k = listed_length i ∙ sym q in
      let next : length (listed p f (i + 1)) ≡ suc k = omega (arith, listed_length (i + 1), count_yes p i h) in
      rw (g, e, next, here, add-one i, drop-cons old k 0 l, h)
      (set_at (listed p f i) (get_or old k 0) (drop (suc k) old) (f i) k here ∙ sym (append_snoc (listed p f i) (f i) (drop (suc k) old)))

pub count_skip : (p : ℕ → Bool) (i j : ℕ) → i ≤ j → ((k : ℕ) → i ≤ k → k < j → p k ≡ false) → count p j ≡ count p i
count_skip p i j l h = sym (listed_length p (λ k. k) j) ∙ ap length (listed_skip p (λ k. k) i j l h) ∙ listed_length p (λ k. k) i
