-- A strict total order of the marked units, their ranks in it, and the threshold. Everything here is for an arbitrary order:
-- the largest turnovers and the smallest keys are two instances, and another key is one more.
use Rattle.std.proofs.lemmas.Bool.{true_from_ne_false, false_from_ne_true}
use mathlib.Core.Path.{◌≡◌, refl, sym, ap, ◌∙◌}
use mathlib.Core.Logic.{⊎_elim, ◌⊎◌, inl, inr}
use mathlib.Core.Bool.{Bool, true, false, not, cond}
use Prim.Native.Nat.{ℕ, suc, ◌+◌, ◌≤◌, ◌<◌}
use native.Mathlib.Nat.{le_refl, le_of_lt}
use native.Mathlib.Omega.{arith}
use lib.Dec.{ltb}
use borrow.Author.Tests.{lt-ltb, le-ltb, ltb-true, ltb-false, not-true}
use Rattle.rules.specs.Tests.{◌and◌}
use Rattle.rules.specs.Selection.{sum_of, count, rank, firsts, by_key, every}
use Rattle.rules.proofs.Tests.{and_left, and_right, and_true, and_on, or_on, or_off, or_second, or_none, or_false, by_test, not_both}
use Rattle.selection.proofs.Sums.{sum_le, sum_less, sum_same}

-- A strict total order on the units below n that have the mark.
pub record Order (among : ℕ → Bool) (before : ℕ → ℕ → Bool) (n : ℕ) : Type 0 where
  pub irr : (i : ℕ) → i < n → among i ≡ true → before i i ≡ false
  pub trans :
      (i j k : ℕ) → i < n → j < n → k < n → among i ≡ true → among j ≡ true → among k ≡ true
      → before i j ≡ true → before j k ≡ true → before i k ≡ true
  pub total : (i j : ℕ) → i < n → j < n → among i ≡ true → among j ≡ true → before i j ≡ false → before j i ≡ false → i ≡ j

-- an order of all is one of those with a mark
pub order_among : (among : ℕ → Bool) (before : ℕ → ℕ → Bool) (n : ℕ) → Order every before n → Order among before n
order_among among before n o = record {
  irr = λ i l h. o.irr i l refl;
  trans = λ i j k li lj lk ai aj ak. o.trans i j k li lj lk refl refl refl;
  total = λ i j li lj ai aj. o.total i j li lj refl refl;
}

module _ {among : ℕ → Bool} {before : ℕ → ℕ → Bool} {n : ℕ} (o : Order among before n) where
  module _ (i j : ℕ) (li : i < n) (lj : j < n) (ai : among i ≡ true) (aj : among j ≡ true) (h : before i j ≡ true) where
    ahead : (k : ℕ) → k < n → (among k and before k i) ≡ true → (among k and before k j) ≡ true
    ahead k lk g =
        let ak = and_left (among k) (before k i) g in
        and_true (among k) (before k j) ak (o.trans k i j lk li lj ak ai aj (and_right (among k) (before k i) g) h)

    -- who comes before has no higher rank among the units below m, and a lower one if it is itself below m
    pub rank_mono : (m : ℕ) → m ≤ n → rank among before m i ≤ rank among before m j
    unfolding rank count
    rank_mono m lm = sum_le (λ k. among k and before k i) (λ k. among k and before k j) (λ k. 1) m (λ k lk g. ahead k (omega arith) g)

    pub rank_less : (m : ℕ) → m ≤ n → i < m → rank among before m i < rank among before m j
    unfolding rank count
    rank_less m lm lim =
        let more =
        sum_less (λ k. among k and before k i) (λ k. among k and before k j) (λ k. 1) i
        (and_on (among i) (before i i) ai ∙ o.irr i li ai) (and_true (among i) (before i j) ai h)
        m (λ k lk g. ahead k (omega arith) g) lim in
        omega arith

  module _ (i j : ℕ) (li : i < n) (lj : j < n) (ai : among i ≡ true) (aj : among j ≡ true) where
    -- not before: not a lower rank
    pub rank_le : before i j ≡ false → rank among before n j ≤ rank among before n i
    rank_le h =
        by_test (before j i)
        (λ e. le_of_lt (rank_less j i lj li aj ai e n (le_refl n) lj))
        (λ e. rw (o.total i j li lj ai aj h e) (le_refl _))

    -- a rank names its unit
    pub rank_one : rank among before n i ≡ rank among before n j → i ≡ j
    rank_one h =
        o.total i j li lj ai aj
        (false_from_ne_true (before i j) (λ e. omega (arith, rank_less i j li lj ai aj e n (le_refl n) li)))
        (false_from_ne_true (before j i) (λ e. omega (arith, rank_less j i lj li aj ai e n (le_refl n) lj)))

  -- THE THRESHOLD: where w is the last of the first k + 1, those are the marked units that w does not come before
  pub threshold :
      (k w : ℕ) → w < n → among w ≡ true → rank among before n w ≡ k
      → (i : ℕ) → i < n → firsts among before n (suc k) i ≡ (among i and not (before w i))
  unfolding firsts ◌and◌
  threshold k w lw aw r i li =
      by_test (among i)
      (λ a. by_test (before w i)
      (λ e. rw (a, e) (le-ltb (rank among before n i) (suc k) (omega (arith, rank_less w i lw li aw a e n (le_refl n) lw))))
      (λ e. rw (a, e) (lt-ltb (rank among before n i) (suc k) (omega (arith, rank_le w i lw li aw a e)))))
      (λ a. rw a)

module _ (among : ℕ → Bool) (before : ℕ → ℕ → Bool) where
  -- one unit more is one more where it is marked and comes before
  pub rank_next : (i x : ℕ) → rank among before (suc i) x ≡ rank among before i x + cond (among i and before i x) 1 0
  unfolding rank count sum_of
  rank_next i x = refl

  pub rank_all : (i x : ℕ) → rank among before i x ≤ count among i
  unfolding rank count
  rank_all i x = sum_le (λ k. among k and before k x) among (λ k. 1) i (λ k l h. and_left (among k) (before k x) h)

  -- the first 0 are none
  pub firsts_zero : (n i : ℕ) → firsts among before n 0 i ≡ false
  unfolding firsts
  firsts_zero n i =
      false_from_ne_true (among i and ltb (rank among before n i) 0)
      (λ e. omega (arith, ltb-true (rank among before n i) 0 (and_right (among i) (ltb (rank among before n i) 0) e)))

-- the same units in the same order
pub firsts_same :
    {p q : ℕ → Bool} {before before' : ℕ → ℕ → Bool} {n : ℕ} (k : ℕ) → ((i : ℕ) → i < n → p i ≡ q i)
    → ((j i : ℕ) → j < n → i < n → p j ≡ true → p i ≡ true → before j i ≡ before' j i)
    → (i : ℕ) → i < n → firsts p before n k i ≡ firsts q before' n k i
unfolding firsts rank count ◌and◌
firsts_same {p} {q} {before} {before'} {n} k marks orders i l =
    by_test (p i)
    (λ a. rw (sym (marks i l), a)
    (ap (λ (m : ℕ). ltb m k) (sum_same (λ j. p j and before j i) (λ j. q j and before' j i) (λ j. 1) n (λ j m. same j m a))))
    (λ a. rw (sym (marks i l), a))
  where
    same : (j : ℕ) → j < n → p i ≡ true → (p j and before j i) ≡ (q j and before' j i)
    same j m a = rw (sym (marks j m)) (by_test (p j) (λ b. rw b (orders j i m l b a)) (λ b. rw b))

-- What `by_key` asks of a key: a strict weak order.
pub record KeyOrder (among : ℕ → Bool) (below : ℕ → ℕ → Bool) (n : ℕ) : Type 0 where
  pub asym : (i j : ℕ) → i < n → j < n → among i ≡ true → among j ≡ true → below i j ≡ true → below j i ≡ false
  pub split :
      (i j k : ℕ) → i < n → j < n → k < n → among i ≡ true → among j ≡ true → among k ≡ true
      → below i k ≡ true → below i j ≡ false → below j k ≡ true

-- ---- what it says that unit j comes before unit i by a key
module _ (below : ℕ → ℕ → Bool) (j i : ℕ) where
  pub by_left : below j i ≡ true → by_key below j i ≡ true
  unfolding by_key
  by_left h = or_on (below j i) (not (below i j) and ltb j i) h

  pub by_right : below i j ≡ false → j < i → by_key below j i ≡ true
  unfolding by_key
  by_right h l = or_second (below j i) (not (below i j) and ltb j i) (and_true (not (below i j)) (ltb j i) (ap not h) (lt-ltb j i l))

  by_cases : by_key below j i ≡ true → (below j i ≡ true) ⊎ ((below i j ≡ false) × (j < i))
  unfolding by_key
  by_cases h =
      by_test (below j i) (λ a. inl a)
      (λ a.
      let both = sym (or_off (below j i) (not (below i j) and ltb j i) a) ∙ h in
      inr (not-true (below i j) (and_left (not (below i j)) (ltb j i) both), ltb-true j i (and_right (not (below i j)) (ltb j i) both)))

  pub by_not : by_key below j i ≡ false → (below j i ≡ false) × (below i j ≡ false → i ≤ j)
  unfolding by_key
  by_not h =
      let none = or_false (below j i) (not (below i j) and ltb j i) h in
      (none.0, λ k. ltb-false j i (sym (and_on (not (below i j)) (ltb j i) (ap not k)) ∙ none.1))

  -- by another key that tells the two apart alike
  pub by_same : (below' : ℕ → ℕ → Bool) → below j i ≡ below' j i → below i j ≡ below' i j → by_key below j i ≡ by_key below' j i
  unfolding by_key
  by_same below' h g = rw (h, g)

  -- a unit of a higher number comes before only by its key: equal keys are in the lower number's favour
  pub by_higher : i ≤ j → by_key below j i ≡ below j i
  unfolding by_key
  by_higher l =
      or_none (below j i) (not (below i j) and ltb j i)
      (false_from_ne_true (not (below i j) and ltb j i) (λ e. not_both (ltb j i) (and_right (not (below i j)) (ltb j i) e) (le-ltb j i l)))

-- an order by a key is a strict total order
module _ {among : ℕ → Bool} {below : ℕ → ℕ → Bool} {n : ℕ} (o : KeyOrder among below n) where
  key_irr : (i : ℕ) → i < n → among i ≡ true → below i i ≡ false
  key_irr i l a = false_from_ne_true (below i i) (λ e. not_both (below i i) e (o.asym i i l l a a e))

  module _ (i j k : ℕ) (li : i < n) (lj : j < n) (lk : k < n) (ai : among i ≡ true) (aj : among j ≡ true) (ak : among k ≡ true) where
    -- below one that is not above a third: below the third
    first : below i j ≡ true → below k j ≡ false → below i k ≡ true
    first x y = true_from_ne_false (below i k) (λ e. not_both (below k j) (o.split i k j li lk lj ai ak aj x e) y)

    second : below j i ≡ false → below k j ≡ false → below k i ≡ false
    second x y = false_from_ne_true (below k i) (λ e. not_both (below j i) (o.split k j i lk lj li ak aj ai e y) x)

    key_trans : by_key below i j ≡ true → by_key below j k ≡ true → by_key below i k ≡ true
    key_trans h g =
        ⊎_elim
        (λ x. by_left below i k (first x (⊎_elim (λ y. o.asym j k lj lk aj ak y) (λ y. y.0) (by_cases below j k g))))
        (λ x. ⊎_elim
        (λ y. by_left below i k (o.split j i k lj li lk aj ai ak y x.0))
        (λ y. by_right below i k (second x.0 y.0) (omega arith))
        (by_cases below j k g))
        (by_cases below i j h)

  pub key_order_lem : Order among (by_key below) n
  key_order_lem = record {
    irr = λ i l a. false_from_ne_true (by_key below i i)
        (λ e. ⊎_elim (λ x. not_both (below i i) x (key_irr i l a)) (λ x. omega arith) (by_cases below i i e));
    trans = key_trans;
    total = λ i j li lj ai aj h g.
        let a : j ≤ i = (by_not below i j h).1 (by_not below j i g).0 in
        let b : i ≤ j = (by_not below j i g).1 (by_not below i j h).0 in
        omega arith;
  }
