-- A set of marked units such that each of them comes before each marked unit outside it: where it has k units, it is the k first.
use Rattle.std.proofs.lemmas.Bool.{true_from_ne_false}
use mathlib.Core.Path.{◌≡◌, sym, ◌∙◌}
use mathlib.Core.Bool.{Bool, true, false}
use Prim.Native.Nat.{ℕ, ◌≤◌, ◌<◌}
use native.Mathlib.Omega.{arith}
use lib.Dec.{ltb}
use borrow.Author.Tests.{lt-ltb, le-ltb}
use Rattle.rules.proofs.Tests.{and_left, and_right, and_true, and_on, and_off, by_test, not_both}
use Rattle.rules.specs.Tests.{◌and◌}
use Rattle.rules.specs.Selection.{count, rank, firsts}
use Rattle.selection.proofs.Sums.{sum_le, sum_less}
use Rattle.selection.proofs.Orders.{Order}

pub record Segment (among : ℕ → Bool) (before : ℕ → ℕ → Bool) (n : ℕ) (chosen : ℕ → Bool) : Type 0 where
  pub marked : (i : ℕ) → i < n → chosen i ≡ true → among i ≡ true
  pub ahead : (i j : ℕ) → i < n → j < n → chosen i ≡ true → among j ≡ true → chosen j ≡ false → before i j ≡ true

module _ {among : ℕ → Bool} {before : ℕ → ℕ → Bool} {n : ℕ} {chosen : ℕ → Bool} (o : Order among before n) (s : Segment among before n chosen) where
  -- whoever comes before a chosen unit is chosen
  closed : (i j : ℕ) → i < n → j < n → chosen i ≡ true → among j ≡ true → before j i ≡ true → chosen j ≡ true
  closed i j li lj ci aj h =
      true_from_ne_false (chosen j)
      (λ e. not_both (before j j) (o.trans j i j lj li lj aj (s.marked i li ci) aj h (s.ahead i j li lj ci aj e)) (o.irr j lj aj))

  chosen_rank : (i : ℕ) → i < n → chosen i ≡ true → rank among before n i < count chosen n
  unfolding rank count
  chosen_rank i li ci =
      let ai = s.marked i li ci in
      let more =
      sum_less (λ j. among j and before j i) chosen (λ j. 1) i (and_on (among i) (before i i) ai ∙ o.irr i li ai) ci n
      (λ j lj h. closed i j li lj ci (and_left (among j) (before j i) h) (and_right (among j) (before j i) h))
      li in
      omega arith

  other_rank : (i : ℕ) → i < n → among i ≡ true → chosen i ≡ false → count chosen n ≤ rank among before n i
  unfolding rank count
  other_rank i li ai ci =
      sum_le chosen (λ j. among j and before j i) (λ j. 1) n
      (λ j lj cj. and_true (among j) (before j i) (s.marked j lj cj) (s.ahead j i lj li cj ai ci))

  -- THE SEGMENT: k chosen units of which each comes before all the others are the k first
  pub segment_firsts : (k : ℕ) → count chosen n ≡ k → (i : ℕ) → i < n → chosen i ≡ firsts among before n k i
  unfolding firsts
  segment_firsts k e i li =
      by_test (chosen i)
      (λ c. c ∙ sym (and_true (among i) (ltb (rank among before n i) k) (s.marked i li c) (lt-ltb _ k (omega (arith, chosen_rank i li c)))))
      (λ c. by_test (among i)
      (λ a. c ∙ sym (and_on (among i) (ltb (rank among before n i) k) a ∙ le-ltb _ k (omega (arith, other_rank i li a c))))
      (λ a. c ∙ sym (and_off (among i) (ltb (rank among before n i) k) a)))
