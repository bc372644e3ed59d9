-- The k first by a key, ties by number, are the k smallest: for an arbitrary key. The Pareto key and the sequential Poisson key are two instances.
use Rattle.std.proofs.lemmas.Bool.{false_from_ne_true}
use mathlib.Core.Path.{◌≡◌, sym, ap, ◌∙◌}
use mathlib.Core.Bool.{Bool, true, false}
use Prim.Native.Nat.{ℕ, ◌≤◌, ◌<◌}
use native.Mathlib.Nat.{le_refl}
use native.Mathlib.Omega.{arith}
use lib.Dec.{ltb}
use borrow.Author.Tests.{ltb-true, ltb-false}
use Rattle.rules.specs.Selection.{count, rank, firsts, by_key}
use Rattle.rules.proofs.Tests.{and_left, and_right, and_on, not_both}
use Rattle.selection.specs.Smallest.{Smallest}
use Rattle.selection.proofs.Orders.{Order, KeyOrder, key_order_lem, rank_less, by_not}
use Rattle.selection.proofs.Places.{count_firsts}

module _ {among : ℕ → Bool} {below : ℕ → ℕ → Bool} {n : ℕ} (o : KeyOrder among below n) (k : ℕ) where
  abbrev before : ℕ → ℕ → Bool
  before = by_key below

  abbrev taken : ℕ → Bool
  taken = firsts among before n k

  order : Order among before n
  order = key_order_lem o

  part : (i : ℕ) → taken i ≡ true → among i ≡ true
  unfolding firsts
  part i h = and_left (among i) (ltb (rank among before n i) k) h

  -- one that is left does not come before one that is taken
  behind : (i j : ℕ) → i < n → j < n → taken i ≡ true → among j ≡ true → taken j ≡ false → before j i ≡ false
  unfolding firsts
  behind i j li lj ti aj tj =
      let low : rank among before n i < k = ltb-true _ _ (and_right (among i) (ltb (rank among before n i) k) ti) in
      let high : k ≤ rank among before n j = ltb-false _ _ (sym (and_on (among j) (ltb (rank among before n j) k) aj) ∙ tj) in
      false_from_ne_true (before j i) (λ e. omega (arith, rank_less order j i lj li aj (part i ti) e n (le_refl n) lj))

  -- THE k SMALLEST
  pub smallest : k ≤ count among n → Smallest among below n k taken
  smallest few = record {
    exactly = count_firsts order k few;
    takes_part = λ i l. part i;
    no_smaller = λ i j li lj ti aj tj. (by_not below j i (behind i j li lj ti aj tj)).0;
    by_number = λ i j li lj ti aj tj equal.
        let low : i ≤ j = (by_not below j i (behind i j li lj ti aj tj)).1 equal in
        let other : i ≡ j → ⊥ = λ e. not_both (taken i) ti (ap taken e ∙ tj) in
        omega (arith, low, other);
  }
