-- Document 01, "Frame and weights": the take-all group. The largest unit outside the q largest decides whether q fits, so one
-- scan of the largest units finds q. From that: exactly q units reach X, and outside the group n × turnover stays below X.
use Rattle.std.proofs.lemmas.Bool.{false_from_ne_true}
use mathlib.Core.Path.{◌≡◌, refl, sym, ap, ◌∙◌}
use mathlib.Core.Bool.{true, false}
use mathlib.Core.List.{List}
use Prim.Native.Nat.{ℕ, zero, suc, ◌+◌, ◌-◌, ◌*◌, ◌≤◌, ◌<◌, zero-le}
use native.Mathlib.Nat.{le_trans, le_refl, mul-le-mul_left, lt_of_le_of_lt, le_antisymm}
use native.Mathlib.Omega.{arith}
use native.Mathlib.Numerals.{add-one}
use lib.ListN.{length, get_or}
use lib.Dec.{ltb, leb}
use borrow.Author.Tests.{lt-ltb, le-ltb, ltb-true, ltb-false, leb-true, le-leb, lt-leb}
use Rattle.rules.specs.Lists.{sum}
use Rattle.rules.specs.Selection.{sum_of, count, rank, firsts, least_from, every}
use Rattle.rules.specs.TakeAll.{turnover, more_turnover, larger, largest, rest_without, reaches_rest, fits, take_all_size, rest_turnover}
use Rattle.rules.proofs.Tests.{and_on, by_test, by_order}
use Rattle.selection.specs.Ranked.{Ranked}
use Rattle.selection.proofs.Sums.{sum_le, sum_both, sum_list, sum_none, count_every}
use Rattle.selection.proofs.Orders.{Order, KeyOrder, key_order_lem, by_not, rank_less, firsts_zero}
use Rattle.selection.proofs.Places.{ranked_short, firsts_step, count_held, all_ranked}
use Rattle.selection.proofs.Least.{least_le, least_holds, least_first}

more_order : (ts : List ℕ) (n : ℕ) → KeyOrder every (more_turnover ts) n
unfolding more_turnover
more_order ts n = record {
  asym = λ i j li lj ai aj h. le-ltb (get_or ts i 0) (get_or ts j 0) (omega (arith, ltb-true (get_or ts j 0) (get_or ts i 0) h));
  split = λ i j k li lj lk ai aj ak h g.
      lt-ltb (get_or ts k 0) (get_or ts j 0)
      (omega (arith, ltb-true (get_or ts k 0) (get_or ts i 0) h, ltb-false (get_or ts j 0) (get_or ts i 0) g));
}

-- "the largest units, equal turnovers by lower unit number" is a strict total order
pub larger_order : (ts : List ℕ) (n : ℕ) → Order every (larger ts) n
unfolding larger
larger_order ts n = key_order_lem (more_order ts n)

-- who does not come first has no more turnover
pub first_more : (ts : List ℕ) (i j : ℕ) → larger ts j i ≡ false → get_or ts j 0 ≤ get_or ts i 0
unfolding larger more_turnover
first_more ts i j h = ltb-false (get_or ts i 0) (get_or ts j 0) (by_not (more_turnover ts) j i h).0

-- how many units are larger than unit i
abbrev size_rank : List ℕ → ℕ → ℕ
size_rank ts i = rank every (larger ts) (length ts) i

-- a unit is one of the q largest where that is below q
largest_is : (ts : List ℕ) (q i : ℕ) → largest ts q i ≡ ltb (size_rank ts i) q
unfolding largest firsts
largest_is ts q i = and_on true (ltb (size_rank ts i) q) refl

largest_low : (ts : List ℕ) (q i : ℕ) → largest ts q i ≡ true → size_rank ts i < q
largest_low ts q i h = ltb-true (size_rank ts i) q (sym (largest_is ts q i) ∙ h)

largest_high : (ts : List ℕ) (q i : ℕ) → largest ts q i ≡ false → q ≤ size_rank ts i
largest_high ts q i h = ltb-false (size_rank ts i) q (sym (largest_is ts q i) ∙ h)

-- the group of 0 units is empty
pub largest_none : (ts : List ℕ) (i : ℕ) → largest ts 0 i ≡ false
unfolding largest
largest_none ts i = firsts_zero every (larger ts) (length ts) i

-- ---- where the array of the z largest is known, X and the test at q are those of its places
module _ (ts : List ℕ) {top : List ℕ} {z : ℕ} (r : Ranked every (larger ts) (length ts) top z) where
  o : Order every (larger ts) (length ts)
  o = larger_order ts (length ts)

  split : (q : ℕ) → sum_of (largest ts q) (turnover ts) (length ts) + rest_without ts q ≡ sum_of every (turnover ts) (length ts)
  unfolding rest_without
  split q = sum_both (largest ts q) (turnover ts) (length ts)

  -- X at q = 0 is all the turnover, and falls by the next largest
  pub rest_none : rest_without ts 0 ≡ sum ts
  rest_none = omega (arith, split 0, sum_none (largest ts 0) (turnover ts) (length ts) (λ i l. largest_none ts i), sum_list ts)

  pub rest_step : (q : ℕ) → q < z → rest_without ts q ≡ rest_without ts (q + 1) + turnover ts (get_or top q 0)
  unfolding largest
  rest_step q l = rw (add-one q) (omega (arith, split q, split (suc q), firsts_step o r (turnover ts) q l))

  -- the q largest are q
  pub count_largest : (q : ℕ) → q ≤ z → count (largest ts q) (length ts) ≡ q
  unfolding largest
  count_largest q l = count_held o r q l

  -- a unit outside the q largest has no more turnover than the largest of those
  others_le : (q i : ℕ) → q < z → i < length ts → q ≤ size_rank ts i → turnover ts i ≤ turnover ts (get_or top q 0)
  others_le q i l li h =
      first_more ts (get_or top q 0) i
      (false_from_ne_true (larger ts i (get_or top q 0))
      (λ g. omega (arith, rank_less o i (get_or top q 0) li (r.low q l) refl refl g (length ts) (le_refl _) li, r.at q l)))

  -- a unit among the q + 1 largest has no less
  largest_ge : (q i : ℕ) → q < z → i < length ts → size_rank ts i ≤ q → turnover ts (get_or top q 0) ≤ turnover ts i
  largest_ge q i l li h =
      first_more ts i (get_or top q 0)
      (false_from_ne_true (larger ts (get_or top q 0) i)
      (λ g. omega (arith, rank_less o (get_or top q 0) i (r.low q l) li refl refl g (length ts) (le_refl _) (r.low q l), r.at q l)))

  -- where the largest of the others fails the test, only the q largest can pass it
  fewer : (q x : ℕ) → q < z → (z - q) * turnover ts (get_or top q 0) < x → count (reaches_rest ts z q x) (length ts) ≤ q
  unfolding count reaches_rest
  fewer q x l h = omega (arith, count_largest q (omega arith), sum_le (reaches_rest ts z q x) (largest ts q) (λ i. 1) (length ts) one)
    where
      one : (i : ℕ) → i < length ts → leb x ((z - q) * turnover ts i) ≡ true → largest ts q i ≡ true
      one i li e =
          let b = leb-true x ((z - q) * turnover ts i) e in
          largest_is ts q i
          ∙ lt-ltb (size_rank ts i) q
          (by_order (size_rank ts i) q (λ c. c) (λ c. absurd (omega (arith, mul-le-mul_left (z - q) (others_le q i l li c)))))

  -- where the unit at place p passes it, so do all the p + 1 largest
  enough : (q x p : ℕ) → p < z → x ≤ (z - q) * turnover ts (get_or top p 0) → p < count (reaches_rest ts z q x) (length ts)
  unfolding count reaches_rest
  enough q x p l h = omega (arith, count_largest (suc p) l, sum_le (largest ts (suc p)) (reaches_rest ts z q x) (λ i. 1) (length ts) one)
    where
      one : (i : ℕ) → i < length ts → largest ts (suc p) i ≡ true → leb x ((z - q) * turnover ts i) ≡ true
      one i li e =
          le-leb x ((z - q) * turnover ts i)
          (le_trans h (mul-le-mul_left (z - q) (largest_ge p i l li (omega (arith, largest_low ts (suc p) i e)))))

  -- the largest unit outside the q largest decides whether q fits
  pub fits_is : (q : ℕ) → q < z → fits ts z q ≡ ltb ((z - q) * turnover ts (get_or top q 0)) (rest_without ts q)
  unfolding fits
  fits_is q l =
      let x = rest_without ts q in
      let v = (z - q) * turnover ts (get_or top q 0) in
      let many = count (reaches_rest ts z q x) (length ts) in
      by_order v x
      (λ h. le-leb many q (fewer q x l h) ∙ sym (lt-ltb v x h))
      (λ h. lt-leb many q (enough q x q l h) ∙ sym (le-ltb v x h))

-- ---- q, n and X
pub size_start : (ts : List ℕ) (z : ℕ) → take_all_size ts z ≡ least_from (fits ts z) (z - 0) 0
unfolding take_all_size
size_start ts z = let e : z - 0 ≡ z = omega arith in rw e

pub size_le : (ts : List ℕ) (z : ℕ) → take_all_size ts z ≤ z
unfolding take_all_size
size_le ts z = omega (arith, least_le (fits ts z) z 0)

size_fits : (ts : List ℕ) (z : ℕ) → take_all_size ts z < z → fits ts z (take_all_size ts z) ≡ true
unfolding take_all_size
size_fits ts z l = least_holds (fits ts z) z 0 (omega arith)

smaller_not : (ts : List ℕ) (z p : ℕ) → p < take_all_size ts z → fits ts z p ≡ false
unfolding take_all_size
smaller_not ts z p h = least_first (fits ts z) z 0 p (omega arith) h

pub rest_hit : (ts : List ℕ) (z q : ℕ) → take_all_size ts z ≡ q → q < z → rest_turnover ts z ≡ rest_without ts q
unfolding rest_turnover
rest_hit ts z q e l = rw (e, lt-ltb q z l)

pub rest_cut : (ts : List ℕ) (z : ℕ) → take_all_size ts z ≡ z → rest_turnover ts z ≡ 0
unfolding rest_turnover
rest_cut ts z e = rw (e, le-ltb z z (le_refl z))

pub rest_le : (ts : List ℕ) (z : ℕ) → rest_turnover ts z ≤ sum ts
unfolding rest_turnover rest_without
rest_le ts z =
    by_test (ltb (take_all_size ts z) z)
    (λ e. rw e (omega (arith, sum_both (largest ts (take_all_size ts z)) (turnover ts) (length ts), sum_list ts)))
    (λ e. rw e (omega arith))

-- ---- the definitions are the intended ones, for a frame that passes refusals 3 and 5
module _ (ts : List ℕ) (z : ℕ) (within : z ≤ length ts) where
  top : List ℕ
  top = (all_ranked (larger_order ts (length ts))).0

  ranked : Ranked every (larger ts) (length ts) top z
  unfolding top
  ranked =
      ranked_short every (larger ts) (length ts) (count every (length ts)) z top (omega (arith, count_every (length ts)))
      (all_ranked (larger_order ts (length ts))).1

  -- the group has q units, whatever q of at most z
  pub group_size : (q : ℕ) → q ≤ z → count (largest ts q) (length ts) ≡ q
  group_size q l = count_largest ts ranked q l

  -- at q itself the largest unit outside fails the test; one unit earlier it passed
  fails : take_all_size ts z < z → (z - take_all_size ts z) * turnover ts (get_or top (take_all_size ts z) 0) < rest_without ts (take_all_size ts z)
  fails l = ltb-true _ _ (sym (fits_is ts ranked (take_all_size ts z) l) ∙ size_fits ts z l)

  passes : (p : ℕ) → take_all_size ts z ≡ suc p → take_all_size ts z < z → rest_without ts p ≤ (z - p) * turnover ts (get_or top p 0)
  passes p e l = ltb-false _ _ (sym (fits_is ts ranked p (omega arith)) ∙ smaller_not ts z p (omega arith))

  -- so the last of the q largest reaches X
  reach : (p : ℕ) → take_all_size ts z ≡ suc p → take_all_size ts z < z → rest_without ts (suc p) ≤ (z - suc p) * turnover ts (get_or top p 0)
  reach p e l =
      let v = turnover ts (get_or top p 0) in
      let a : rest_without ts p ≡ rest_without ts (suc p) + v = rw add-one at (rest_step ts ranked p (omega arith)) in
      let b : z - p ≡ suc (z - suc p) = omega arith in
      let c : (z - p) * v ≡ suc (z - suc p) * v = ap (λ (n : ℕ). n * v) b in
      omega (arith, passes p e l)

  -- EXACTLY q: the smallest q leaves exactly q units that satisfy the test
  pub exactly_q : take_all_size ts z < z → count (reaches_rest ts z (take_all_size ts z) (rest_without ts (take_all_size ts z))) (length ts) ≡ take_all_size ts z
  exactly_q l = le_antisymm (fewer ts ranked (take_all_size ts z) (rest_without ts (take_all_size ts z)) l (fails l)) (at_least (take_all_size ts z) refl)
    where
      at_least : (q : ℕ) → take_all_size ts z ≡ q → q ≤ count (reaches_rest ts z q (rest_without ts q)) (length ts)
      at_least zero e = zero-le
      at_least (suc p) e = enough ts ranked (suc p) (rest_without ts (suc p)) p (omega arith) (reach p e l)

  -- OUTSIDE TAKE-ALL n × turnover < X, so that every key is defined; under cut-off nothing is sampled and X counts as 0
  pub outside_below :
      take_all_size ts z < z → (i : ℕ) → i < length ts → largest ts (take_all_size ts z) i ≡ false
      → (z - take_all_size ts z) * turnover ts i < rest_turnover ts z
  outside_below l i li h =
      let s = others_le ts ranked (take_all_size ts z) i l li (largest_high ts (take_all_size ts z) i h) in
      rw (rest_hit ts z (take_all_size ts z) refl l) (lt_of_le_of_lt (mul-le-mul_left (z - take_all_size ts z) s) (fails l))
