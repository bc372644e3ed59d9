-- Document 02, [9]: THE FURTHER SEARCH TAKES NOBODY, so that the enlarged group is the base group and the kept units, n less their count, and X less their
-- turnovers. Each kept unit, as each unit that remains, stayed below X with n places: so the kept have at most their share of X, and who remains stays
-- below what they leave.
use mathlib.Core.Path.{◌≡◌, refl, sym, ◌∙◌}
use mathlib.Core.Bool.{Bool, true, false, not, cond}
use mathlib.Core.List.{List, []}
use Prim.Native.Nat.{ℕ, zero, suc, ◌+◌, ◌-◌, ◌*◌, ◌≤◌, ◌<◌}
use native.Mathlib.Nat.{le_of_lt}
use native.Mathlib.Omega.{arith}
use lib.ListN.{length}
use lib.Dec.{ltb, leb}
use borrow.Author.Tests.{lt-ltb, le-ltb, le-leb, lt-leb, not-true}
use Rattle.rules.specs.Tests.{◌or◌, ◌and◌}
use Rattle.rules.specs.Lists.{elem, any_of}
use Rattle.rules.specs.Selection.{sum_of, count, rank, firsts, least_from, every}
use Rattle.rules.specs.TakeAll.{Group, turnover, larger, rest_without, take_all_size, take_all_group}
use Rattle.rules.specs.Kept.{Keeping, keeping, in_previous, near_border, candidate, kept, forced, largest_among, rest_among, reaches_among, fits_among, size_among, rest_found_among, group_among, further, enlarge, enlarged_group}
use Rattle.rules.proofs.Tests.{and_left, and_on, and_off, and_second, or_none, or_false, by_test, by_order}
use Rattle.selection.proofs.Sums.{sum_le, sum_same, sum_none, sum_list}
use Rattle.selection.proofs.Orders.{Order, firsts_zero, order_among}
use Rattle.selection.proofs.Places.{count_firsts}
use Rattle.selection.proofs.TakeAll.{larger_order, group_size, size_le, rest_hit, rest_cut, outside_below}
use Rattle.group.specs.Group.{Sound}
use Rattle.group_kept.specs.Reckoned.{Reckoned}
use Rattle.group_kept.proofs.Parts.{sum_parted, count_parted, sum_bound, less_left}

-- the base group has it all
pub base_reckoned : (ts : List ℕ) (z : ℕ) → z ≤ length ts → Reckoned ts z (take_all_group ts z)
unfolding take_all_group rest_without
base_reckoned ts z w = record {
  parts = omega (arith, group_size ts z w (take_all_size ts z) (size_le ts z), size_le ts z);
  rest_is = λ l. rest_hit ts z (take_all_size ts z) refl (omega arith);
  below = λ l i li h. outside_below ts z w (omega arith) i li h;
  cut = λ e. rest_cut ts z (omega (arith, size_le ts z));
}

-- and so it is sound: X is at most the total
pub reckoned_sound : {ts : List ℕ} {z : ℕ} {g : Group} → Reckoned ts z g → Sound ts z g
reckoned_sound {ts} {z} {g} w = record {
  parts = w.parts;
  below = w.below;
  rest_low = by_order 0 g.sample_size
      (λ some. omega (arith, w.rest_is some, sum_le (λ i. not (g.takes_all i)) every (turnover ts) (length ts) (λ i l h. refl), sum_list ts))
      (λ none. omega (arith, w.cut (omega arith)));
}

-- ---- a search that takes nobody
module _ (among : ℕ → Bool) (ts : List ℕ) where
  -- the marked units without their 0 largest are the marked units
  rest_none : rest_among among ts 0 ≡ sum_of among (turnover ts) (length ts)
  unfolding rest_among largest_among
  rest_none =
      sum_same (λ i. among i and not (firsts among (larger ts) (length ts) 0 i)) among (turnover ts) (length ts)
      (λ i l. rw (firsts_zero among (larger ts) (length ts) i) (by_test (among i) (λ b. and_on (among i) true b ∙ sym b) (λ b. and_off (among i) true b ∙ sym b)))

  -- where no marked unit reaches the marked turnover, 0 fits
  fits_none :
      (places : ℕ) → ((i : ℕ) → i < length ts → among i ≡ true → places * turnover ts i < sum_of among (turnover ts) (length ts))
      → fits_among among ts places 0 ≡ true
  unfolding fits_among count reaches_among
  fits_none places h =
      let rest = rest_among among ts 0 in
      let all : places - 0 ≡ places = omega arith in
      let none = sum_none (reaches_among among ts places 0 rest) (λ i. 1) (length ts)
      (λ i l.
      by_test (among i)
      (λ e. and_on (among i) (leb rest ((places - 0) * turnover ts i)) e ∙ lt-leb rest ((places - 0) * turnover ts i) (rw (rest_none, all) (h i l e)))
      (λ e. and_off (among i) (leb rest ((places - 0) * turnover ts i)) e)) in
      le-leb (count (reaches_among among ts places 0 rest) (length ts)) 0 (omega (arith, none))

  -- so the size is 0, as it is with no place
  pub size_none :
      (places : ℕ) → (0 < places → (i : ℕ) → i < length ts → among i ≡ true → places * turnover ts i < sum_of among (turnover ts) (length ts))
      → size_among among ts places ≡ 0
  unfolding size_among least_from
  size_none zero h = refl
  size_none (suc p) h = rw (fits_none (suc p) (h (omega arith)))

  -- it takes nobody, and leaves the places and the marked turnover
  module _ (places : ℕ) (e : size_among among ts places ≡ 0) where
    group_none : (i : ℕ) → (group_among among ts places).takes_all i ≡ false
    unfolding group_among largest_among
    group_none i = rw e (firsts_zero among (larger ts) (length ts) i)

    group_places : (group_among among ts places).sample_size ≡ places
    unfolding group_among
    group_places = rw e (omega arith)

    group_rest : (group_among among ts places).rest ≡ cond (ltb 0 places) (sum_of among (turnover ts) (length ts)) 0
    unfolding group_among rest_found_among
    group_rest = rw (e, rest_none)

group_same : (a b : Group) → ((i : ℕ) → a.takes_all i ≡ b.takes_all i) → a.sample_size ≡ b.sample_size → a.rest ≡ b.rest → a ≡ b
group_same a b h s r = λ j. record { takes_all = λ i. h i j; sample_size = s j; rest = r j }

-- no more than k are the k first
firsts_most : (among : ℕ → Bool) (before : ℕ → ℕ → Bool) (n : ℕ) → Order among before n → (k : ℕ) → count (firsts among before n k) n ≤ k
unfolding count firsts
firsts_most among before n o k =
    by_order (count among n) k
    (λ l. omega (arith, sum_le (firsts among before n k) among (λ i. 1) n (λ i m h. and_left (among i) (ltb (rank among before n i) k) h), l))
    (λ l. omega (arith, count_firsts o k l))

-- The group without a further search: base and kept units, n less their count, X less their turnovers; 0 where all places are kept.
unfoldable pub kept_group : List ℕ → List ℕ → Keeping → Group → Group
kept_group ns ts p g =
    let k = count (kept ns ts p g) (length ts) in
    record {
      takes_all = forced ns ts p g;
      sample_size = g.sample_size - k;
      rest = cond (ltb k g.sample_size) (g.rest - sum_of (kept ns ts p g) (turnover ts) (length ts)) 0;
    }

-- a kept unit stands outside the group
pub kept_outside : (ns ts : List ℕ) (p : Keeping) (g : Group) (i : ℕ) → kept ns ts p g i ≡ true → g.takes_all i ≡ false
unfolding kept firsts candidate
kept_outside ns ts p g i h =
    let c : candidate ns ts p g i ≡ true = and_left (candidate ns ts p g i) (ltb (rank (candidate ns ts p g) (larger ts) (length ts) i) g.sample_size) h in
    not-true (g.takes_all i) (and_left (not (g.takes_all i)) (in_previous ns p i) (and_left (not (g.takes_all i) and in_previous ns p i) (near_border ts p g i) c))

module _ (ns ts : List ℕ) (p : Keeping) (z : ℕ) (g : Group) (w : Reckoned ts z g) where
  abbrev pub kept_turnover : ℕ
  kept_turnover = sum_of (kept ns ts p g) (turnover ts) (length ts)

  abbrev pub many : ℕ
  many = count (kept ns ts p g) (length ts)

  -- what remains
  abbrev left : ℕ
  left = sum_of (λ i. not (forced ns ts p g i)) (turnover ts) (length ts)

  rest_parts : 0 < g.sample_size → g.rest ≡ kept_turnover + left
  unfolding forced
  rest_parts l = w.rest_is l ∙ sum_parted g.takes_all (kept ns ts p g) (turnover ts) (length ts) (λ i li h. kept_outside ns ts p g i h)

  -- X holds the kept turnovers
  pub kept_fits : 0 < g.sample_size → kept_turnover ≤ g.rest
  kept_fits l = omega (arith, rest_parts l)

  kept_most : 0 < g.sample_size → g.sample_size * kept_turnover ≤ many * g.rest
  kept_most l =
      sum_bound (kept ns ts p g) (turnover ts) g.sample_size g.rest (length ts) (λ i li h. le_of_lt (w.below l i li (kept_outside ns ts p g i h)))

  -- a remaining unit does not reach the remaining turnover
  remaining_below :
      many < g.sample_size → (i : ℕ) → i < length ts → forced ns ts p g i ≡ false → (g.sample_size - many) * turnover ts i < left
  unfolding forced
  remaining_below l i li h =
      let some : 0 < g.sample_size = omega arith in
      less_left g.sample_size many (turnover ts i) kept_turnover g.rest left l
      (w.below some i li (or_false (g.takes_all i) (kept ns ts p g i) h).0)
      (kept_most some)
      (rest_parts some)

  -- THE FURTHER SEARCH TAKES NOBODY
  pub further_none : size_among (λ i. not (forced ns ts p g i)) ts (g.sample_size - many) ≡ 0
  further_none =
      size_none (λ i. not (forced ns ts p g i)) ts (g.sample_size - many)
      (λ l i li h. remaining_below (omega arith) i li (not-true (forced ns ts p g i) h))

  -- THE ENLARGED GROUP is the base group and the kept units
  pub enlarge_is : enlarge ns ts p g ≡ kept_group ns ts p g
  unfolding enlarge further kept_group
  enlarge_is =
      let remain : ℕ → Bool = λ j. not (forced ns ts p g j) in
      group_same (enlarge ns ts p g) (kept_group ns ts p g)
      (λ i. or_none (forced ns ts p g i) ((further ns ts p g).takes_all i) (group_none remain ts (g.sample_size - many) further_none i))
      (group_places remain ts (g.sample_size - many) further_none)
      (group_rest remain ts (g.sample_size - many) further_none
      ∙ by_order many g.sample_size
      (λ l. rw (lt-ltb 0 (g.sample_size - many) (omega arith), lt-ltb many g.sample_size l) (omega (arith, rest_parts (omega arith))))
      (λ l. rw (le-ltb 0 (g.sample_size - many) (omega arith), le-ltb many g.sample_size l)))

  -- no more than n are kept
  pub kept_few : many ≤ g.sample_size
  unfolding kept
  kept_few =
      firsts_most (candidate ns ts p g) (larger ts) (length ts)
      (order_among (candidate ns ts p g) (larger ts) (length ts) (larger_order ts (length ts))) g.sample_size

  -- it is reckoned as the base group is
  pub enlarge_reckoned : Reckoned ts z (enlarge ns ts p g)
  unfolding kept_group forced
  enlarge_reckoned = rw enlarge_is (record {
    parts = omega (arith, w.parts, kept_few, count_parted g.takes_all (kept ns ts p g) (length ts) (λ i li h. kept_outside ns ts p g i h));
    rest_is = λ l. rw (lt-ltb many g.sample_size (omega arith)) (omega (arith, rest_parts (omega arith)));
    below = λ l i li h. rw (lt-ltb many g.sample_size (omega arith)) (omega (arith, remaining_below (omega arith) i li h, rest_parts (omega arith)));
    cut = λ e. rw (le-ltb many g.sample_size (omega arith));
  })

-- ---- WITH NO LISTS THE ENLARGED GROUP IS THE BASE GROUP
abbrev pub no_lists : ℕ → Keeping
no_lists threshold = keeping threshold [] []

none_kept : (ns ts : List ℕ) (threshold : ℕ) (g : Group) (i : ℕ) → kept ns ts (no_lists threshold) g i ≡ false
unfolding kept firsts candidate in_previous elem any_of ◌or◌
none_kept ns ts threshold g i =
    and_off (candidate ns ts (no_lists threshold) g i) _ (and_off (not (g.takes_all i) and false) _ (and_second (not (g.takes_all i)) false refl))

pub enlarge_base : (ns ts : List ℕ) (threshold z : ℕ) (g : Group) → Reckoned ts z g → enlarge ns ts (no_lists threshold) g ≡ g
unfolding kept_group forced count
enlarge_base ns ts threshold z g w =
    enlarge_is ns ts (no_lists threshold) z g w
    ∙ group_same (kept_group ns ts (no_lists threshold) g) g
    (λ i. or_none (g.takes_all i) (kept ns ts (no_lists threshold) g i) (none_kept ns ts threshold g i))
    (rw (zero_of (λ i. 1)) (omega arith))
    (rw (zero_of (λ i. 1), zero_of (turnover ts))
    (by_order 0 g.sample_size
    (λ l. rw (lt-ltb 0 g.sample_size l) (omega arith))
    (λ l. rw (le-ltb 0 g.sample_size l) (sym (w.cut (omega arith))))))
  where
    zero_of : (v : ℕ → ℕ) → sum_of (kept ns ts (no_lists threshold) g) v (length ts) ≡ 0
    zero_of v = sum_none (kept ns ts (no_lists threshold) g) v (length ts) (λ i l. none_kept ns ts threshold g i)

-- ---- of a frame that refusal 5 leaves
module _ (ns ts : List ℕ) (z : ℕ) (within : z ≤ length ts) where
  pub enlarged_is : (p : Keeping) → enlarged_group ns ts z p ≡ kept_group ns ts p (take_all_group ts z)
  unfolding enlarged_group
  enlarged_is p = enlarge_is ns ts p z (take_all_group ts z) (base_reckoned ts z within)

  pub enlarged_sound : (p : Keeping) → Sound ts z (enlarged_group ns ts z p)
  unfolding enlarged_group
  enlarged_sound p = reckoned_sound (enlarge_reckoned ns ts p z (take_all_group ts z) (base_reckoned ts z within))

  pub enlarged_base : (threshold : ℕ) → enlarged_group ns ts z (no_lists threshold) ≡ take_all_group ts z
  unfolding enlarged_group
  enlarged_base threshold = enlarge_base ns ts threshold z (take_all_group ts z) (base_reckoned ts z within)
