-- THE COUNTS ADD TO T, and NO SECTOR GETS LESS THAN ITS MINIMUM, for every input that refusal 31 leaves.
use mathlib.Core.Path.{◌≡◌, ap, ◌∙◌}
use mathlib.Core.Bool.{Bool, true, cond}
use Prim.Native.Nat.{ℕ, ◌+◌, ◌-◌, ◌*◌, ◌/◌, ◌%◌, ◌≤◌, ◌<◌}
use native.Mathlib.Nat.{le_refl, mul_comm, le_of_mul-le-mul_right, div-add-mod', mod-lt, le-div_iff_mul-le}
use native.Mathlib.Omega.{arith}
use lib.ListN.{get_or, replicate, get_or-append}
use lib.Dec.{ltb}
use borrow.Author.Tests.{ltb-false}
use Rattle.rules.specs.Limits.{most_sectors}
use Rattle.rules.specs.Lists.{sum}
use Rattle.rules.specs.Selection.{sum_of, count, rank, firsts, listed, every}
use Rattle.rules.specs.TakeAll.{larger}
use Rattle.rules.specs.Allocation.{Sharing, sectors, strength, minimum, remaining, strengths_left, quota_below, stayed, whole_part, remainder, in_places, to_give, one_more, count_for, sample_refusal, sample_counts}
use Rattle.rules.proofs.Tests.{and_left, by_test}
use Rattle.rules.proofs.Refusals.{stays_goes}
use Rattle.selection.proofs.Orders.{order_among}
use Rattle.selection.proofs.Places.{count_firsts}
use Rattle.selection.proofs.TakeAll.{larger_order}
use Rattle.selection.proofs.Terms.{sum_times, sum_plus, sum_terms, sum_equal, sum_either, sum_ones, sum_append, sum_listed, sum_zeros, length_terms, term_at}
use Rattle.sector_quota.specs.Accepted.{Accepted}
use Rattle.sector_quota.proofs.Accepted.{accepted_by}
use Rattle.sector_quota.proofs.Passes.{Settled, given_fits, strengths_some, stayed_settled}

module _ (a : Sharing) (ok : Accepted a) (still : ℕ → Bool) (done : Settled a still) where
  pub total_some : 0 < strengths_left a still
  total_some = omega (arith, done.some, strengths_some a ok still)

  pub whole_is : (i : ℕ) → still i ≡ true → whole_part a still i ≡ remaining a still * strength a i / strengths_left a still
  unfolding whole_part
  whole_is i h = rw h

  pub remainder_is : (i : ℕ) → still i ≡ true → remainder a still i ≡ remaining a still * strength a i % strengths_left a still
  unfolding remainder
  remainder_is i h = rw h

  -- T' × strengths is the whole parts × strengths and the remainders, each of which is below the strengths
  each : (i : ℕ) → still i ≡ true → whole_part a still i * strengths_left a still + remainder a still i ≡ strength a i * remaining a still
  each i h =
      rw (whole_is i h, remainder_is i h)
      (div-add-mod' (remaining a still * strength a i) (strengths_left a still) ∙ mul_comm (remaining a still) (strength a i))

  quotas : sum_of still (whole_part a still) (sectors a) * strengths_left a still + sum_of still (remainder a still) (sectors a) ≡ remaining a still * strengths_left a still
  unfolding strengths_left
  quotas =
      let wholes : ℕ → ℕ = λ i. whole_part a still i * strengths_left a still in
      omega (
        arith,
        sum_equal still (λ i. wholes i + remainder a still i) (λ i. strength a i * remaining a still) (sectors a) (λ i l. each i),
        sum_plus still wholes (remainder a still) (sectors a),
        sum_times still (whole_part a still) (strengths_left a still) (sectors a),
        sum_times still (strength a) (remaining a still) (sectors a),
        mul_comm (strengths_left a still) (remaining a still),
      )

  remainders_low : sum_of still (remainder a still) (sectors a) ≤ count still (sectors a) * strengths_left a still
  unfolding count
  remainders_low =
      omega (
        arith,
        sum_terms still (remainder a still) (λ i. 1 * strengths_left a still) (sectors a)
            (λ i l h. rw (remainder_is i h) (omega (arith, mod-lt (remaining a still * strength a i) total_some))),
        sum_times still (λ i. 1) (strengths_left a still) (sectors a),
      )

  -- the whole parts fit into T', and leave no more than one for each
  pub whole_fits : sum_of still (whole_part a still) (sectors a) ≤ remaining a still
  whole_fits = le_of_mul-le-mul_right {k = strengths_left a still} (omega (arith, quotas)) total_some

  pub few_more : to_give a still ≤ count still (sectors a)
  unfolding to_give
  few_more =
      let most : remaining a still ≤ sum_of still (whole_part a still) (sectors a) + count still (sectors a) =
      le_of_mul-le-mul_right {k = strengths_left a still} (omega (arith, quotas, remainders_low)) total_some in
      omega arith

  -- as many get one more as are to be given
  more_are : count (one_more a still) (sectors a) ≡ to_give a still
  unfolding one_more
  more_are =
      let before = larger (in_places (sectors a) (remainder a still)) in
      count_firsts (order_among still before (sectors a) (larger_order (in_places (sectors a) (remainder a still)) (sectors a))) (to_give a still) few_more

  more_still : (i : ℕ) → one_more a still i ≡ true → still i ≡ true
  unfolding one_more firsts
  more_still i h = and_left (still i) (ltb (rank still (larger (in_places (sectors a) (remainder a still))) (sectors a) i) (to_give a still)) h

  counts_add : sum_of every (count_for a still) (sectors a) ≡ a.interviews
  unfolding count_for to_give
  counts_add =
      omega (
        arith,
        sum_either still (λ i. whole_part a still i + cond (one_more a still i) 1 0) (minimum a) (sectors a),
        sum_plus still (whole_part a still) (λ i. cond (one_more a still i) 1 0) (sectors a),
        sum_ones still (one_more a still) (sectors a) (λ i l h. more_still i h),
        more_are,
        whole_fits,
        given_fits a ok still,
      )

  counts_enough : (i : ℕ) → i < sectors a → minimum a i ≤ count_for a still i
  unfolding count_for quota_below
  counts_enough i l =
      by_test (still i)
      (λ h.
      let q = ltb-false _ _ (done.none i l h) in
      let w = (le-div_iff_mul-le {x = minimum a i} {y = remaining a still * strength a i} total_some).1 q in
      rw (h, whole_is i h) (omega (arith, w)))
      (λ h. rw h (le_refl (minimum a i)))

module _ (a : Sharing) (good : sample_refusal a ≡ 0) where
  counts_are : sample_counts a ≡ in_places (sectors a) (count_for a (stayed a))
  unfolding sample_counts
  counts_are = stays_goes _ _ _ good

  -- THE COUNTS ADD TO T
  pub sample_adds : sum (sample_counts a) ≡ a.interviews
  sample_adds =
      ap sum counts_are
      ∙ sum_append (listed every (count_for a (stayed a)) (sectors a)) (replicate (most_sectors - sectors a) 0)
      ∙ omega (
        arith,
        sum_listed every (count_for a (stayed a)) (sectors a),
        sum_zeros (most_sectors - sectors a),
        counts_add a (accepted_by a good) (stayed a) (stayed_settled a (accepted_by a good)),
      )

  -- NO SECTOR GETS LESS THAN ITS MINIMUM
  pub sample_enough : (i : ℕ) → i < sectors a → minimum a i ≤ get_or (sample_counts a) i 0
  sample_enough i l =
      let front = listed every (count_for a (stayed a)) (sectors a) in
      rw (counts_are, get_or-append front (replicate (most_sectors - sectors a) 0) 0 i (omega (arith, length_terms (count_for a (stayed a)) (sectors a))))
      (rw (term_at (count_for a (stayed a)) (sectors a) i l)
      (counts_enough a (accepted_by a good) (stayed a) (stayed_settled a (accepted_by a good)) i l))
