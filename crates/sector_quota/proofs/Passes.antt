-- THE PASSES END WITH SOMEBODY LEFT: one sector that leaves takes more than its quota, so not all can leave; and in the end no quota is below its minimum.
use mathlib.Core.Path.{◌≡◌, sym, ◌∙◌}
use mathlib.Core.Logic.{◌≢◌}
use mathlib.Core.Bool.{Bool, true, false, not}
use Prim.Native.Nat.{ℕ, zero, suc, ◌+◌, ◌-◌, ◌*◌, ◌≤◌, ◌<◌}
use native.Mathlib.Nat.{mul_comm, mul-le-mul_right}
use native.Mathlib.Omega.{arith}
use lib.Dec.{eqb}
use borrow.Author.Tests.{ltb-true, eqb-true, eqb-false, not-false}
use Rattle.rules.specs.Selection.{sum_of, count, every}
use Rattle.rules.specs.Allocation.{Sharing, sectors, strength, minimum, remaining, strengths_left, quota_below, leaving, staying, passes, stayed}
use Rattle.rules.proofs.Tests.{and_on, by_test, by_order}
use Rattle.selection.proofs.Sums.{sum_both, count_zero, count_every, count_rest}
use Rattle.selection.proofs.Terms.{sum_second, sum_times, sum_terms, sum_smaller}
use Rattle.sector_quota.specs.Accepted.{Accepted}

-- ---- one pass
module _ (a : Sharing) (ok : Accepted a) (still : ℕ → Bool) where
  -- the minima of those that left are given, and those of the others can be
  pub given_fits : remaining a still + sum_of (λ i. not (still i)) (minimum a) (sectors a) ≡ a.interviews
  unfolding remaining
  given_fits = omega (arith, sum_both still (minimum a) (sectors a), ok.fits)

  -- T' is what T has over all minima, and the minima of those that are still there
  pub remaining_is : remaining a still ≡ (a.interviews - sum_of every (minimum a) (sectors a)) + sum_of still (minimum a) (sectors a)
  remaining_is = omega (arith, given_fits, sum_both still (minimum a) (sectors a), ok.fits)

  minima_fit : sum_of still (minimum a) (sectors a) ≤ remaining a still
  minima_fit = omega (arith, remaining_is)

  -- the strengths left are at least the sectors left
  pub strengths_some : count still (sectors a) ≤ strengths_left a still
  unfolding count strengths_left
  strengths_some = sum_terms still (λ i. 1) (strength a) (sectors a) (λ i l h. (ok.strong i l).0)

  -- if all left, each quota would be below its minimum
  all_below : count (staying a still) (sectors a) ≤ 0 → (i : ℕ) → i < sectors a → still i ≡ true → strength a i * remaining a still < minimum a i * strengths_left a still
  unfolding staying quota_below
  all_below z i l h =
      let out : staying a still i ≡ false = count_rest (staying a still) 0 (sectors a) (count_zero (staying a still) ∙ omega arith) i (omega arith) l in
      let low : quota_below a still i ≡ true = not-false (quota_below a still i) (sym (and_on (still i) (not (quota_below a still i)) h) ∙ out) in
      rw (mul_comm (strength a i) (remaining a still)) (ltb-true _ _ low)

  -- but the quotas add to T', and the minima are no more
  pub one_stays : 0 < count still (sectors a) → 0 < count (staying a still) (sectors a)
  unfolding strengths_left
  one_stays some =
      by_order 0 (count (staying a still) (sectors a))
      (λ l. l)
      (λ l.
      let less = sum_smaller still (λ i. strength a i * remaining a still) (λ i. minimum a i * strengths_left a still) (sectors a) (all_below l) in
      let most = mul-le-mul_right (strengths_left a still) minima_fit in
      let quotas = sum_times still (strength a) (remaining a still) (sectors a) in
      let minima = sum_times still (minimum a) (strengths_left a still) (sectors a) in
      absurd (omega (arith, less, most, some, quotas, minima, mul_comm (strengths_left a still) (remaining a still))))

  -- who leaves and who does not are all
  parted : count still (sectors a) ≡ count (leaving a still) (sectors a) + count (staying a still) (sectors a)
  unfolding count leaving staying
  parted = sum_second still (quota_below a still) (λ i. 1) (sectors a)

-- ---- all passes
-- What the last pass leaves: somebody, and nobody whose quota is below the minimum.
pub record Settled (a : Sharing) (still : ℕ → Bool) : Type 0 where
  pub some : 0 < count still (sectors a)
  pub none : (i : ℕ) → i < sectors a → still i ≡ true → quota_below a still i ≡ false

none_below : (a : Sharing) (still : ℕ → Bool) → count (leaving a still) (sectors a) ≡ 0 → (i : ℕ) → i < sectors a → still i ≡ true → quota_below a still i ≡ false
unfolding leaving
none_below a still e i k h =
    sym (and_on (still i) (quota_below a still i) h)
    ∙ count_rest (leaving a still) 0 (sectors a) (count_zero (leaving a still) ∙ sym e) i (omega arith) k

settles : (a : Sharing) → Accepted a → (most : ℕ) (still : ℕ → Bool) → count still (sectors a) ≤ most → 0 < count still (sectors a) → Settled a (passes most a still)
unfolding passes
settles a ok zero still l some = absurd (omega arith)
settles a ok (suc most) still l some =
    let later = settles a ok most (staying a still) in
    by_test (eqb (count (leaving a still) (sectors a)) 0)
    (λ e. rw e (record { some = some; none = none_below a still (eqb-true _ _ e) }))
    (λ e.
    let ne : count (leaving a still) (sectors a) ≢ 0 = eqb-false _ _ e in
    rw e (later (omega (arith, parted a ok still)) (one_stays a ok still some)))

pub stayed_settled : (a : Sharing) → Accepted a → Settled a (stayed a)
unfolding stayed
stayed_settled a ok =
    settles a ok (sectors a) every (omega (arith, count_every (sectors a))) (omega (arith, count_every (sectors a), ok.some))
