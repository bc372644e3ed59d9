-- "all such in one pass" is moot: one that leaves takes more than its quota, so that every other quota falls. Whoever leaves beside it, a sector whose quota
-- is below its minimum stays so; who leaves in the end does not depend on how many leave at once.
use mathlib.Core.Path.{◌≡◌, sym, ap, ◌∙◌}
use mathlib.Core.Bool.{Bool, true, false, not}
use Prim.Native.Nat.{ℕ, ◌+◌, ◌*◌, ◌≤◌, ◌<◌}
use native.Mathlib.Nat.{mul_comm, mul-le-mul_right, mul-lt-mul_of_pos_left, lt_of_mul-lt-mul_left}
use native.Mathlib.Omega.{arith}
use borrow.Author.Tests.{lt-ltb, ltb-true, not-true}
use Rattle.rules.specs.Tests.{◌and◌}
use Rattle.rules.specs.Selection.{sum_of}
use Rattle.rules.specs.Allocation.{Sharing, sectors, strength, minimum, remaining, strengths_left, quota_below}
use Rattle.rules.proofs.Tests.{and_left, and_right, and_on, and_off, by_test}
use Rattle.selection.proofs.Sums.{sum_same, sum_has}
use Rattle.selection.proofs.Terms.{sum_second, sum_times, sum_terms}
use Rattle.sector_quota.specs.Accepted.{Accepted}
use Rattle.sector_quota.proofs.Passes.{remaining_is}

module _ (a : Sharing) (ok : Accepted a) (still fewer : ℕ → Bool) (part : (i : ℕ) → fewer i ≡ true → still i ≡ true)
    (low : (i : ℕ) → i < sectors a → still i ≡ true → fewer i ≡ false → quota_below a still i ≡ true) where
  -- those that have left since
  left : ℕ → Bool
  left i = still i and not (fewer i)

  parted : (f : ℕ → ℕ) → sum_of still f (sectors a) ≡ sum_of fewer f (sectors a) + sum_of left f (sectors a)
  unfolding left
  parted f =
      sum_second still fewer f (sectors a)
      ∙ ap (λ (n : ℕ). n + sum_of left f (sectors a))
      (sum_same (λ i. still i and fewer i) fewer f (sectors a)
      (λ i l. by_test (fewer i)
      (λ e. and_on (still i) (fewer i) (part i e))
      (λ e. by_test (still i) (and_on (still i) (fewer i)) (λ h. and_off (still i) (fewer i) h ∙ sym e))))

  -- together they take more than their quotas
  left_more : sum_of left (strength a) (sectors a) * remaining a still ≤ sum_of left (minimum a) (sectors a) * strengths_left a still
  unfolding left quota_below
  left_more =
      let each = sum_terms left (λ i. strength a i * remaining a still) (λ i. minimum a i * strengths_left a still) (sectors a)
      (λ i l h.
      let out : fewer i ≡ false = not-true (fewer i) (and_right (still i) (not (fewer i)) h) in
      let b : remaining a still * strength a i < minimum a i * strengths_left a still = ltb-true _ _ (low i l (and_left (still i) (not (fewer i)) h) out) in
      omega (arith, b, mul_comm (strength a i) (remaining a still))) in
      omega (arith, each, sum_times left (strength a) (remaining a still) (sectors a), sum_times left (minimum a) (strengths_left a still) (sectors a))

  -- so what is left for a strength falls
  falls : remaining a fewer * strengths_left a still ≤ strengths_left a fewer * remaining a still
  unfolding strengths_left
  falls =
      let T = remaining a still in
      let S = strengths_left a still in
      let rest : T ≡ remaining a fewer + sum_of left (minimum a) (sectors a) = omega (arith, remaining_is a ok still, remaining_is a ok fewer, parted (minimum a)) in
      omega (arith, left_more, ap (λ (n : ℕ). n * S) rest, ap (λ (n : ℕ). n * T) (parted (strength a)))

  -- A SECTOR THAT IS BELOW ITS MINIMUM STAYS SO
  pub below_stays : (i : ℕ) → i < sectors a → fewer i ≡ true → quota_below a still i ≡ true → quota_below a fewer i ≡ true
  unfolding quota_below strengths_left
  below_stays i l h q =
      let some : 0 < strengths_left a fewer = omega (arith, sum_has fewer (strength a) (sectors a) i l h, (ok.strong i l).0) in
      let now : remaining a still * strength a i < minimum a i * strengths_left a still = ltb-true _ _ q in
      let b = mul-lt-mul_of_pos_left now some in
      let c = mul-le-mul_right (strength a i) falls in
      let then : remaining a fewer * strength a i < minimum a i * strengths_left a fewer = lt_of_mul-lt-mul_left (strengths_left a still) (omega (arith, b, c)) in
      lt-ltb _ _ then
