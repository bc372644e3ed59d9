-- Sums over the units outside a group, of which some are kept.
use mathlib.Core.Path.{◌≡◌, refl, ap}
use mathlib.Core.Bool.{Bool, true, false, not}
use Prim.Native.Nat.{ℕ, zero, suc, ◌+◌, ◌-◌, ◌*◌, ◌≤◌, ◌<◌}
use native.Mathlib.Nat.{mul-lt-mul_of_pos_left, lt_of_mul-lt-mul_left, mul_left_comm}
use native.Mathlib.Omega.{arith}
use Rattle.rules.specs.Tests.{◌or◌}
use Rattle.rules.specs.Selection.{sum_of, count}
use Rattle.rules.proofs.Tests.{by_test, not_both}
use Rattle.selection.proofs.Sums.{count_both}

-- of the units outside t, those of k and those outside both
pub sum_parted :
    (t k : ℕ → Bool) (f : ℕ → ℕ) (n : ℕ) → ((i : ℕ) → i < n → k i ≡ true → t i ≡ false)
    → sum_of (λ i. not (t i)) f n ≡ sum_of k f n + sum_of (λ i. not (t i or k i)) f n
unfolding sum_of ◌or◌
sum_parted t k f zero h = refl
sum_parted t k f (suc n) h =
    let later = sum_parted t k f n (λ i l. h i (omega arith)) in
    by_test (t n)
    (λ a. by_test (k n) (λ b. absurd (not_both (t n) a (h n (omega arith) b))) (λ b. rw (a, b) (omega arith)))
    (λ a. by_test (k n) (λ b. rw (a, b) (omega arith)) (λ b. rw (a, b) (omega arith)))

pub count_parted :
    (t k : ℕ → Bool) (n : ℕ) → ((i : ℕ) → i < n → k i ≡ true → t i ≡ false) → count (λ i. t i or k i) n ≡ count t n + count k n
unfolding count
count_parted t k n h = omega (arith, sum_parted t k (λ i. 1) n h, count_both t n, count_both (λ i. t i or k i) n)

-- a × each is at most x, so a × the sum is at most x × the count
pub sum_bound :
    (p : ℕ → Bool) (f : ℕ → ℕ) (a x n : ℕ) → ((i : ℕ) → i < n → p i ≡ true → a * f i ≤ x) → a * sum_of p f n ≤ count p n * x
unfolding sum_of count
sum_bound p f a x zero h = omega arith
sum_bound p f a x (suc n) h =
    let later = sum_bound p f a x n (λ i l. h i (omega arith)) in
    by_test (p n) (λ b. rw b (omega (arith, later, h n (omega arith) b))) (λ b. rw b (omega (arith, later)))

-- Who stayed below X with n places stays below what is left of X with n − k places, where k units that stayed below X have left.
pub less_left :
    (n k t out all left : ℕ) → k < n → n * t < all → n * out ≤ k * all → all ≡ out + left → (n - k) * t < left
less_left n k t out all left l h b e =
    let d : ℕ = n - k in
    let a : d * (n * t) < d * all = mul-lt-mul_of_pos_left h (omega arith) in
    let s : n * all ≡ (d + k) * all = ap (λ (m : ℕ). m * all) (omega arith) in
    let u : n * all ≡ n * (out + left) = ap (λ (m : ℕ). n * m) e in
    lt_of_mul-lt-mul_left n (omega (arith, a, s, u, b, mul_left_comm d n t))
