-- The smallest number at which a test holds, as a loop that counts upward finds it.
use mathlib.Core.Path.{◌≡◌, refl}
use mathlib.Core.Logic.{⊎_elim}
use mathlib.Core.Bool.{Bool, true, false}
use Prim.Native.Nat.{ℕ, zero, suc, ◌+◌, ◌-◌, ◌≤◌, ◌<◌}
use native.Mathlib.Nat.{eq-or-lt_of_le}
use native.Mathlib.Omega.{arith}
use native.Mathlib.Numerals.{add-one}
use Rattle.rules.specs.Selection.{least_from}
use Rattle.rules.proofs.Tests.{by_test}

-- at q, of those below z: the test holds, it fails, and none is left
pub least_hit : (p : ℕ → Bool) (z q : ℕ) → q < z → p q ≡ true → least_from p (z - q) q ≡ q
unfolding least_from
least_hit p z q l h = let e : z - q ≡ suc (z - (q + 1)) = omega arith in rw (e, h)

pub least_miss : (p : ℕ → Bool) (z q : ℕ) → q < z → p q ≡ false → least_from p (z - q) q ≡ least_from p (z - (q + 1)) (q + 1)
unfolding least_from
least_miss p z q l h = let e : z - q ≡ suc (z - (q + 1)) = omega arith in rw (e, h, add-one q)

pub least_end : (p : ℕ → Bool) (z q : ℕ) → z ≤ q → least_from p (z - q) q ≡ q
unfolding least_from
least_end p z q l = let e : z - q ≡ 0 = omega arith in rw e

pub least_le : (p : ℕ → Bool) (tries from : ℕ) → least_from p tries from ≤ from + tries
unfolding least_from
least_le p zero from = omega arith
least_le p (suc tries) from =
    let later = least_le p tries (suc from) in
    by_test (p from) (λ e. rw e (omega arith)) (λ e. rw e (omega arith))

-- the test holds at the number that is found
pub least_holds : (p : ℕ → Bool) (tries from : ℕ) → least_from p tries from < from + tries → p (least_from p tries from) ≡ true
unfolding least_from
least_holds p zero from h = absurd (let z : suc from ≤ from = omega arith in omega arith)
least_holds p (suc tries) from h =
    by_test (p from) (λ e. rw e e) (λ e. let g = rw e at h in rw e (least_holds p tries (suc from) (omega arith)))

-- and at none before it
pub least_first : (p : ℕ → Bool) (tries from k : ℕ) → from ≤ k → k < least_from p tries from → p k ≡ false
unfolding least_from
least_first p zero from k l h = absurd (let z : suc k ≤ k = omega arith in omega arith)
least_first p (suc tries) from k l h =
    by_test (p from)
    (λ e. absurd (let g : k < from = rw e at h in omega arith))
    (λ e.
    let g = rw e at h in
    ⊎_elim (λ q. rw q at e) (λ q. least_first p tries (suc from) k q g) (eq-or-lt_of_le l))

-- tests that agree find the same number
pub least_same : (p q : ℕ → Bool) (tries from : ℕ) → ((k : ℕ) → p k ≡ q k) → least_from p tries from ≡ least_from q tries from
unfolding least_from
least_same p q zero from h = refl
least_same p q (suc tries) from h = rw (h from, least_same p q tries (suc from) h)
