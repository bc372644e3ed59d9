-- The comparison of a birth within 64 bits, and what refusal 25 leaves of n' and X'.
use mathlib.Core.Path.{◌≡◌, sym, ap, ◌∙◌}
use mathlib.Core.Bool.{false, not}
use Prim.Native.Nat.{ℕ, ◌*◌, ◌≤◌, ◌<◌}
use native.Mathlib.Omega.{arith}
use native.Mathlib.Nat.{mul_assoc, mul-le-mul, mul-le-mul_right}
use lib.Dec.{ltb, eqb}
use borrow.Author.Tests.{lt-ltb, le-ltb, ltb-false, eq-eqb, eqb-true, not-false}
use Rattle.rules.specs.Limits.{most_panel, most_turnover, random_range}
use Rattle.rules.specs.Rotation.{within_previous, bad_previous}
use Rattle.rules.proofs.Tests.{or_false, and_on, by_order}

pub record Allowed (n x : ℕ) : Type 0 where
  pub few : n ≤ most_panel
  pub most : x ≤ most_turnover
  pub both : x ≡ 0 → n ≡ 0

pub allowed : (n x : ℕ) → bad_previous n x ≡ false → Allowed n x
unfolding bad_previous
allowed n x none =
    let parts = or_false _ _ none in
    let sizes = or_false _ _ parts.0 in
    record {
      few = ltb-false _ _ sizes.0;
      most = ltb-false _ _ sizes.1;
      both = λ e. eqb-true n 0 (not-false _ (sym (and_on (eqb x 0) (not (eqb n 0)) (eq-eqb x 0 e)) ∙ parts.1));
    }

module _ (n x t : ℕ) (ok : Allowed n x) (t-low : t ≤ most_turnover) where
  -- n' × turnover is at most 10^14
  pub reach_fits : n * t ≤ 100000000000000
  reach_fits = omega (arith, mul-le-mul ok.few t-low)

  -- where it reaches X', only an X' of 0 keeps a birth out
  pub reached : (r : ℕ) → r < random_range → x ≤ n * t → ltb 0 x ≡ within_previous n x r t
  unfolding within_previous
  reached r low reaches =
      by_order 0 x
      (λ some. lt-ltb 0 x some ∙ sym (lt-ltb (r * x) (random_range * n * t) (omega (arith, mul-le-mul_right x low))))
      (λ none.
      let nobody : random_range * n * t ≤ r * x = rw (ok.both (omega arith)) (omega arith) in
      le-ltb 0 x none ∙ sym (le-ltb (r * x) (random_range * n * t) nobody))

  -- elsewhere the left side is below 10^18, and the right side below the left side's bound
  pub left_fits : (r : ℕ) → r < random_range → r * x ≤ 1000000000000000000
  left_fits r low = omega (arith, mul-le-mul low ok.most)

  pub compared : (r : ℕ) → ltb (r * x) (random_range * (n * t)) ≡ within_previous n x r t
  unfolding within_previous
  compared r = ap (ltb (r * x)) (sym (mul_assoc random_range n t))
