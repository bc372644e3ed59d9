-- What is asked of a unit, in the terms of its key as the code holds them.
use Prim.Native.Nat.{ℕ, ◌+◌, ◌*◌, ◌/◌, ◌≤◌, ◌<◌}
use mathlib.Core.Bool.{true, false}
use mathlib.Core.Path.{◌≡◌, sym, ap, ap₂, ◌∙◌}
use mathlib.Core.List.{List}
use native.Mathlib.Omega.{arith}
use native.Mathlib.Nat.{mul-le-mul_right, div-mul-le_self}
use lib.ListN.{length, get_or}
use lib.Dec.{leb}
use Rattle.rules.specs.Limits.{random_range, most_turnover}
use Rattle.rules.specs.TakeAll.{turnover}
use Rattle.rules.proofs.Tests.{and_on, and_off}
use Rattle.draw_fraction.specs.declared.Fraction.{Fraction}
use Rattle.draw_key.specs.declared.Setting.{Setting}
use Rattle.draw_key.specs.Units.{Units, UnitKey}
use Rattle.draw_key.proofs.Keys.{key_room}
use Rattle.draw_bound.specs.declared.Bound.{Bound}
use Rattle.draw_bound.specs.Bound.{reach_of, near, part_of, passes, within}

-- a reach of n and half as much again, and 8, by a turnover
the_reach_low : (n half t : ℕ) → half ≤ n → n * t ≤ most_turnover → t ≤ most_turnover → (n + half + 8) * t ≤ 10 * most_turnover
the_reach_low n half t h product low = omega (arith, mul-le-mul_right t h)

module _ {ts rs gs : List ℕ} {s : Setting} {i : ℕ} {f : Fraction} (k : UnitKey ts rs gs s i f) where
  pub part_is : (scale : ℕ) → part_of ts rs gs s scale i ≡ f.num * scale / f.den
  unfolding part_of
  part_is scale = sym (ap₂ (λ (n d : ℕ). n * scale / d) k.num_is k.den_is)

  -- with the reach that the code has computed
  module _ {reach : ℕ} (e : reach ≡ reach_of s.n) where
    pub near_is : near ts rs gs s i ≡ leb f.num (reach * f.den)
    unfolding near
    near_is = rw (e, k.num_is, k.den_is)

    -- it is held only against units with a gap, so that its product fits
    pub reach_low : Units ts rs gs s → i < length ts → 0 < f.num → reach * f.den ≤ 10 * (random_range * most_turnover)
    reach_low ok l h =
        let half : s.n / 2 ≤ s.n = omega (arith, div-mul-le_self s.n 2) in
        let low : 0 < get_or gs i 0 → reach * turnover ts i ≤ 10 * most_turnover =
        λ some. rw e (the_reach_low s.n (s.n / 2) (turnover ts i) half (ok.product_low i l some) (ok.within i l)) in
        omega (arith, key_room k reach (10 * most_turnover) low h)

    -- within a bound, by the two tests in turn
    pub within_far : (b : Bound) → leb f.num (reach * f.den) ≡ false → within ts rs gs s b i ≡ false
    unfolding within
    within_far b h = and_off _ _ (near_is ∙ h)

    pub within_near : (b : Bound) → leb f.num (reach * f.den) ≡ true → passes b (f.num * b.scale / f.den) i ≡ within ts rs gs s b i
    unfolding within
    within_near b h = ap (λ (n : ℕ). passes b n i) (sym (part_is b.scale)) ∙ sym (and_on _ _ (near_is ∙ h))
