-- No product of an opening with an outside share is too large: the sampled W are alike and part of a sum that 10 judged, and G is at most 1.
use mathlib.Core.Path.{◌≡◌, refl, sym, ap, ◌∙◌}
use mathlib.Core.Bool.{false}
use mathlib.Core.List.{List, [], ◌∷◌}
use Prim.Native.Nat.{ℕ, zero, suc, ◌+◌, ◌*◌, ◌<◌, ◌≤◌}
use native.Mathlib.Nat.{mul-le-mul_left, mul-le-mul_right, le_of_mul-le-mul_right, div-le_of_le-mul, div-mul-le_self}
use native.Mathlib.Omega.{arith}
use lib.ListN.{length, get_or}
use Rattle.rules.specs.Limits.{share_scale, most_weight}
use Rattle.rules.specs.Lists.{sum}
use Rattle.rules.specs.Panel.{of_sampled, sampled_size, sampled_base, sampled_shares, outside_whole, inner_floor, each_unit, shared_unit, outside_shared, bad_outside}
use Rattle.rules.proofs.Lists.{scaled_within}
use Rattle.rules.proofs.Panels.{size_beside, sampled, sampled_within, shared_without}
use Rattle.chain_sampled.specs.declared.Tally.{Tally}
use Rattle.chain_sampled.specs.Tally.{tally_of}
use Rattle.chain_share.specs.Outsideable.{Marked}

-- ---- n and T, as they are counted
module _ (ms ws gs : List ℕ) (m : Marked ms ws gs) (t : Tally) (e : t ≡ tally_of ms gs) where
  pub counted_size : t.size ≡ sampled_size ms ws
  counted_size = ap (λ (x : Tally). x.size) e ∙ size_beside ms gs ws (m.marks ∙ sym m.shares) m.marks

  pub counted_shares : t.shares ≡ sampled_shares ms gs
  counted_shares = ap (λ (x : Tally). x.shares) e

-- ---- n × X and n × X × G, and the inner floor
pub record Small (domain : ℕ) (ms ws : List ℕ) : Type 0 where
  pub base : sampled_size ms ws * sampled_base ms ws ≤ most_weight
  pub whole : sampled_size ms ws * sampled_base ms ws * domain ≤ most_weight * share_scale

pub small : (domain : ℕ) (ms ws gs : List ℕ) (n : ℕ) → sampled_size ms ws ≡ n → sum ws ≤ most_weight → bad_outside domain ms ws gs ≡ false → Small domain ms ws
small domain ms ws gs zero e limit passes = record { base = rw e (omega arith); whole = rw e (omega arith) }
small domain ms ws gs (suc n) e limit passes =
    let s = sampled domain ms ws gs n e passes in
    let base : sampled_size ms ws * sampled_base ms ws ≤ most_weight = omega (arith, limit, sampled_within ms ws s.alike) in
    record { base = base; whole = omega (arith, mul-le-mul_left (sampled_size ms ws * sampled_base ms ws) s.most, mul-le-mul_right share_scale base) }

pub inner_small : (domain : ℕ) (ms ws : List ℕ) → Small domain ms ws → inner_floor domain ms ws ≤ most_weight
unfolding outside_whole
inner_small domain ms ws s =
    let h : outside_whole domain ms ws ≤ share_scale * most_weight = omega (arith, s.whole) in
    div-le_of_le-mul share_scale h

-- a sampled unit has something to be divided by
pub shares_positive : (domain : ℕ) (ms ws gs : List ℕ) (n : ℕ) → sampled_size ms ws ≡ n → 0 < n → bad_outside domain ms ws gs ≡ false → 0 < sampled_shares ms gs
shares_positive domain ms ws gs zero e some passes = absurd (omega arith)
shares_positive domain ms ws gs (suc n) e some passes = (sampled domain ms ws gs n e passes).divides

-- ---- the sum of the u
-- a take-all unit's u is at most its W, and those of the sampled units together at most the inner floor
units_most : (inner t : ℕ) (ms ws gs : List ℕ) → ((i : ℕ) → get_or gs i 0 ≤ share_scale) →
    sum (each_unit (shared_unit inner t) ms ws gs) * t ≤ inner * sum (of_sampled ms gs) + sum ws * t
unfolding sum each_unit of_sampled
units_most inner t [] ws gs few = omega arith
units_most inner t (mark ∷ ms) [] gs few = omega arith
units_most inner t (mark ∷ ms) (w ∷ ws) [] few = omega arith
units_most inner t (zero ∷ ms) (w ∷ ws) (g ∷ gs) few =
    let h : w * g ≤ share_scale * w = omega (arith, mul-le-mul_left w (few 0)) in
    omega (arith, mul-le-mul_right t (div-le_of_le-mul share_scale h), units_most inner t ms ws gs (λ i. few (suc i)))
units_most inner t (suc mark ∷ ms) (w ∷ ws) (g ∷ gs) few =
    omega (arith, div-mul-le_self (inner * g) t, units_most inner t ms ws gs (λ i. few (suc i)))

module _ (domain : ℕ) (ms ws gs : List ℕ) (marks : length ms ≡ length ws) (limit : sum ws ≤ most_weight) (few : (i : ℕ) → get_or gs i 0 ≤ share_scale)
    (passes : bad_outside domain ms ws gs ≡ false) where
  pub u_sum : sum (outside_shared domain ms ws gs) ≤ most_weight + most_weight
  unfolding outside_shared sampled_shares
  u_sum = go (sampled_size ms ws) refl
    where
      go : (n : ℕ) → sampled_size ms ws ≡ n → sum (outside_shared domain ms ws gs) ≤ most_weight + most_weight
      go zero e = rw (shared_without domain ms ws gs [] 0 marks e) (omega (arith, limit, scaled_within share_scale ws gs few))
      go (suc n) e =
          let most = units_most (inner_floor domain ms ws) (sampled_shares ms gs) ms ws gs few in
          let i = inner_small domain ms ws (small domain ms ws gs (suc n) e limit passes) in
          let each : sum (outside_shared domain ms ws gs) ≤ inner_floor domain ms ws + sum ws =
          le_of_mul-le-mul_right {k = sampled_shares ms gs} (omega (arith, most)) (sampled domain ms ws gs n e passes).divides in
          omega (arith, each, limit, i)
