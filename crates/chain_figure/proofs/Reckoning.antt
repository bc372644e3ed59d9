-- L in two steps, and the bounds that keep the products below 2^64.
use mathlib.Core.Path.{◌≡◌, sym, ap, ◌∙◌}
use Prim.Native.Nat.{ℕ, ◌+◌, ◌*◌, ◌/◌, ◌%◌, ◌<◌, ◌≤◌}
use native.Mathlib.Nat.{mul-add-div_right, div-add-mod', div-le_of_le-mul, mul-le-mul_right}
use native.Mathlib.Omega.{arith}

-- with n = h·v + rest, n × scale / v is scale × h + floor(scale × rest / v)
pub two_steps : (n v scale : ℕ) → 0 < v → scale * (n / v) + scale * (n % v) / v ≡ n * scale / v
two_steps n v scale h =
    sym (mul-add-div_right h (scale * (n / v)) (scale * (n % v)))
    ∙ ap (λ (k : ℕ). k / v) e
  where
    e : scale * (n / v) * v + scale * (n % v) ≡ n * scale
    e = omega (arith, ap (λ (k : ℕ). k * scale) (div-add-mod' n v))

-- a mean of relatives is at most the highest of them
pub mean_most : (n v most scale : ℕ) → n ≤ most * v → n * scale / v ≤ most * scale
mean_most n v most scale h = div-le_of_le-mul v (omega (arith, mul-le-mul_right scale h))
