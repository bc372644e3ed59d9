-- What the tests of keys ask for: a whole part that is that of the terms, and terms whose products fit 64 bits.
use Rattle.std.specs.Prelude.{◌≡◌, ℕ, ◌*◌, ◌/◌, ◌≤◌, ◌<◌}
use Rattle.rules.specs.Limits.{most_turnover, most_panel, random_range}
use Rattle.draw_fraction.specs.declared.Fraction.{Fraction}

-- the whole part is that of the terms
pub record Divided (f : Fraction) (whole : ℕ) : Type 0 where
  pub den_some : 0 < f.den
  pub whole_is : whole ≡ f.num / f.den

-- terms of a key where n units are sampled: unless the key is 0, n × turnover is below X, so that n × den stays within 10^6 × 10^12
pub record Narrow (n : ℕ) (f : Fraction) : Type 0 where
  pub den_some : 0 < f.den
  pub size_low : n ≤ most_panel
  pub product_low : 0 < f.num → n * f.den ≤ random_range * most_turnover
