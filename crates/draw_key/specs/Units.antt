-- The keys of a frame's units from their gaps, and who has the n smallest. A gap is X − n × turnover, or X by sequential Poisson: the part of a key that no
-- start changes; a pass over many starts computes it once a unit. A unit with the gap 0 has no key: such are the take-all units. Everything from here to the panel is said in these words.
use Rattle.std.specs.Prelude.{ℕ, ◌*◌, ◌≤◌, ◌<◌, Bool, not, ◌≡◌, List, length, get_or, eqb}
use Rattle.rules.specs.Limits.{most_turnover, random_range, most_panel}
use Rattle.rules.specs.Selection.{count, by_key, firsts}
use Rattle.rules.specs.TakeAll.{turnover}
use Rattle.rules.specs.Draw.{shifted, fraction_below}
use Rattle.draw_fraction.specs.declared.Fraction.{Fraction}
use Rattle.draw_key.specs.declared.Setting.{Setting}
use Rattle.draw_key.specs.Methods.{denominator_by}

-- r × its gap, of unit i
unfoldable pub num_of : List ℕ → List ℕ → Setting → ℕ → ℕ
num_of rs gs s i = shifted s.start (get_or rs i 0) * get_or gs i 0

-- "(1,000,000 − r) × turnover", or 1,000,000 × turnover
unfoldable pub den_of : List ℕ → List ℕ → Setting → ℕ → ℕ
den_of ts rs s i = denominator_by s.method (turnover ts i) (shifted s.start (get_or rs i 0))

-- the key of unit j is below that of unit i
unfoldable pub key_less : List ℕ → List ℕ → List ℕ → Setting → ℕ → ℕ → Bool
key_less ts rs gs s j i = fraction_below (num_of rs gs s j) (den_of ts rs s j) (num_of rs gs s i) (den_of ts rs s i)

-- the order by keys, "equal keys go by lower unit number"
unfoldable pub key_order : List ℕ → List ℕ → List ℕ → Setting → ℕ → ℕ → Bool
key_order ts rs gs s = by_key (key_less ts rs gs s)

-- unit i has no key, or has one
abbrev pub keyless : List ℕ → ℕ → Bool
keyless gs i = eqb (get_or gs i 0) 0

abbrev pub has_key : List ℕ → ℕ → Bool
has_key gs i = not (keyless gs i)

-- "The n smallest keys are sampled"
unfoldable pub sampled_of : List ℕ → List ℕ → List ℕ → Setting → ℕ → Bool
sampled_of ts rs gs s i = firsts (has_key gs) (key_order ts rs gs s) (length ts) s.n i

-- What an accepted frame, a sound group and its gaps leave: numbers within their limits, so that products fit 64 bits, and n units with a key.
pub record Units (ts rs gs : List ℕ) (s : Setting) : Type 0 where
  pub same : length rs ≡ length ts
  pub room : length ts ≤ length gs
  pub positive : (i : ℕ) → i < length ts → 0 < turnover ts i
  pub within : (i : ℕ) → i < length ts → turnover ts i ≤ most_turnover
  pub random_low_lem : (i : ℕ) → i < length ts → get_or rs i 0 < random_range
  pub start_low_lem : s.start < random_range
  pub gap_low : (i : ℕ) → i < length ts → get_or gs i 0 ≤ most_turnover
  pub size_low : s.n ≤ most_panel
  pub product_low : (i : ℕ) → i < length ts → 0 < get_or gs i 0 → s.n * turnover ts i ≤ most_turnover
  pub enough : s.n ≤ count (has_key gs) (length ts)

-- f is the key of unit i
pub record UnitKey (ts rs gs : List ℕ) (s : Setting) (i : ℕ) (f : Fraction) : Type 0 where
  pub num_is : f.num ≡ num_of rs gs s i
  pub den_is : f.den ≡ den_of ts rs s i
  pub den_some : 0 < f.den
