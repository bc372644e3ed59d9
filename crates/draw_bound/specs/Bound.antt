-- A bound that parts the units with the smallest keys from the others by one number a unit: the whole part of the key at a scale. Units are on
-- the short list where their key is within a reach; those alone are looked at closely.
use Rattle.std.specs.Prelude.{ℕ, ◌+◌, ◌*◌, ◌/◌, ◌≤◌, ◌<◌, Bool, false, ◌≡◌, List, length, get_or, ltb, leb, eqb}
use Rattle.rules.specs.Tests.{◌or◌, ◌and◌}
use Rattle.rules.specs.Selection.{count}
use Rattle.draw_key.specs.declared.Setting.{Setting}
use Rattle.draw_key.specs.Units.{num_of, den_of, key_less}
use Rattle.draw_bound.specs.declared.Bound.{Bound}

-- the reach for n units to sample
abbrev pub reach_of : ℕ → ℕ
reach_of n = n + n / 2 + 8

-- the key of unit i is within reach
unfoldable pub near : List ℕ → List ℕ → List ℕ → Setting → ℕ → Bool
near ts rs gs s i = leb (num_of rs gs s i) (reach_of s.n * den_of ts rs s i)

-- floor(key × scale)
unfoldable pub part_of : List ℕ → List ℕ → List ℕ → Setting → ℕ → ℕ → ℕ
part_of ts rs gs s scale i = num_of rs gs s i * scale / den_of ts rs s i

-- a lower part than the bound's, or the same and no higher number than the last
unfoldable pub passes : Bound → ℕ → ℕ → Bool
passes b part i = ltb part b.part or (eqb part b.part and leb i b.last)

-- unit i is within the bound
unfoldable pub within : List ℕ → List ℕ → List ℕ → Setting → Bound → ℕ → Bool
within ts rs gs s b i = near ts rs gs s i and passes b (part_of ts rs gs s b.scale i) i

-- the largest number of 64 bits
abbrev pub most_word : ℕ
most_word = 18446744073709551615

-- unit i, of the bound's own part, stands by its key on the side of the bound's last unit where its number puts it
pub record Apart (ts rs gs : List ℕ) (s : Setting) (b : Bound) (i : ℕ) : Type 0 where
  pub before : i ≤ b.last → key_less ts rs gs s b.last i ≡ false
  pub behind : b.last < i → key_less ts rs gs s i b.last ≡ false

-- what is checked of a bound: exactly z of the listed units pass, and those of its own part are parted rightly
pub record Checked (ts rs gs : List ℕ) (s : Setting) (units parts : List ℕ) (b : Bound) (z : ℕ) : Type 0 where
  pub some : 0 < b.part
  pub last_low : b.last < length ts
  pub exactly : count (λ j. passes b (get_or parts j 0) (get_or units j 0)) (length units) ≡ z
  pub apart : (j : ℕ) → j < length units → get_or parts j 0 ≡ b.part → Apart ts rs gs s b (get_or units j 0)
