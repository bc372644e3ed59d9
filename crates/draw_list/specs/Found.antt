-- The short list and what is found with it: a bound of z units.
use Rattle.std.specs.Prelude.{ℕ, ◌*◌, ◌≤◌, ◌<◌, Bool, true, false, ◌≡◌, List, length, get_or}
use Rattle.rules.specs.Selection.{count, listed}
use Rattle.selection.specs.Held.{Held}
use Rattle.draw_key.specs.declared.Setting.{Setting}
use Rattle.draw_key.specs.Units.{num_of, key_less}
use Rattle.draw_bound.specs.declared.Bound.{Bound}
use Rattle.draw_bound.specs.Bound.{near, part_of, passes, within, most_word}
use Rattle.draw_list.specs.declared.found.Found.{Found}

-- the short-listed among the first `seen` units, in the order of their numbers
pub record Listed (ts rs gs : List ℕ) (s : Setting) (seen : ℕ) (units : List ℕ) (count : ℕ) : Type 0 where
  pub holds : Held (near ts rs gs s) (λ i. i) seen units count

-- no numerator of a listed unit's key is above m
pub record Under (rs gs : List ℕ) (s : Setting) (units : List ℕ) (m : ℕ) : Type 0 where
  pub low : (j : ℕ) → j < length units → num_of rs gs s (get_or units j 0) ≤ m

-- a scale at which they fit 64 bits
pub record Scaled (rs gs : List ℕ) (s : Setting) (units : List ℕ) (scale : ℕ) : Type 0 where
  pub low : (j : ℕ) → j < length units → num_of rs gs s (get_or units j 0) * scale ≤ most_word

-- the parts of the listed units, place by place
pub record Parts (ts rs gs : List ℕ) (s : Setting) (scale : ℕ) (units parts : List ℕ) : Type 0 where
  pub room : length units ≤ length parts
  pub at : (j : ℕ) → j < length units → get_or parts j 0 ≡ part_of ts rs gs s scale (get_or units j 0)

-- Exactly z units are within the bound, whoever has no key to speak of is, and units of the bound's own part are parted by their keys.
pub record Bounds (ts rs gs : List ℕ) (s : Setting) (z : ℕ) (b : Bound) : Type 0 where
  pub exactly : count (within ts rs gs s b) (length ts) ≡ z
  pub some : 0 < b.part
  pub fits : (i : ℕ) → i < length ts → near ts rs gs s i ≡ true → num_of rs gs s i * b.scale ≤ most_word
  pub apart :
      (i j : ℕ) → i < length ts → j < length ts → near ts rs gs s i ≡ true → near ts rs gs s j ≡ true
      → part_of ts rs gs s b.scale i ≡ b.part → part_of ts rs gs s b.scale j ≡ b.part
      → i ≤ b.last → b.last < j → key_less ts rs gs s j i ≡ false

-- what is found: the short list of the whole frame with its parts, and a bound of z units
pub record IsFound (ts rs gs : List ℕ) (s : Setting) (z : ℕ) (r : Found) : Type 0 where
  pub sampled : 0 < s.n
  pub bounds : Bounds ts rs gs s z r.bound
  pub holds : Held (near ts rs gs s) (λ i. i) (length ts) r.list.units r.list.count
  pub parts_are : (j : ℕ) → j < r.list.count → get_or r.parts j 0 ≡ part_of ts rs gs s r.bound.scale (get_or r.list.units j 0)

-- the unit at place j of what is found passes
abbrev pub passing : Found → ℕ → Bool
passing r j = passes r.bound (get_or r.parts j 0) (get_or r.list.units j 0)

-- f of the listed units that pass
abbrev pub found_of : Found → (ℕ → ℕ) → List ℕ
found_of r f = listed (passing r) (λ j. f (get_or r.list.units j 0)) r.list.count

-- what is found as a list: units of a frame of n
pub record Passing (n : ℕ) (r : Found) : Type 0 where
  pub low : (j : ℕ) → j < r.list.count → get_or r.list.units j 0 < n
