-- The short list as the search takes it: its units are units of the frame, its numerators fit the scale, and what is checked makes a bound.
use Prim.Native.Nat.{ℕ, ◌/◌, ◌≤◌, ◌<◌}
use mathlib.Core.Bool.{Bool}
use mathlib.Core.Path.{◌≡◌, sym, ap, ◌∙◌, subst}
use mathlib.Core.List.{List}
use native.Mathlib.Omega.{arith}
use native.Mathlib.Nat.{mul-le-mul_right, div-mul-le_self}
use lib.ListN.{length, get_or, take, length-take}
use lib.Seq.{get_or-take}
use Rattle.rules.specs.Selection.{count, listed}
use Rattle.selection.specs.Marked.{Placed}
use Rattle.selection.proofs.Sums.{listed_length}
use Rattle.selection.proofs.Listed.{listed_same}
use Rattle.selection.proofs.Held.{held_low, held_again}
use Rattle.draw_key.specs.declared.Setting.{Setting}
use Rattle.draw_key.specs.Units.{Units}
use Rattle.draw_key.proofs.Keys.{unit_positive}
use Rattle.draw_list.specs.declared.found.Shortlist.{Shortlist}
use Rattle.draw_list.specs.declared.found.Found.{Found}
use Rattle.draw_bound.specs.Bound.{part_of, most_word, Checked, passes, within}
use Rattle.draw_list.specs.Found.{Listed, Under, Scaled, Parts, IsFound, passing, found_of, Passing}
use Rattle.draw_list.proofs.Bounded.{checked_bounds}

-- the whole parts of a scale that the largest numerator fits
pub under_scaled : {rs gs : List ℕ} {s : Setting} {units : List ℕ} {m : ℕ} → 0 < m → Under rs gs s units m → Scaled rs gs s units (most_word / m)
under_scaled {m = m} some h = record {
  low = λ j l. omega (arith, mul-le-mul_right (most_word / m) (h.low j l), div-mul-le_self most_word m);
}

-- a list that did not end early is that of the whole frame
pub listed_whole :
    {ts rs gs : List ℕ} {s : Setting} {seen n : ℕ} {units : List ℕ} {count : ℕ} → seen ≤ n → n ≤ seen → Listed ts rs gs s seen units count
    → Listed ts rs gs s n units count
listed_whole {ts} {rs} {gs} {s} {seen} {n} {units} {count} l e h = subst (λ (k : ℕ). Listed ts rs gs s k units count) (omega arith) h

module _ (r : Shortlist) where
  pub listed_count : r.count ≡ length (take r.count r.units)
  listed_count = omega (arith, length-take r.count r.units, r.room, r.few)

module _ {ts rs gs : List ℕ} {s : Setting} (r : Shortlist) (h : Listed ts rs gs s (length ts) r.units r.count) where
  pub listed_placed : Placed (length ts) (take r.count r.units)
  listed_placed = record {
    low = λ j l.
        let in_list : j < r.count = omega (arith, listed_count r) in
        omega (arith, get_or-take r.count r.units j 0 in_list, held_low h.holds j in_list);
  }

-- a checked bound
module _ {ts rs gs : List ℕ} {s : Setting} (r : Found) (h : Listed ts rs gs s (length ts) r.list.units r.list.count) where
  pub is_found :
      {z : ℕ} → Units ts rs gs s → Scaled rs gs s (take r.list.count r.list.units) r.bound.scale
      → Parts ts rs gs s r.bound.scale (take r.list.count r.list.units) r.parts → Checked ts rs gs s (take r.list.count r.list.units) r.parts r.bound z
      → 0 < s.n → IsFound ts rs gs s z r
  is_found {z} ok fit laid checked some = record {
    sampled = some;
    bounds = checked_bounds ts rs gs s z r.bound (unit_positive ok) r.list.units r.parts r.list.count h.holds laid fit checked;
    holds = h.holds;
    parts_are = λ j l. laid.at j (omega (arith, l, listed_count r.list)) ∙ ap (part_of ts rs gs s r.bound.scale) (get_or-take r.list.count r.list.units j 0 l);
  }

-- ---- what is found, as the list of those within its bound
module _ (ts rs gs : List ℕ) (s : Setting) (z : ℕ) (r : Found) (h : IsFound ts rs gs s z r) where
  -- the unit at place j passes by its part
  abbrev by_part : ℕ → Bool
  by_part i = passes r.bound (part_of ts rs gs s r.bound.scale i) i

  -- f of the listed units that pass is f of the frame's units within the bound
  pub found_listed : (f : ℕ → ℕ) → found_of r f ≡ listed (within ts rs gs s r.bound) f (length ts)
  unfolding within
  found_listed f =
      listed_same (passing r) (λ j. by_part (get_or r.list.units j 0)) (λ j. f (get_or r.list.units j 0)) r.list.count
      (λ j l. ap (λ (p : ℕ). passes r.bound p (get_or r.list.units j 0)) (h.parts_are j l))
      ∙ held_again h.holds by_part f

  pub found_passing : Passing (length ts) r
  found_passing = record { low = held_low h.holds }

  pub found_count : count (passing r) r.list.count ≡ z
  found_count =
      sym (listed_length (passing r) (λ j. get_or r.list.units j 0) r.list.count)
      ∙ ap length (found_listed (λ i. i))
      ∙ listed_length (within ts rs gs s r.bound) (λ i. i) (length ts)
      ∙ h.bounds.exactly
