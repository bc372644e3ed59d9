-- The sum of the marked values, a turn at a time.
use mathlib.Core.Path.{◌≡◌, refl, ap, ◌∙◌}
use mathlib.Core.Bool.{Bool, true, false}
use mathlib.Core.List.{List}
use Prim.Native.Nat.{ℕ, ◌+◌, ◌*◌, ◌≤◌, ◌<◌}
use native.Mathlib.Omega.{arith}
use lib.ListN.{length}
use Rattle.rules.specs.Limits.{most_sectors, highest_strength}
use Rattle.rules.specs.Selection.{sum_of}
use Rattle.selection.proofs.Terms.{sum_in, sum_out, sum_room, sum_every}
use Rattle.sector_passes.specs.Marks.{value_of, Summable}

pub record Summed (mark : ℕ → Bool) (values : List ℕ) (sum i : ℕ) : Type 0 where
  pub most : i ≤ length values
  pub is : sum ≡ sum_of mark (value_of values) i

module _ (mark : ℕ → Bool) (values : List ℕ) where
  pub summed_none : Summed mark values 0 0
  unfolding sum_of
  summed_none = record { most = omega arith; is = refl }

  module _ (sum i : ℕ) (w : Summed mark values sum i) where
    -- the next of them fits
    pub summed_room : (gone : List ℕ) → Summable values gone → i < length values → mark i ≡ true → sum + value_of values i ≤ most_sectors * highest_strength
    summed_room gone ok l h =
        omega (arith, w.is, sum_room mark (value_of values) i (length values) h l, sum_every mark (value_of values) (length values), ok.low)

    pub summed_in : (next : ℕ) → i < length values → mark i ≡ true → next ≡ sum + value_of values i → Summed mark values next (i + 1)
    summed_in next l h e = record { most = omega arith; is = omega (arith, w.is, sum_in mark (value_of values) i h) }

    pub summed_out : (next : ℕ) → i < length values → mark i ≡ false → next ≡ sum → Summed mark values next (i + 1)
    summed_out next l h e = record { most = omega arith; is = omega (arith, w.is, sum_out mark (value_of values) i h) }

    pub summed_all : length values ≤ i → sum ≡ sum_of mark (value_of values) (length values)
    summed_all l = let e : i ≡ length values = omega (arith, w.most) in w.is ∙ ap (sum_of mark (value_of values)) e
