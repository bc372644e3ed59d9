-- A mark as the code reads it.
use mathlib.Core.Path.{◌≡◌, sym, ap, ◌∙◌}
use mathlib.Core.Bool.{Bool, true, false, not, beq}
use mathlib.Core.List.{List}
use Prim.Native.Nat.{ℕ}
use lib.ListN.{get_or, set}
use lib.Seq.{get_or-set_other}
use lib.Dec.{eqb}
use borrow.Author.Tests.{eq-eqb, ne_eqb}
use Rattle.sector_passes.specs.Marks.{still_in, marked_as}

module _ (gone : List ℕ) (i : ℕ) where
  pub still_on : get_or gone i 0 ≡ 0 → still_in gone i ≡ true
  unfolding still_in
  still_on e = eq-eqb (get_or gone i 0) 0 e

  pub still_off : (get_or gone i 0 ≡ 0 → ⊥) → still_in gone i ≡ false
  unfolding still_in
  still_off e = ne_eqb (get_or gone i 0) 0 e

  -- a mark that was compared with what is asked
  pub marked_is : (still b x : Bool) → beq x still ≡ b → x ≡ eqb (get_or gone i 0) 0 → marked_as still gone i ≡ b
  unfolding still_in
  marked_is true b true e g = sym g ∙ e
  marked_is true b false e g = sym g ∙ e
  marked_is false b true e g = ap not (sym g) ∙ e
  marked_is false b false e g = ap not (sym g) ∙ e

  -- another sector's mark
  pub still_other : (v k : ℕ) → (i ≡ k → ⊥) → still_in (set gone i v) k ≡ still_in gone k
  unfolding still_in
  still_other v k ne = ap (λ (n : ℕ). eqb n 0) (get_or-set_other gone i k v 0 (λ e. ne (sym e)))
