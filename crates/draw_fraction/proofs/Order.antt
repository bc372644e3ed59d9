-- `fraction_below` orders fractions strictly: of a fraction and itself neither is below; and, for positive denominators,
-- both "below" and "not below" carry over a third fraction. Shown by multiplying the cross products by the third denominator.
use Prim.Native.Nat.{ℕ, ◌*◌, ◌<◌}
use mathlib.Core.Bool.{true, false, ◌&&◌}
use mathlib.Core.Path.{◌≡◌, refl, ◌∙◌}
use native.Mathlib.Nat.{mul-le-mul_right, le_of_mul-le-mul_right}
use native.Mathlib.Omega.{arith}
use lib.Dec.{eqb}
use borrow.Author.Tests.{ltb-true, ltb-false, le-ltb, eqb-true}
use Rattle.std.proofs.lemmas.Bool.{and_parts}
use Rattle.rules.specs.Draw.{fraction_below}
use Rattle.draw_fraction.specs.declared.Fraction.{Fraction}

-- a fraction is not below itself
pub irreflexive : (a b : ℕ) → fraction_below a b a b ≡ false
unfolding fraction_below
irreflexive a b = le-ltb (a * b) (a * b) (omega arith)

-- one of two is below the other at most
pub asymmetric : (a b c d : ℕ) → fraction_below a b c d ≡ true → fraction_below c d a b ≡ false
unfolding fraction_below
asymmetric a b c d h = le-ltb (c * b) (a * d) (omega (arith, ltb-true (a * d) (c * b) h))

-- a/b ≥ c/d ≥ e/f
pub not_below_transitive :
    (a b c d e f : ℕ) → 0 < b → 0 < d → 0 < f → fraction_below a b c d ≡ false → fraction_below c d e f ≡ false
    → fraction_below a b e f ≡ false
unfolding fraction_below
not_below_transitive a b c d e f hb hd hf h k =
    le-ltb (a * f) (e * b)
    (le_of_mul-le-mul_right {k = d}
    (omega (
      arith,
      mul-le-mul_right f (ltb-false (a * d) (c * b) h),
      mul-le-mul_right b (ltb-false (c * f) (e * d) k),
    ))
    hd)

-- fractions of the same terms compare alike, and of two equal ones neither is below the other
pub same_fractions : {a b c d a' b' c' d' : ℕ} → a ≡ a' → b ≡ b' → c ≡ c' → d ≡ d' → fraction_below a b c d ≡ fraction_below a' b' c' d'
same_fractions e f g h = cc

pub equal_fractions : (x y : Fraction) → (eqb x.num y.num && eqb x.den y.den) ≡ true → fraction_below x.num x.den y.num y.den ≡ false
equal_fractions x y h =
    let both = and_parts (eqb x.num y.num) (eqb x.den y.den) h in
    same_fractions (eqb-true _ _ both.0) (eqb-true _ _ both.1) refl refl ∙ irreflexive y.num y.den
