-- `below` and `above` meet their contracts, each by the other: the guards and the whole parts decide by the laws of `Cross`, and what is
-- left is the same question about the remainders turned upside down.
use Prim.Native.Nat.{ℕ, ◌/◌, ◌%◌}
use mathlib.Core.Path.{◌≡◌, sym, ◌∙◌}
use native.Mathlib.Omega.{arith}
use Rattle.rules.specs.Draw.{fraction_below}
use Rattle.draw_fraction.proofs.Cross.{zero_left, zero_right, whole_less, whole_more, turned}
use Rattle.draw_fraction.proofs.+above_below.Goals as goal

-- equal whole parts: what is asked of fractions that are the remainders turned upside down
turned_as :
    (a b c d : ℕ) {p q r s : ℕ} → a / b ≡ c / d → p ≡ d → q ≡ c % d → r ≡ b → s ≡ a % b
    → fraction_below p q r s ≡ fraction_below a b c d
turned_as a b c d e f g h i = rw (f, g, h, i) (sym (turned a b c d e))

pub above-returns-then-v-eq0 : goal.above-returns-then-v-eq0
above-returns-then-v-eq0 t c = sym (zero_left _ _ _ _ c.if-v-eq0.true)

pub above-returns-then-u-eq0 : goal.above-returns-then-u-eq0
above-returns-then-u-eq0 t c = sym (zero_right _ _ _ _ c.if-v-eq0.false c.if-u-eq0.true)

pub above-returns-then-whole_v-whole_u : goal.above-returns-then-whole_v-whole_u
above-returns-then-whole_v-whole_u t c = sym (whole_less _ _ _ _ c.if-v-eq0.false c.if-u-eq0.false c.if-whole_v-whole_u.true)

pub above-returns-then-whole_u-whole_v : goal.above-returns-then-whole_u-whole_v
above-returns-then-whole_u-whole_v t c = sym (whole_more _ _ _ _ c.if-v-eq0.false c.if-u-eq0.false c.if-whole_u-whole_v.true)

pub above-returns : goal.above-returns
above-returns t c =
    c.below.ensures
    ∙ turned_as _ _ _ _ (omega (arith, c.if-whole_v-whole_u.false, c.if-whole_u-whole_v.false)) (omega (arith, c.turned.ensures.0)) (omega (arith, c.turned.ensures.1))
    (omega (arith, c.turned-2.ensures.0)) (omega (arith, c.turned-2.ensures.1))

pub below-returns-then-x-eq0 : goal.below-returns-then-x-eq0
below-returns-then-x-eq0 t c = sym (zero_left _ _ _ _ c.if-x-eq0.true)

pub below-returns-then-y-eq0 : goal.below-returns-then-y-eq0
below-returns-then-y-eq0 t c = sym (zero_right _ _ _ _ c.if-x-eq0.false c.if-y-eq0.true)

pub below-returns-then-whole_x-whole_y : goal.below-returns-then-whole_x-whole_y
below-returns-then-whole_x-whole_y t c = sym (whole_less _ _ _ _ c.if-x-eq0.false c.if-y-eq0.false c.if-whole_x-whole_y.true)

pub below-returns-then-whole_y-whole_x : goal.below-returns-then-whole_y-whole_x
below-returns-then-whole_y-whole_x t c = sym (whole_more _ _ _ _ c.if-x-eq0.false c.if-y-eq0.false c.if-whole_y-whole_x.true)

pub below-returns : goal.below-returns
below-returns t c =
    c.above.ensures
    ∙ turned_as _ _ _ _ (omega (arith, c.if-whole_x-whole_y.false, c.if-whole_y-whole_x.false)) (omega (arith, c.turned-2.ensures.0)) (omega (arith, c.turned-2.ensures.1))
    (omega (arith, c.turned.ensures.0)) (omega (arith, c.turned.ensures.1))
