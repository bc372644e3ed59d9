-- `below_by_parts` meets its contract as `below` does, with the remainders taken as what is left over the whole parts.
use Prim.Native.Nat.{ℕ, ◌-◌, ◌*◌, ◌/◌, ◌%◌, ◌≤◌}
use mathlib.Core.Path.{◌≡◌, sym, ◌∙◌}
use native.Mathlib.Nat.{div-mul-le_self, div-add-mod'}
use native.Mathlib.Omega.{arith}
use borrow.Author.Rules.{rules}
use Rattle.rules.specs.Draw.{fraction_below}
use Rattle.draw_fraction.proofs.Cross.{whole_less, whole_more, turned}
use Rattle.draw_fraction.proofs.below_by_parts.Goals as goal

-- a whole part times its denominator stays within the numerator
whole_fits : (a b p : ℕ) → p ≡ a / b → p * b ≤ a
whole_fits a b p e = rw e (div-mul-le_self a b)

-- and leaves the remainder
whole_leaves : (a b p : ℕ) → p ≡ a / b → a - p * b ≡ a % b
whole_leaves a b p e = rw e (omega (arith, div-add-mod' a b))

-- equal whole parts: what is left over them, turned upside down
parts_turned :
    (a b c d p q : ℕ) → p ≡ a / b → q ≡ c / d → q ≤ p → p ≤ q
    → fraction_below d (c - q * d) b (a - p * b) ≡ fraction_below a b c d
parts_turned a b c d p q ep eq le ge =
    rw (whole_leaves a b p ep, whole_leaves c d q eq) (sym (turned a b c d (omega arith)))

pub returns-then-p-q : goal.returns-then-p-q
returns-then-p-q c = sym (whole_less _ _ _ _ (search rules) (search rules) (search rules))

pub returns-then-q-p : goal.returns-then-q-p
returns-then-q-p c = sym (whole_more _ _ _ _ (search rules) (search rules) (search rules))

pub returns : goal.returns
returns c = c.above.ensures ∙ parts_turned _ _ _ _ _ _ c.requires.2 c.requires.3 (search rules) (search rules)
