-- The product tells whether the whole part of the terms is less than, more than or the same as that of a; alike, it is known without a division.
use mathlib.Core.Path.{sym}
use native.Mathlib.Nat.{pos_of_ne-zero}
use native.Mathlib.Omega.{arith}
use Rattle.draw_terms.proofs.Terms.{product_low, zero_least, less_than_whole, more_than_whole}
use Rattle.draw_terms.proofs.Key.below_terms.Goals as goal

pub returns-then-terms-eq0 : goal.returns-then-terms-eq0
returns-then-terms-eq0 c = sym (zero_least _ _ _ _ c.if-terms-eq0.true)

pub overflow_mul-least : goal.overflow_mul-least
overflow_mul-least c = let low = product_low c.args.self.whole c.args.n c.args.terms.den (omega (arith, c.if-n-self.false)) in
    omega (arith, low (c.requires.product_low (pos_of_ne-zero c.if-terms-eq0.false)))

pub returns-then-terms-least : goal.returns-then-terms-least
returns-then-terms-least c = sym (less_than_whole _ _ _ _ _ c.args.self.divided.den_some c.requires.den_some c.args.self.divided.whole_is c.if-terms-least.true)

pub returns-then-terms-least-2 : goal.returns-then-terms-least-2
returns-then-terms-least-2 c = sym (more_than_whole _ _ _ _ _ c.args.self.divided.den_some c.requires.den_some c.args.self.divided.whole_is c.if-terms-least.false c.if-terms-least-2.true)
