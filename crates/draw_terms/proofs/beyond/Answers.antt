-- The product by whole + 1 stays within 18 × 10^18; a numerator that reaches it has a whole part of at least whole + 1.
use native.Mathlib.Nat.{pos_of_ne-zero}
use native.Mathlib.Omega.{arith}
use Rattle.draw_terms.proofs.Terms.{product_low}
use Rattle.draw_terms.proofs.beyond.Goals as goal

pub overflow_mul-result : goal.overflow_mul-result
overflow_mul-result c = let low = product_low c.args.whole c.args.n c.args.terms.den (omega (arith, c.if-terms-ne0.true.0)) in
    omega (arith, low (c.requires.product_low (pos_of_ne-zero c.if-terms-ne0.true.1)))
