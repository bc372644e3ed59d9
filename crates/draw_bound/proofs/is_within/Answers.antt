-- The definition, its two tests in turn.
use native.Mathlib.Omega.{arith}
use Prim.Native.Nat.{ℕ, ◌*◌}
use mathlib.Core.Path.{sym, ap, ◌∙◌}
use Rattle.draw_bound.proofs.Terms.{near_is, reach_low, within_far, within_near}
use Rattle.draw_bound.proofs.is_within.Goals as goal

pub is_near-requires : goal.is_near-requires
is_near-requires c = reach_low c.key-key.ensures c.reach_of-reach.ensures c.args.keyed.now.units c.requires.unit

pub returns-else-is_near : goal.returns-else-is_near
returns-else-is_near c = c.if-is_near.false ∙ sym (within_far c.key-key.ensures c.reach_of-reach.ensures _ (sym c.is_near.ensures ∙ c.if-is_near.false))

pub overflow_mul-key : goal.overflow_mul-key
overflow_mul-key c = let close = near_is c.key-key.ensures c.reach_of-reach.ensures ∙ sym c.is_near.ensures ∙ c.if-is_near.true in
    omega (arith, ap (λ (n : ℕ). n * c.args.b.scale) c.key-key.ensures.num_is, c.requires.scale_bound close)

pub returns-then-is_near : goal.returns-then-is_near
returns-then-is_near c = let close = sym c.is_near.ensures ∙ c.if-is_near.true in
    c.is_passed.ensures ∙ within_near c.key-key.ensures c.reach_of-reach.ensures _ close
