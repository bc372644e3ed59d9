-- `key_over` meets its contract: both products are at most 10^6 × 10^12.
use native.Mathlib.Omega.{arith}
use mathlib.Core.Path.{refl}
use Rattle.draw_key.specs.Methods.{denominator_by}
use Rattle.draw_key.proofs.Keys.{taken_low}
use Rattle.draw_key.proofs.key_over.Goals as goal

pub overflow_sub-far : goal.overflow_sub-far
overflow_sub-far c = rw (c.taken_off.ensures, c.from.ensures, c.from-near.ensures) (omega (arith, taken_low c.args.method c.args.r.0, c.requires.1))

pub returns : goal.returns
unfolding denominator_by
returns c = rw (c.taken_off.ensures, c.from.ensures, c.from-near.ensures) (refl, refl)
