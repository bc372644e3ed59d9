-- `inner`: the whole product is floored once.
use native.Mathlib.Omega.{arith}
use Rattle.chain_share.proofs.inner.Goals as goal

pub overflow_mul-base : goal.overflow_mul-base
overflow_mul-base c = omega (arith, c.requires.0)

pub overflow_mul-result : goal.overflow_mul-result
overflow_mul-result c = rw c.from.ensures (omega (arith, c.requires.1))

pub returns : goal.returns
returns c = rw c.from.ensures
