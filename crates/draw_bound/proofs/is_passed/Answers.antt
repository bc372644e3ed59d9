-- The three cases of the definition: a lower part, the bound's own, and a higher one.
use native.Mathlib.Omega.{arith}
use borrow.Author.Tests.{lt-ltb, le-ltb, ne_eqb, eq-eqb}
use Rattle.rules.specs.Tests.{◌or◌, ◌and◌}
use Rattle.draw_bound.specs.Bound.{passes}
use Rattle.draw_bound.proofs.is_passed.Goals as goal

pub returns-then-part-b : goal.returns-then-part-b
unfolding passes ◌or◌ ◌and◌
returns-then-part-b c = rw (lt-ltb _ _ c.if-part-b.true)

pub returns-then-part-b-2 : goal.returns-then-part-b-2
unfolding passes ◌or◌ ◌and◌
returns-then-part-b-2 c = rw (le-ltb c.args.part c.args.b.part (omega arith), eq-eqb _ _ c.if-part-b-2.true)

pub returns-else-part-b-2 : goal.returns-else-part-b-2
unfolding passes ◌or◌ ◌and◌
returns-else-part-b-2 c = rw (le-ltb c.args.part c.args.b.part (omega arith), ne_eqb _ _ c.if-part-b-2.false)
