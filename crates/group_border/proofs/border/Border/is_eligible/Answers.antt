-- `is_eligible` meets its contract: each answer rewrites the definition by the tests that were made.
use borrow.Author.Tests.{lt-ltb, eq-eqb, ne_eqb}
use Rattle.rules.specs.Tests.{◌and◌}
use Rattle.group.specs.Group.{marked}
use Rattle.group_border.specs.Border.{eligible}
use Rattle.group_border.proofs.border.Border.is_eligible.Goals as goal

pub returns-else-self-i-ne-TAKE_ALL : goal.returns-else-self-i-ne-TAKE_ALL
unfolding eligible marked ◌and◌
returns-else-self-i-ne-TAKE_ALL c = rw (lt-ltb _ _ c.requires, eq-eqb _ _ c.if-self-i-ne-TAKE_ALL.false)

pub returns-then-self-i-ne-TAKE_ALL : goal.returns-then-self-i-ne-TAKE_ALL
unfolding eligible marked ◌and◌
returns-then-self-i-ne-TAKE_ALL c = rw (lt-ltb _ _ c.requires, ne_eqb _ _ c.if-self-i-ne-TAKE_ALL.true) c.is_near.ensures
