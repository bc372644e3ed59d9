-- A number of units between 1 and a panel, as the definition tests it.
use Rattle.std.proofs.Common.{rules}
use Rattle.rules.specs.Tests.{◌or◌, outside}
use Rattle.rules.specs.Chain.{bad_units}
use Rattle.limits.proofs.bad_units.Goals as goal

pub returns : goal.returns
unfolding bad_units outside ◌or◌
returns c = search rules
