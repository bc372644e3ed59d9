-- The two ends of the range, as the definition tests them.
use Rattle.std.proofs.Common.{rules}
use Rattle.rules.specs.Tests.{◌or◌, outside}
use Rattle.rules.specs.Chain.{bad_index}
use Rattle.limits.proofs.bad_index.Goals as goal

pub returns : goal.returns
unfolding bad_index outside ◌or◌
returns c = search rules
