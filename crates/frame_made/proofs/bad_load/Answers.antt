-- The tests one after the other, as the definition has them.
use Rattle.std.proofs.Common.{rules}
use Rattle.rules.specs.Tests.{◌or◌}
use Rattle.rules.specs.Load.{bad_load}
use Rattle.frame_made.proofs.bad_load.Goals as goal

pub returns-then-turnovers-count : goal.returns-then-turnovers-count
unfolding bad_load ◌or◌
returns-then-turnovers-count c = search rules

pub returns-else-turnovers-count : goal.returns-else-turnovers-count
unfolding bad_load ◌or◌
returns-else-turnovers-count c = search rules
