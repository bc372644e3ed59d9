-- `bad_lists` asks the three tests of 9 one after the other, as the definition has them.
use Rattle.std.proofs.Common.{rules}
use Rattle.rules.specs.Tests.{◌or◌}
use Rattle.rules.specs.Chain.{bad_open_lists}
use Rattle.chain_open_input.proofs.bad_lists.Goals as goal

pub returns-then-lists : goal.returns-then-lists
unfolding bad_open_lists ◌or◌
returns-then-lists c = search rules

pub returns-else-lists : goal.returns-else-lists
unfolding bad_open_lists ◌or◌
returns-else-lists c = search rules
