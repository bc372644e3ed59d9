-- The four tests one after the other.
use Rattle.std.proofs.Common.{rules}
use Rattle.rules.specs.Tests.{◌or◌}
use Rattle.rules.specs.Sheet.{bad_line}
use Rattle.text_sheet.proofs.bad_line.Goals as goal

pub returns-then-bad_index-2 : goal.returns-then-bad_index-2
unfolding bad_line ◌or◌
returns-then-bad_index-2 c = search rules

pub returns-else-bad_index-2 : goal.returns-else-bad_index-2
unfolding bad_line ◌or◌
returns-else-bad_index-2 c = search rules
