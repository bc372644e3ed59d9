-- The length's range, then the bytes.
use Rattle.std.proofs.Common.{rules}
use Rattle.rules.specs.Tests.{◌or◌, outside}
use Rattle.rules.specs.Sheet.{bad_name}
use Rattle.text_sheet.proofs.bad_name.Goals as goal

pub returns-then-not-contains : goal.returns-then-not-contains
unfolding bad_name outside ◌or◌
returns-then-not-contains c = search rules

pub returns-else-not-contains : goal.returns-else-not-contains
unfolding bad_name outside ◌or◌
returns-else-not-contains c = search rules
