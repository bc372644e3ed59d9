-- The two ends of the range, as `outside` tests them.
use Rattle.std.proofs.Common.{rules}
use Rattle.rules.specs.Tests.{◌or◌, outside}
use Rattle.text_sheet.proofs.unprintable.Goals as goal

pub returns : goal.returns
unfolding outside ◌or◌
returns c = search rules
