-- No kind has the command byte where it is out of range.
use mathlib.Core.Path.{◌∙◌}
use Rattle.stream_read.proofs.CommandBytes.{unknown_told}
use Rattle.stream_write.proofs.is_unknown.Goals as goal

pub returns : goal.returns
returns c = c.is_err.ensures.value ∙ unknown_told c.args.k _ c.try_from.ensures
