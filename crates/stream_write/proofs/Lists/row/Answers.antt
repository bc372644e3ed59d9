-- Lists of one length have a row at each place.
use mathlib.Core.Path.{sym}
use Rattle.stream_write.proofs.Rows.{row_at}
use Rattle.stream_write.specs.Answer.{lists_of}
use Rattle.stream_write.proofs.Lists.row.Goals as goal

pub returns : goal.returns
returns c = sym (row_at (lists_of c.args.self.now) c.args.i c.requires.1)
