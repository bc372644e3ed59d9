-- A byte and then a word.
use mathlib.Core.Path.{sym}
use native.Mathlib.Omega.{arith}
use Rattle.text_decimal.proofs.Writing.{then, says}
use Rattle.stream_put.proofs.Halves.{one_byte}
use Rattle.stream_write.proofs.put_number.Goals as goal

pub returns : goal.returns
returns c = then (says (sym (one_byte c.args.size (omega arith))) c.byte.ensures) c.put_word.ensures
