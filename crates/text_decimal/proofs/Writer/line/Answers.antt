-- The start of the line, then the line feed; the exact length of the line leaves room for both.
use native.Mathlib.Omega.{arith}
use Rattle.text_decimal.proofs.Digits.{line_pieces, line_length}
use Rattle.text_decimal.proofs.Writing.{then, says}
use Rattle.text_decimal.proofs.Writer.line.Goals as goal

pub start-requires : goal.start-requires
start-requires c = omega (arith, line_length c.args.letter c.args.a)

pub byte-requires : goal.byte-requires
byte-requires c = omega (arith, line_length c.args.letter c.args.a)

pub returns : goal.returns
returns c = says (line_pieces c.args.letter c.args.a) (then c.start.ensures c.byte.ensures)
