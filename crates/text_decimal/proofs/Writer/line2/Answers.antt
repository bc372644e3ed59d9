-- The start of the line, the second field, then the line feed; the exact length of the line leaves room for each.
use native.Mathlib.Omega.{arith}
use Rattle.text_decimal.proofs.Digits.{line2_pieces, line2_length}
use Rattle.text_decimal.proofs.Writing.{then, says}
use Rattle.text_decimal.proofs.Writer.line2.Goals as goal

pub start-requires : goal.start-requires
start-requires c = omega (arith, line2_length c.args.letter c.args.first c.args.second)

pub field-requires : goal.field-requires
field-requires c = omega (arith, line2_length c.args.letter c.args.first c.args.second)

pub byte-requires : goal.byte-requires
byte-requires c = omega (arith, line2_length c.args.letter c.args.first c.args.second)

pub returns : goal.returns
returns c = says (line2_pieces c.args.letter c.args.first c.args.second) (then (then c.start.ensures c.field.ensures) c.byte.ensures)
