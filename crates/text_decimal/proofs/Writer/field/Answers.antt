-- The space, then the digits.
use Rattle.text_decimal.proofs.Writing.{then}
use Rattle.text_decimal.proofs.Writer.field.Goals as goal

pub returns : goal.returns
returns c = then c.byte.ensures c.decimal.ensures
