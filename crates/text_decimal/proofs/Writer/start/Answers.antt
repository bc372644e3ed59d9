-- The letter, then the field.
use Rattle.text_decimal.proofs.Writing.{then}
use Rattle.text_decimal.proofs.Writer.start.Goals as goal

pub returns : goal.returns
returns c = then c.byte.ensures c.field.ensures
