-- The text, then spaces up to a name's columns.
use Rattle.rules.specs.Sheet.{left_in}
use Rattle.text_decimal.proofs.Writing.{then}
use Rattle.text_columns.proofs.put_left.Goals as goal

pub returns : goal.returns
unfolding left_in
returns c = then c.bytes.ensures c.put_spaces.ensures
