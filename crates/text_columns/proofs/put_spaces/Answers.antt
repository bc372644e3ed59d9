-- So many of a name's columns of spaces are laid.
use Rattle.rules.specs.Limits.{name_columns}
use Rattle.text_decimal.proofs.Writing.{says}
use Rattle.text_columns.proofs.Pieces.{spaces_of}
use Rattle.text_columns.proofs.put_spaces.Goals as goal

pub returns : goal.returns
returns c = says (spaces_of c.args.count name_columns c.requires.0) c.bytes.ensures
