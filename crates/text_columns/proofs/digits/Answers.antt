-- One more than the power of ten that the library finds.
use mathlib.Core.Path.{sym}
use native.Mathlib.Omega.{arith}
use Rattle.text_columns.proofs.Pieces.{digits_by}
use Rattle.text_columns.proofs.digits.Goals as goal

pub returns : goal.returns
returns c = sym (digits_by c.ilog10.result c.args.n (omega arith) (omega arith) (omega arith))
