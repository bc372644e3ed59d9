-- One byte, or nothing.
use mathlib.Core.Path.{sym, ap}
use native.Mathlib.Omega.{arith}
use Rattle.text_decimal.proofs.Writing.{says, nothing}
use Rattle.text_columns.specs.Signed.{sign_of}
use Rattle.text_columns.proofs.put_sign.Goals as goal

pub returns-else-negative : goal.returns-else-negative
returns-else-negative c = says (sym (ap sign_of c.if-negative.false)) (nothing c.args.w.now (omega arith))
