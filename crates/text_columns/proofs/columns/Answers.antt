-- A sign is a byte; the digits are at most twenty.
use mathlib.Core.Path.{◌≡◌, refl}
use mathlib.Core.Bool.{Bool, true, false}
use lib.ListN.{length}
use mir.Val.{bool_byte}
use native.Mathlib.Omega.{arith}
use Rattle.text_decimal.proofs.Digits.{digits_length}
use Rattle.text_columns.specs.Signed.{sign_of}
use Rattle.text_columns.proofs.Pieces.{sign_length}
use Rattle.text_columns.proofs.columns.Goals as goal

sign_size : (negative : Bool) → bool_byte negative ≡ length (sign_of negative)
sign_size true = refl
sign_size false = refl

pub overflow_add-result : goal.overflow_add-result
overflow_add-result c = omega (arith, digits_length c.args.whole, sign_size c.args.negative, sign_length c.args.negative)

pub overflow_add-result-2 : goal.overflow_add-result-2
overflow_add-result-2 c = omega (arith, digits_length c.args.whole, sign_size c.args.negative, sign_length c.args.negative)

pub overflow_add-result-3 : goal.overflow_add-result-3
overflow_add-result-3 c = omega (arith, digits_length c.args.whole, sign_size c.args.negative, sign_length c.args.negative)

pub returns : goal.returns
returns c = omega (arith, sign_size c.args.negative)
