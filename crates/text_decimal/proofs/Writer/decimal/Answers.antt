-- The digits laid, and the place after them.
use mathlib.Core.Path.{refl}
use native.Mathlib.Omega.{arith}
use Rattle.text_decimal.proofs.Writer.decimal.Goals as goal

pub returns : goal.returns
returns c =
    let digits = c.put_digits-self.ensures in
    record { put = digits; within = omega arith; size = c.put_digits-self.auto.out; same = refl }
