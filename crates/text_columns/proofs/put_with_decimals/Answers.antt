-- The whole part, the point, the decimals; the length of the whole leaves room for each.
use Prim.Native.Nat.{ℕ, ◌/◌}
use mathlib.Core.Path.{refl, ap}
use native.Mathlib.Omega.{arith}
use Rattle.text_decimal.specs.Put.{digits_of}
use Rattle.text_decimal.proofs.Writing.{then, says}
use Rattle.text_columns.proofs.Pieces.{decimals_pieces, decimals_length, last_length}
use Rattle.text_columns.proofs.put_with_decimals.Goals as goal

pub decimal-requires : goal.decimal-requires
decimal-requires c = omega (arith, rw (← c.requires.0) at (decimals_length c.args.k c.args.n))

pub byte-requires : goal.byte-requires
byte-requires c = omega (arith, rw (← c.requires.0) at (decimals_length c.args.k c.args.n))

pub put_last_digits-w-requires : goal.put_last_digits-w-requires
put_last_digits-w-requires c = omega (arith, rw (← c.requires.0) at (decimals_length c.args.k c.args.n))

pub returns : goal.returns
returns c =
    let digits = says (ap (λ (u : ℕ). digits_of (c.args.n / u)) c.requires.0) c.decimal.ensures in
    let decimals = c.put_last_digits-w.ensures in
    let size = rw (← c.requires.0) at (decimals_length c.args.k c.args.n) in
    says (decimals_pieces c.args.k c.args.n)
    (then (then digits c.byte.ensures)
    (record { put = decimals; within = omega (arith, size, last_length c.args.k c.args.n); size = c.put_last_digits-w.auto.out; same = refl }))
