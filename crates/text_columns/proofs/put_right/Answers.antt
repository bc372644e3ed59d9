-- Spaces before the number, then its sign, then its digits; what is laid is as long as its columns.
use Prim.Native.Nat.{ℕ, ◌+◌, ◌/◌, ◌^◌, ◌-◌, ◌<◌, ◌≤◌}
use mathlib.Core.Path.{◌≡◌, ap}
use mathlib.Core.Bool.{Bool}
use native.Mathlib.Omega.{arith}
use lib.ListN.{length, replicate, length-append, length-replicate}
use Rattle.rules.specs.Limits.{number_columns, figure_decimals}
use Rattle.rules.specs.Sheet.{right_in, with_decimals}
use Rattle.text_decimal.specs.Put.{digits_of}
use Rattle.text_decimal.proofs.Writing.{then, says}
use Rattle.text_columns.specs.Signed.{sign_of, signed_text}
use Rattle.text_columns.proofs.Pieces.{signed_length, number_fits}
use Rattle.text_columns.proofs.put_right.Goals as goal

-- what `columns` answers is the length of the text, which fits; and where the spaces end
sized : (negative : Bool) (n unit k r : ℕ) → unit ≡ 10 ^ k → n / unit < 10000 → k ≤ figure_decimals
    → r ≡ length (sign_of negative) + (length (digits_of (n / unit)) + 1 + k) → (r ≡ length (signed_text negative k n)) × (r ≤ number_columns)
sized negative n unit k r power low few e =
    let long = rw (← power) at (signed_length negative k n) in
    let small : n / 10 ^ k < 10000 = rw (← power) low in
    let long-enough = number_fits negative k n small few in
    (omega (arith, long), omega (arith, long))

pub overflow_sub-size : goal.overflow_sub-size
overflow_sub-size c = (sized c.args.negative c.args.n c.args.unit c.args.k _ c.requires.0 c.requires.2 c.requires.3 c.columns-size.ensures).1

pub put_with_decimals-requires : goal.put_with_decimals-requires
put_with_decimals-requires c = let fit = sized c.args.negative c.args.n c.args.unit c.args.k _ c.requires.0 c.requires.2 c.requires.3 c.columns-size.ensures in
    let both = length-append (sign_of c.args.negative) (with_decimals c.args.k c.args.n) in
    let spaces = length-replicate {A = ℕ} (number_columns - c.columns-size.result) 32 in
    (c.requires.0, c.requires.1, omega (arith, fit.0, fit.1, both, spaces))

pub returns : goal.returns
unfolding right_in
returns c = let fit = sized c.args.negative c.args.n c.args.unit c.args.k _ c.requires.0 c.requires.2 c.requires.3 c.columns-size.ensures in
    let front = says (ap (λ (n : ℕ). replicate {A = ℕ} (number_columns - n) 32) fit.0) c.put_spaces.ensures in
    then front (then c.put_sign.ensures c.put_with_decimals.ensures)
