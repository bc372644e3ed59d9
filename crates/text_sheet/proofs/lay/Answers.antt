-- Name, figure, change and line feed one after the other; each is as long as its columns.
use mathlib.Core.Path.{◌≡◌, refl, ap, ap₂, ◌∙◌}
use Prim.Native.Nat.{ℕ}
use native.Mathlib.Omega.{arith}
use lib.IntN.{ℤ, pos, nat_abs}
use lib.Signed.{lt_z}
use mir.Syntax.{w64}
use mir.Facts.{to_z-of_z}
use Rattle.rules.specs.Limits.{name_columns, number_columns, change_decimals}
use Rattle.rules.specs.Sheet.{right_in, change_text}
use Rattle.text_decimal.proofs.Writing.{then, says}
use Rattle.text_columns.specs.Signed.{signed_text}
use Rattle.text_columns.proofs.Pieces.{left_length}
use Rattle.text_sheet.proofs.Columns.{change_text_lem, figure_columns, change_columns}
use Rattle.text_sheet.proofs.lay.Goals as goal

-- the change as it is printed, by the values that the code passes
printed : (change z : ℤ) (size : ℕ) → z ≡ change → size ≡ nat_abs z
    → right_in number_columns (signed_text (lt_z z (pos 0)) change_decimals size) ≡ right_in number_columns (change_text change)
printed change z size e f =
    ap (right_in number_columns)
    (ap₂ (λ (y : ℤ) (n : ℕ). signed_text (lt_z y (pos 0)) change_decimals n) e (f ∙ ap nat_abs e) ∙ change_text_lem change)

pub put_right-requires : goal.put_right-requires
put_right-requires c = let left = left_length name_columns c.args.name.now c.requires.0 in
    (refl, omega arith, omega arith, omega arith, omega (arith, left))

pub put_right-requires-2 : goal.put_right-requires-2
put_right-requires-2 c = let left = left_length name_columns c.args.name.now c.requires.0 in
    let wide = figure_columns c.args.new c.requires.1 in
    let same = to_z-of_z {w = w64} {z = c.args.change} c.ranges.change in
    let size = c.unsigned_abs-size.ensures.value ∙ ap nat_abs same in
    (refl, omega arith, omega (arith, size, c.requires.2), omega arith, omega (arith, left, wide))

pub byte-requires : goal.byte-requires
byte-requires c = let left = left_length name_columns c.args.name.now c.requires.0 in
    let wide = figure_columns c.args.new c.requires.1 in
    let wide-2 = change_columns c.args.change c.requires.2 in
    let same = to_z-of_z {w = w64} {z = c.args.change} c.ranges.change in
    let put = says (printed c.args.change _ _ same c.unsigned_abs-size.ensures.value) c.put_right-2.ensures in
    omega (arith, left, wide, wide-2, put.put.place)

pub returns : goal.returns
returns c =
    let same = to_z-of_z {w = w64} {z = c.args.change} c.ranges.change in
    let change = says (printed c.args.change _ _ same c.unsigned_abs-size.ensures.value) c.put_right-2.ensures in
    then c.put_left.ensures (then c.put_right.ensures (then change c.byte.ensures))
