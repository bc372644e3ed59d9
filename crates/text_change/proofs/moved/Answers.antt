-- The library's quotient and rest of the change's ten thousandfold (`euclid`), which 64 bits hold.
use Prim.Native.Nat.{ℕ, ◌≤◌}
use mathlib.Core.Path.{◌≡◌, sym, ap, ap₂, subst, ◌∙◌}
use native.Mathlib.Omega.{arith}
use lib.IntN.{ℤ, pos, nat_abs, ◌-ℤ◌, ◌*ℤ◌}
use Rattle.std.specs.Int.{int_div_euclid, int_rem_euclid}
use Rattle.std.proofs.lemmas.Int.{ints}
use Rattle.rules.specs.Limits.{change_scale}
use Rattle.rules.specs.Sheet.{Change, divided_by, change_of}
use Rattle.text_change.specs.Values.{most_change}
use Rattle.text_change.proofs.Quotient.{euclid}
use Rattle.text_change.proofs.Sizes.{change_sized}
use Rattle.text_change.proofs.moved.Goals as goal

-- of a change that 64 bits hold as the library's quotient and rest
held : (d : ℕ) (z h q r : ℤ) (k : ℕ) → h ≡ q → k ≡ nat_abs r → q ≡ int_div_euclid z (pos d) → r ≡ int_rem_euclid z (pos d) → record { hundredths = h; rest = k } ≡ divided_by d z
held d z h q r k same kept quotient rest = ap₂ (λ (a : ℤ) (b : ℕ). record { hundredths = a; rest = b }) same kept ∙ euclid d z q r quotient rest

pub returns-clause-result_value : goal.returns-clause-result_value
unfolding change_of
returns-clause-result_value c =
    held c.args.old ((pos c.args.new -ℤ pos c.args.old) *ℤ pos change_scale) _ c.div_euclid.result c.rem_euclid.result _
    (omega (arith, ints, c.div_euclid.type_inv))
    (omega (arith, ints, c.rem_euclid.type_inv))
    (search (arith, ints, c.div_euclid.ensures, c.scaled-n.ensures))
    (search (arith, ints, c.rem_euclid.ensures.value, c.scaled-n.ensures))

pub returns-clause-sized : goal.returns-clause-sized
returns-clause-sized c =
    let same = ap (λ (change : Change). nat_abs change.hundredths) (returns-clause-result_value c) in
    subst (λ (n : ℕ). n ≤ most_change) (sym same) (change_sized c.args.new c.args.old c.requires.0 c.requires.1)
