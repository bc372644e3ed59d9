-- After i turns the first i marks are written and the rest is as it was.
use mathlib.Core.Path.{◌≡◌, refl, sym}
use mathlib.Core.Bool.{Bool, true, false, cond}
use Prim.Native.Nat.{◌<◌}
use native.Mathlib.Omega.{arith}
use lib.ListN.{length, length-set}
use mir.Val.{bool_byte}
use Rattle.rules.specs.Selection.{listed, every}
use Rattle.selection.proofs.Sums.{count_every, written_store}
use Rattle.group_least.specs.Size.{has_least}
use Rattle.group.proofs.mark.Goals as goal

-- a mark is the byte of its test
byte_is : (b : Bool) → bool_byte b ≡ cond b 1 0
byte_is true = refl
byte_is false = refl

pub loop-i-init : goal.loop-i-init
unfolding listed
loop-i-init c = (refl, refl)

pub loop-i-preserved : goal.loop-i-preserved
unfolding has_least
loop-i-preserved c =
    let l = c.loop-i in
    let room : l.i < length c.args.marks.now = omega (arith, c.requires, c.loop-i-test.true) in (
      written_store every (λ j. cond (has_least c.args.turnovers.now c.args.least j) 1 0) _ _ l.i l.i _ refl (omega (arith, c.from.ensures, byte_is (has_least c.args.turnovers.now c.args.least l.i))) l.invariant.0 (sym (count_every _)) room,
      simp length-set l.invariant.1,
    )
