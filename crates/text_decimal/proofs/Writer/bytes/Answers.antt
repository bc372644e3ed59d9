-- The part from the place at on is what was copied.
use Prim.Native.Nat.{◌+◌, ◌-◌}
use mathlib.Core.Path.{◌≡◌, refl, ap, ◌∙◌}
use lib.ListN.{length}
use native.Mathlib.Omega.{arith}
use Rattle.std.proofs.lemmas.Grind.{common_steps}
use borrow.Rule.Slice.PartMut.{put_mid}
use Rattle.text_decimal.specs.Put.{laid_at}
use Rattle.text_decimal.proofs.Laying.{as_long}
use Rattle.text_decimal.proofs.Writer.bytes.Goals as goal

pub returns : goal.returns
unfolding laid_at
returns c =
    let w = c.args.self.now in
    let text = c.args.bytes.now in
    let e : put_mid w.at (w.at + length text - w.at) w.out.now c.copy_from_slice.new.self ≡ laid_at w.at text w.out.now =
    grind (arith, common_steps, c.copy_from_slice.ensures.after) in
    record {
      put = record { place = refl; bytes = e };
      within = omega arith;
      size = ap length e ∙ as_long w.out.now text w.at (omega arith);
      same = refl;
    }
