-- One store is a text of one byte laid.
use mathlib.Core.Path.{refl}
use lib.ListN.{length-set}
use native.Mathlib.Omega.{arith}
use Rattle.text_decimal.proofs.Laying.{stored}
use Rattle.text_decimal.proofs.Writer.byte.Goals as goal

pub returns : goal.returns
returns c =
    let w = c.args.self.now in
    record {
      put = stored w.out.now w.at c.args.b (omega arith);
      within = omega arith;
      size = length-set w.out.now w.at c.args.b;
      same = refl;
    }
