-- After i turns the first i sectors stand in the three lists (`Laid`).
use mathlib.Core.Path.{refl}
use native.Mathlib.Omega.{arith}
use Rattle.sector_passes.specs.Marks.{still_in}
use Rattle.sector_divide.proofs.Laid.{laid_none, laid_more, laid_all}
use Rattle.sector_divide.proofs.divide.Goals as goal

pub loop-i-init : goal.loop-i-init
loop-i-init c = record {
  most = omega arith;
  asked = c.requires;
  count = laid_none _ _ _ refl;
  whole = laid_none _ _ _ refl;
  remainder = laid_none _ _ _ refl;
}

pub loop-i-preserved : goal.loop-i-preserved
unfolding still_in
loop-i-preserved c =
    let w = c.loop-i.invariant in
    let more = c.loop-i-test.true in
    let few = w.asked.places in
    record {
      most = omega (arith, more);
      asked = w.asked;
      count = laid_more _ _ few _ _ w.count _ more c.quota-part.ensures.count_value;
      whole = laid_more _ _ few _ _ w.whole _ more c.quota-part.ensures.whole_value;
      remainder = laid_more _ _ few _ _ w.remainder _ more c.quota-part.ensures.remainder_value;
    }

pub returns : goal.returns
returns c =
    let w = c.loop-i.invariant in
    let few = w.asked.places in
    let end = c.loop-i-test.false in
    record {
      counts_value = laid_all _ _ few _ _ w.count w.most end;
      wholes_value = laid_all _ _ few _ _ w.whole w.most end;
      remainders_value = laid_all _ _ few _ _ w.remainder w.most end;
    }
