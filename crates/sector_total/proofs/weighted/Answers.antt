-- `weighted`: what is added up and what is left make the whole sum, which fits.
use native.Mathlib.Omega.{arith}
use Rattle.std.proofs.lemmas.Slice.Zip.{either_empty_from_Zip}
use Rattle.sector_total.proofs.Std.{products_more, products_none}
use Rattle.sector_total.proofs.weighted.Goals as goal

pub overflow_mul-acc : goal.overflow_mul-acc
overflow_mul-acc c = omega (arith, products_more c.in-Some.ensures.steps c.from.ensures)

pub overflow_add-acc : goal.overflow_add-acc
overflow_add-acc c = omega (arith, products_more c.in-Some.ensures.steps c.from.ensures)

pub loop-share-preserved : goal.loop-share-preserved
loop-share-preserved c = omega (arith, products_more c.in-Some.ensures.steps c.from.ensures)

pub returns : goal.returns
returns c = omega (arith, products_none (either_empty_from_Zip c.loop-share.share-iterator c.next.new.self _ c.in-None.is c.next.ensures.steps))
