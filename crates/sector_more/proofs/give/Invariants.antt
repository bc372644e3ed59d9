-- After k turns the k first of the sectors that are still there have one more (`Given`).
use Rattle.rules.specs.TakeAll.{larger}
use Rattle.sector_passes.specs.Marks.{still_in}
use Rattle.sector_more.specs.Given.{Given}
use Rattle.sector_more.proofs.give.Given as goal

abbrev pub invariant-loop-place : goal.invariant-loop-place
invariant-loop-place l = Given (still_in l.gone) (larger l.remainders) l.sectors l.place-index l.initial.counts l.counts
