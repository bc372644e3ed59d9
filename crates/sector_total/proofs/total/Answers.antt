-- `total` refuses by 14 alone; shares that add to 1 keep the sum of products within the highest index times their scale.
use mathlib.Core.Path.{sym, ◌∙◌}
use Rattle.rules.specs.Refusals.{refuse}
use Rattle.rules.specs.Total.{total_of, total_answer}
use Rattle.sector_total.proofs.Sectors.{sound}
use Rattle.sector_total.proofs.total.Goals as goal

pub returns-then-bad_sectors : goal.returns-then-bad_sectors
unfolding total_answer refuse
returns-then-bad_sectors c = rw (sym c.bad_sectors.ensures ∙ c.if-bad_sectors.true)

pub weighted-requires : goal.weighted-requires
weighted-requires c = let s = sound _ _ (sym c.bad_sectors.ensures ∙ c.if-bad_sectors.false) in
    (s.long, s.fit)

pub returns : goal.returns
unfolding total_answer total_of refuse
returns c = rw (sym c.bad_sectors.ensures ∙ c.if-bad_sectors.false, c.weighted.ensures)
