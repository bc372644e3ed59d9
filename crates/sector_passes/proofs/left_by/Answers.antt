-- The two sums are those of the definitions, and fit.
use Rattle.rules.specs.Allocation.{strengths_left}
use Rattle.sector_passes.proofs.Settling.{strengths_summable, minima_summable, given_low, rest_is}
use Rattle.sector_passes.proofs.left_by.Goals as goal

pub sum_gone-requires : goal.sum_gone-requires
sum_gone-requires c = minima_summable _ c.requires.0 _ c.requires.1

pub overflow_sub-result : goal.overflow_sub-result
overflow_sub-result c = given_low _ c.requires.0 _ c.requires.1 _ c.sum_gone.ensures

pub sum_still-requires : goal.sum_still-requires
sum_still-requires c = strengths_summable _ c.requires.0 _ c.requires.1

pub returns : goal.returns
unfolding strengths_left
returns c = record { rest_value = rest_is _ c.requires.0 _ c.requires.1 _ c.sum_gone.ensures; total_value = c.sum_still.ensures }
