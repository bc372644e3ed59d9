-- The passes, the division and what is given, one after the other (proofs/Allotted.antt).
use Rattle.sector_sample.proofs.Allotted.{ready, dividable, wholes_are, wholes_summable, sum_fits, remainders_are, givable, counts_are}
use Rattle.sector_sample.proofs.allot.Goals as goal

pub left_by-left-requires : goal.left_by-left-requires
left_by-left-requires c = (c.requires, c.settle-gone.ensures.result_len)

pub divide-quotas-requires : goal.divide-quotas-requires
divide-quotas-requires c =
    let w = ready c.requires c.settle-gone.ensures.result_len c.settle-gone.ensures.result_value c.left_by-left.ensures.rest_value c.left_by-left.ensures.total_value in
    dividable _ _ _ _ w

pub sum_still-requires : goal.sum_still-requires
sum_still-requires c =
    let w = ready c.requires c.settle-gone.ensures.result_len c.settle-gone.ensures.result_value c.left_by-left.ensures.rest_value c.left_by-left.ensures.total_value in
    wholes_summable _ _ _ _ w _ c.divide-quotas.ensures.wholes_value

pub overflow_sub-more : goal.overflow_sub-more
overflow_sub-more c =
    let w = ready c.requires c.settle-gone.ensures.result_len c.settle-gone.ensures.result_value c.left_by-left.ensures.rest_value c.left_by-left.ensures.total_value in
    sum_fits _ _ _ _ w _ c.divide-quotas.ensures.wholes_value _ c.sum_still.ensures

pub give-requires : goal.give-requires
give-requires c =
    let w = ready c.requires c.settle-gone.ensures.result_len c.settle-gone.ensures.result_value c.left_by-left.ensures.rest_value c.left_by-left.ensures.total_value in
    let q = c.divide-quotas.ensures in
    givable _ _ _ _ w _ q.wholes_value _ c.sum_still.ensures _ _ q.remainders_value q.counts_value

pub returns : goal.returns
returns c =
    let w = ready c.requires c.settle-gone.ensures.result_len c.settle-gone.ensures.result_value c.left_by-left.ensures.rest_value c.left_by-left.ensures.total_value in
    let q = c.divide-quotas.ensures in
    record {
      counts_value = counts_are _ _ _ _ w _ q.wholes_value _ c.sum_still.ensures _ _ q.remainders_value q.counts_value _ c.give.ensures;
      wholes_value = wholes_are _ _ _ _ w _ q.wholes_value;
      remainders_value = remainders_are _ _ _ _ w _ q.wholes_value _ c.sum_still.ensures _ _ q.remainders_value q.counts_value;
    }
