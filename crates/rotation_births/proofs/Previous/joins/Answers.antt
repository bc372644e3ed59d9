-- `Previous::joins` meets its contract: where n' × turnover reaches X' the comparison is decided, elsewhere its products fit.
use native.Mathlib.Omega.{arith}
use Rattle.draw_key.proofs.Keys.{shifted_low}
use Rattle.rotation_births.proofs.Comparison.{allowed, reach_fits, reached, left_fits, compared}
use Rattle.rotation_births.proofs.Previous.joins.Goals as goal

pub overflow_mul-reach : goal.overflow_mul-reach
overflow_mul-reach c =
    omega (arith, reach_fits _ _ _ (allowed _ _ c.requires.turnover_le_most_turnover.1) c.requires.turnover_le_most_turnover.0)

pub returns-then-self-reach : goal.returns-then-self-reach
returns-then-self-reach c =
    let ok = allowed _ _ c.requires.turnover_le_most_turnover.1 in
    let low = shifted_low c.args.self.start c.args.random c.requires.random_lt_random_range.0 in
    reached _ _ _ ok c.requires.turnover_le_most_turnover.0 _ low c.if-self-reach.true

pub overflow_mul-result : goal.overflow_mul-result
overflow_mul-result c =
    let ok = allowed _ _ c.requires.turnover_le_most_turnover.1 in
    let low = shifted_low c.args.self.start c.args.random c.requires.random_lt_random_range.0 in
    rw (c.from.ensures, c.shift-r.ensures) (omega (arith, left_fits _ _ _ ok c.requires.turnover_le_most_turnover.0 _ low))

-- below X', which is at most 10^12
pub overflow_mul-result-2 : goal.overflow_mul-result-2
overflow_mul-result-2 c = let ok = allowed _ _ c.requires.turnover_le_most_turnover.1 in rw c.from-2.ensures (omega (arith, ok.most, c.if-self-reach.false))

pub returns : goal.returns
returns c =
    let ok = allowed _ _ c.requires.turnover_le_most_turnover.1 in
    rw (c.from.ensures, c.shift-r.ensures, c.from-2.ensures) (compared _ _ _ ok c.requires.turnover_le_most_turnover.0 _)
