-- `less` meets its contract: what is left holds the turnover of the units that are still to go.
use mathlib.Core.Path.{◌≡◌, ap}
use mathlib.Core.List.{List, map}
use Prim.Native.Nat.{ℕ, ◌+◌, ◌≤◌, ◌<◌}
use native.Mathlib.Omega.{arith}
use lib.ListN.{length, get_or, drop, drop_of_length-le}
use Rattle.rules.specs.Lists.{sum}
use Rattle.rules.specs.TakeAll.{turnover}
use Rattle.rules.proofs.Lists.{drop_step}
use Rattle.group_kept.specs.Kept.{turnover_of}
use Rattle.group_kept.proofs.less.Goals as goal

-- one unit less, and none
of_step : (ts units : List ℕ) (j : ℕ) → j < length units → turnover_of ts (drop j units) ≡ turnover ts (get_or units j 0) + turnover_of ts (drop (j + 1) units)
unfolding turnover_of sum
of_step ts units j l = ap (λ (xs : List ℕ). sum (map (λ i. turnover ts i) xs)) (drop_step units j l)

of_end : (ts units : List ℕ) (j : ℕ) → length units ≤ j → turnover_of ts (drop j units) ≡ 0
unfolding turnover_of sum
of_end ts units j l = ap (λ (xs : List ℕ). sum (map (λ i. turnover ts i) xs)) (drop_of_length-le units l)

pub overflow_sub-left : goal.overflow_sub-left
overflow_sub-left c = omega (arith, c.loop-i.invariant, of_step c.args.turnovers.now c.args.units.now c.loop-i.i-index c.loop-i-test.true)

pub loop-i-preserved : goal.loop-i-preserved
loop-i-preserved c = omega (arith, c.loop-i.invariant, of_step c.args.turnovers.now c.args.units.now c.loop-i.i-index c.loop-i-test.true)

pub returns : goal.returns
returns c = omega (arith, c.loop-i.invariant, of_end c.args.turnovers.now c.args.units.now c.loop-i.i-index c.loop-i-test.false)
