-- `bad_turnovers` meets its contract: a turnover that is 0 is one of the list's, and what is left falls short where the whole sum passes the limit.
use mathlib.Core.Path.{sym, ◌∙◌}
use native.Mathlib.Omega.{arith}
use Prim.Native.Nat.{◌<◌, ◌≤◌}
use lib.Dec.{eqb}
use borrow.Author.Tests.{eq-eqb, ne_eqb, lt-ltb, le-ltb}
use Rattle.rules.specs.Limits.{most_turnover}
use Rattle.rules.specs.Lists.{sum}
use Rattle.rules.specs.TakeAll.{bad_turnovers}
use Rattle.rules.proofs.Tests.{or_on, or_second, or_off}
use Rattle.rules.proofs.Lists.{sum_step, sum_end, one_found, one_next, one_none}
use Rattle.frame.proofs.bad_turnovers.Goals as goal

pub returns-then-turnover-eq0 : goal.returns-then-turnover-eq0
unfolding bad_turnovers
returns-then-turnover-eq0 c =
    sym (or_on _ _ (sym (one_found (λ t. eqb t 0) _ c.loop-turnover.turnover-index _ c.loop-turnover.invariant.1 c.loop-turnover-test.true (eq-eqb _ _ c.if-turnover-eq0.true))))

pub returns-in_default : goal.returns-in_default
unfolding bad_turnovers
returns-in_default c =
    let step = sum_step c.args.turnovers.now c.loop-turnover.turnover-index c.loop-turnover-test.true in
    let over : most_turnover < sum c.args.turnovers.now = grind (arith, step, c.loop-turnover.invariant.0, c.in_default.ensures) in
    sym (or_second _ _ (lt-ltb _ _ over))

pub loop-turnover-preserved : goal.loop-turnover-preserved
loop-turnover-preserved c = (
  omega (arith, sum_step c.args.turnovers.now c.loop-turnover.turnover-index c.loop-turnover-test.true, c.in-Some.ensures, c.loop-turnover.invariant.0),
  one_next (λ t. eqb t 0) _ c.loop-turnover.turnover-index _ c.loop-turnover.invariant.1 c.loop-turnover-test.true (ne_eqb _ _ c.if-turnover-eq0.false),
)

pub returns : goal.returns
unfolding bad_turnovers
returns c =
    let within : sum c.args.turnovers.now ≤ most_turnover = omega (arith, sum_end c.args.turnovers.now c.loop-turnover.turnover-index c.loop-turnover-test.false, c.loop-turnover.invariant.0) in
    sym (or_off _ _ (sym (one_none (λ t. eqb t 0) c.args.turnovers.now c.loop-turnover.turnover-index _ c.loop-turnover.invariant.1 c.loop-turnover-test.false)) ∙ le-ltb _ _ within)
