-- `Search::first_step` meets its contract: no step before k was enough, so the smallest is the smallest from k on.
use mathlib.Core.Path.{◌≡◌, refl, sym, ◌∙◌}
use Prim.Native.Nat.{◌<◌}
use native.Mathlib.Omega.{arith}
use Rattle.rules.specs.Limits.{steps}
use Rattle.selection.proofs.Least.{least_hit, least_miss, least_end}
use Rattle.rotation_step.specs.Leaving.{first_step}
use Rattle.rotation_step.proofs.Starts.{enough, too_few}
use Rattle.rotation_step.proofs.Search.first_step.Goals as goal

pub loop-k-init : goal.loop-k-init
unfolding first_step
loop-k-init c = refl

pub returns-then-need-leaving-clause-value : goal.returns-then-need-leaving-clause-value
returns-then-need-leaving-clause-value c =
    let l = c.loop-k in
    let hit = enough _ l.k _ c.at.ensures _ _ c.leaving.ensures c.if-need-leaving.true in
    let below : l.k < steps = omega (arith, c.loop-k-test.true) in
    sym (l.invariant ∙ least_hit _ steps l.k below hit)

pub loop-k-preserved : goal.loop-k-preserved
loop-k-preserved c =
    let l = c.loop-k in
    let miss = too_few _ l.k _ c.at.ensures _ _ c.leaving.ensures c.if-need-leaving.false in
    let below : l.k < steps = omega (arith, c.loop-k-test.true) in
    l.invariant ∙ least_miss _ steps l.k below miss

pub returns-clause-value : goal.returns-clause-value
returns-clause-value c =
    let l = c.loop-k in
    let last : l.k ≡ steps = omega arith in
    sym (l.invariant ∙ least_end _ steps l.k c.loop-k-test.false ∙ last)
