-- After k passes the rest of them from the marks at hand is the whole (proofs/Settling.antt).
use mathlib.Core.Path.{refl, sym, ◌∙◌}
use native.Mathlib.Omega.{arith}
use Rattle.sector_passes.proofs.Settling.{pass_asks, leaves_are, stays_are, passes_start, passes_stop, passes_on, passes_end}
use Rattle.sector_passes.proofs.settle.Goals as goal

pub loop-k-init : goal.loop-k-init
loop-k-init c = record { most = omega arith; full = refl; rest = passes_start _ c.requires }

pub left_by-requires : goal.left_by-requires
left_by-requires c = (c.requires, c.loop-k.invariant.full)

pub pass-leave-requires : goal.pass-leave-requires
pass-leave-requires c = pass_asks _ c.requires _ c.loop-k.invariant.full _ _ c.left_by.ensures.rest_value c.left_by.ensures.total_value

pub returns-then-leave-eq0 : goal.returns-then-leave-eq0
returns-then-leave-eq0 c =
    let rest = c.left_by.ensures.rest_value in
    let total = c.left_by.ensures.total_value in
    let at = c.loop-k in
    let next = stays_are _ c.requires _ at.invariant.full _ _ rest total _ c.pass-leave.ensures.by_index in
    let left = leaves_are _ c.requires _ at.invariant.full _ _ rest total _ c.pass-leave.ensures.value in
    record {
      result_value = passes_stop _ c.requires _ _ at.invariant.rest _ next c.loop-k-test.true (sym left ∙ c.if-leave-eq0.true);
      result_len = c.pass-leave.auto.gone ∙ at.invariant.full;
    }

pub loop-k-preserved : goal.loop-k-preserved
loop-k-preserved c =
    let rest = c.left_by.ensures.rest_value in
    let total = c.left_by.ensures.total_value in
    let at = c.loop-k in
    let next = stays_are _ c.requires _ at.invariant.full _ _ rest total _ c.pass-leave.ensures.by_index in
    let left = leaves_are _ c.requires _ at.invariant.full _ _ rest total _ c.pass-leave.ensures.value in
    record {
      most = omega (arith, c.loop-k-test.true);
      full = c.pass-leave.auto.gone ∙ at.invariant.full;
      rest = passes_on _ c.requires _ _ at.invariant.rest _ next c.loop-k-test.true (λ e. c.if-leave-eq0.false (left ∙ e));
    }

pub returns : goal.returns
returns c = record { result_value = passes_end _ c.requires _ _ c.loop-k.invariant.rest c.loop-k-test.false; result_len = c.loop-k.invariant.full }
