-- A refused verdict answers its number and leaves both buffers; an accepted one is what `draw_panel` asks for.
use mathlib.Core.Path.{sym, ap, ap₂, ◌∙◌}
use Prim.Native.Nat.{ℕ}
use Rattle.std.proofs.lemmas.Result.{err_from_is_err_and}
use Rattle.rules.specs.Refusals.{Judged}
use Rattle.rules.specs.Draw.{kept_draw_answer, kept_draw_numbers, kept_draw_weights}
use Rattle.refusals.specs.Number.{refusal_of}
use Rattle.refusals.proofs.Numbers.{number_is_suc}
use Rattle.draw.proofs.draw_kept.Goals as goal

pub returns-in_err-judge-clause-result_value : goal.returns-in_err-judge-clause-result_value
unfolding kept_draw_answer
returns-in_err-judge-clause-result_value c =
    let p = err_from_is_err_and c.from_residual.result c.from_residual.ensures.1 in
    rw (p.1, p.2, sym c.judge.ensures ∙ ap refusal_of c.in_err-judge.was, number_is_suc c.in_err-judge.field-0.0)

pub returns-in_err-judge-clause-panel_after : goal.returns-in_err-judge-clause-panel_after
unfolding kept_draw_numbers
returns-in_err-judge-clause-panel_after c =
    rw (sym c.judge.ensures ∙ ap refusal_of c.in_err-judge.was, number_is_suc c.in_err-judge.field-0.0)

pub returns-in_err-judge-clause-weights_after : goal.returns-in_err-judge-clause-weights_after
unfolding kept_draw_weights
returns-in_err-judge-clause-weights_after c =
    rw (sym c.judge.ensures ∙ ap refusal_of c.in_err-judge.was, number_is_suc c.in_err-judge.field-0.0)

pub returns-clause-result_value : goal.returns-clause-result_value
unfolding kept_draw_answer
returns-clause-result_value c =
    let size = c.draw_panel-n.ensures.size in
    rw (sym c.judge.ensures ∙ ap refusal_of c.in_ok-judge.was) (ap₂ (λ (n x : ℕ). Judged.given (record { sample_size = n; rest = x })) size.size_is size.rest_is)

pub returns-clause-panel_after : goal.returns-clause-panel_after
unfolding kept_draw_numbers
returns-clause-panel_after c = rw (sym c.judge.ensures ∙ ap refusal_of c.in_ok-judge.was) c.draw_panel-n.ensures.panel_after

pub returns-clause-weights_after : goal.returns-clause-weights_after
unfolding kept_draw_weights
returns-clause-weights_after c = rw (sym c.judge.ensures ∙ ap refusal_of c.in_ok-judge.was) c.draw_panel-n.ensures.weights_after
