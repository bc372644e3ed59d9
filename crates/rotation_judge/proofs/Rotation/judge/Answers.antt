-- `Rotation::judge` meets its contract: a refused frame stops the sequence, an accepted one rises and leaves it to the lists.
use mathlib.Core.Path.{sym, ap, ◌∙◌}
use Rattle.std.proofs.lemmas.Result.{err_from_is_err_and}
use Rattle.rules.proofs.Refusals.{then_goes}
use Rattle.refusals.specs.Number.{refusal_of}
use Rattle.refusals.proofs.Answers.{stops_by_lem}
use Rattle.frame.proofs.Accepted.{accepted}
use Rattle.rotation_judge.proofs.Rotation.judge.Goals as goal

pub judge_lists-requires : goal.judge_lists-requires
judge_lists-requires c = (accepted _ _ _ (sym c.judge.ensures ∙ ap refusal_of c.in_ok-judge.was)).rises

pub returns-in_err-judge : goal.returns-in_err-judge
returns-in_err-judge c =
    let p = err_from_is_err_and c.from_residual.result c.from_residual.ensures.1 in
    rw (p.1, p.2) (stops_by_lem _ _ _ (sym (ap refusal_of c.in_err-judge.was) ∙ c.judge.ensures))

pub returns : goal.returns
returns c = c.judge_lists.ensures ∙ sym (then_goes _ _ (sym c.judge.ensures ∙ ap refusal_of c.in_ok-judge.was))
