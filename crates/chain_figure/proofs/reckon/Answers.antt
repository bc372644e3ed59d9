-- `reckon`: what 19, 9 or 13 refuse is refused; a call that they let pass has a figure.
use mathlib.Core.Path.{sym}
use Rattle.std.proofs.lemmas.Result.{err_from_is_err_and}
use Rattle.refusals.proofs.Answers.{refused_by}
use Rattle.chain_figure.specs.Steps.{reckoned_of}
use Rattle.chain_figure.proofs.reckon.Goals as goal

pub returns-in_err-judge_call : goal.returns-in_err-judge_call
unfolding reckoned_of
returns-in_err-judge_call c = let p = err_from_is_err_and c.from_residual.result c.from_residual.ensures.1 in
    rw (p.1, p.2) (refused_by _ _ c.in_err-judge_call.ensures _)

pub returns : goal.returns
unfolding reckoned_of
returns c = rw (sym c.in_ok-judge_call.ensures, c.figure.ensures)
