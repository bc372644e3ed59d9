-- `rotate_kept` meets its contract: a refusal of 1 to 6, 30, 7, 25 or 26 stops it with the buffer whole, otherwise `turn` goes on.
use mathlib.Core.Path.{sym, ap, ◌∙◌}
use Rattle.std.proofs.lemmas.Result.{err_from_is_err_and}
use Rattle.refusals.specs.Number.{refusal_of}
use Rattle.rotation.proofs.Composition.{refused_early}
use Rattle.rotation.proofs.rotate_kept.Goals as goal

pub returns-in_err-judge : goal.returns-in_err-judge
returns-in_err-judge c =
    let p = err_from_is_err_and c.from_residual.result c.from_residual.ensures.1 in
    let early = refused_early _ _ _ _ _ _ _ _ _ c.in_err-judge.field-0.0 (sym (ap refusal_of c.in_err-judge.was) ∙ c.judge.ensures) in
    record { result_value = rw (p.1, p.2) early.0; leavers_after = early.1 }
