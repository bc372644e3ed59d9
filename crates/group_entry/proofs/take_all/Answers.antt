-- A refused verdict answers its number and leaves the marks; an accepted one gives the facts that the inner functions ask for.
use mathlib.Core.Path.{◌≡◌, refl, sym}
use native.Mathlib.Omega.{arith}
use Rattle.std.proofs.Common.{rules, Ok, Err}
use Rattle.rules.specs.TakeAll.{take_all_answer, take_all_marks}
use Rattle.refusals.proofs.Answers.{refused_by, written_by}
use Rattle.group.proofs.Accepted.{sized}
use Rattle.group_entry.specs.Answer.{answer_from}
use Rattle.group_entry.proofs.Accepted.{accepted}
use Rattle.group_entry.proofs.take_all.Goals as goal

-- the verdict is the definition's
pub find_group-requires : goal.find_group-requires
find_group-requires c =
    let ok = accepted _ _ _ (sym c.in_ok-judge.ensures) in
    (sized _ _ ok.units, ok.room)

pub returns-in_err-judge : goal.returns-in_err-judge
unfolding take_all_answer take_all_marks
returns-in_err-judge c =
    let told : c.from_residual.result ≡ Err c.in_err-judge.field-0.0 = search rules in
    rw told record { result_value = refused_by _ _ c.in_err-judge.ensures _; marks_after = written_by _ _ c.in_err-judge.ensures _ _ }

-- It cites `find_group` and no call behind it, so that what an edit puts there is refused for what it answers alone.
pub returns-clause-result_value : goal.returns-clause-result_value
unfolding take_all_answer
returns-clause-result_value c =
    let g = c.find_group.ensures.group in
    let given : answer_from (Ok c.find_group.result) ≡ take_all_answer c.args.turnovers.now c.args.z c.args.marks.now =
    rw (← c.in_ok-judge.ensures, ← g.size, ← g.agrees.size_is, ← g.agrees.rest_is) refl in
    grind (arith, given)

pub returns-clause-marks_after : goal.returns-clause-marks_after
unfolding take_all_marks
returns-clause-marks_after c = rw (← c.in_ok-judge.ensures) c.find_group.ensures.marks_after
