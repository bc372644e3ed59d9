-- `renew_lent`: as `renew`; the number that it answers is the answer's, and the record is what the opening leaves of it.
use mathlib.Core.Path.{◌≡◌, sym, ◌∙◌}
use Rattle.std.proofs.lemmas.Result.{err_from_is_err_and}
use Rattle.refusals.specs.Number.{refusal_of}
use Rattle.rules.specs.Renewal.{renewal_refusal, renewed_record, renewal_answer}
use Rattle.rules.proofs.Refusals.{given_tells, refused_tells}
use Rattle.chain.specs.Record.{record_of}
use Rattle.chain_open.specs.Panel.{panel_of}
use Rattle.chain_renew.proofs.Onward.{broken_refused, carries_on}
use Rattle.chain_renew.proofs.renew_lent.Goals as goal

pub returns-in_err-judge : goal.returns-in_err-judge
unfolding renewal_answer
returns-in_err-judge c = let r = record_of c.args.chain.now in
    let p = panel_of c.args.panel.now in
    let told = err_from_is_err_and c.from_residual.result c.from_residual.ensures.1 in
    let done = broken_refused r p _ c.in_err-judge.ensures in
    let number : refusal_of c.from_residual.result ≡ renewal_refusal r p = rw (told.1, told.2) (refused_tells (renewal_refusal r p) _ (renewed_record r p) done.0) in
    record { answer_value = number; chain_after = done.1 }

pub returns-in_err-opened : goal.returns-in_err-opened
unfolding renewal_answer
returns-in_err-opened c = let r = record_of c.args.chain.now in
    let p = panel_of c.args.panel.now in
    let told = err_from_is_err_and c.from_residual-in_err-opened.result c.from_residual-in_err-opened.ensures.1 in
    let on = carries_on r p c.in_ok-judge.ensures _ c.in_err-opened.ensures in
    let number : refusal_of c.from_residual-in_err-opened.result ≡ renewal_refusal r p = rw (told.1, told.2) (refused_tells (renewal_refusal r p) _ (renewed_record r p) on.0) in
    record { answer_value = number; chain_after = on.1 }

pub returns : goal.returns
unfolding renewal_answer
returns c = let r = record_of c.args.chain.now in
    let p = panel_of c.args.panel.now in
    let on = carries_on r p c.in_ok-judge.ensures _ c.in_ok-opened.ensures in
    record { answer_value = sym (given_tells (renewal_refusal r p) (renewed_record r p) _ on.0).0; chain_after = c.carried.ensures ∙ on.1 }
