-- `renew`: a broken record is 19; else the renewal is what `carried` makes of the opening at C. The record after it follows from the answer.
use mathlib.Core.Path.{◌≡◌, ap, ◌∙◌}
use Rattle.std.specs.Prelude.{Ok}
use Rattle.std.proofs.lemmas.Result.{err_from_is_err_and}
use Rattle.rules.specs.Refusals.{Judged}
use Rattle.rules.specs.Renewal.{renewal_answer}
use Rattle.chain.specs.Record.{record_of}
use Rattle.chain_open.specs.Opened.{opening_of}
use Rattle.chain_open.specs.Panel.{panel_of}
use Rattle.chain_renew.proofs.Onward.{broken_refused, carries_on, after_is}
use Rattle.chain_renew.proofs.renew.Goals as goal

pub returns-in_err-judge : goal.returns-in_err-judge
returns-in_err-judge c = let p = panel_of c.args.panel.now in
    let told = err_from_is_err_and c.from_residual.result c.from_residual.ensures.1 in
    let e : opening_of c.from_residual.result ≡ renewal_answer (record_of c.args.chain) p = rw (told.1, told.2) (broken_refused (record_of c.args.chain) p _ c.in_err-judge.ensures).0 in
    record { result_value = e; chain_value = after_is p c.args.chain _ e }

pub returns-in_err-opened : goal.returns-in_err-opened
returns-in_err-opened c = let p = panel_of c.args.panel.now in
    let told = err_from_is_err_and c.from_residual-in_err-opened.result c.from_residual-in_err-opened.ensures.1 in
    let e : opening_of c.from_residual-in_err-opened.result ≡ renewal_answer (record_of c.args.chain) p =
    rw (told.1, told.2) (carries_on (record_of c.args.chain) p c.in_ok-judge.ensures _ c.in_err-opened.ensures).0 in
    record { result_value = e; chain_value = after_is p c.args.chain _ e }

pub returns : goal.returns
returns c = let p = panel_of c.args.panel.now in
    let e = ap Judged.given c.carried.ensures ∙ (carries_on (record_of c.args.chain) p c.in_ok-judge.ensures _ c.in_ok-opened.ensures).0 in
    record { result_value = e; chain_value = after_is p c.args.chain (Ok c.carried.result) e }
