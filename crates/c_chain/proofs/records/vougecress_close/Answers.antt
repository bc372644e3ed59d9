-- `vougecress_close`: a short list is 19 and stays; else the record that the list holds is closed, and the next one laid over it.
use mathlib.Core.Path.{ap, ◌∙◌}
use borrow.Author.Tests.{lt-ltb, le-ltb}
use lib.ListN.{length}
use Rattle.rules.specs.Refusals.{refuse, ◌then◌}
use Rattle.rules.specs.Chain.{Chain, Call, call_refusal, call_answer, figure_of, accepted, after}
use Rattle.c_values.specs.Figures.{figure_from}
use Rattle.c_values.specs.Record.{record_places, record_in}
use Rattle.c_values.proofs.Places.{figure_number, leaves}
use Rattle.c_chain.specs.Record.{list_refusal, list_answer, list_after}
use Rattle.c_chain.proofs.records.vougecress_close.Goals as goal

pub returns-then-lent-lt-RECORD : goal.returns-then-lent-lt-RECORD
unfolding list_refusal list_answer list_after refuse ◌then◌
returns-then-lent-lt-RECORD c = let short = lt-ltb (length c.args.lent.now) record_places c.if-lent-lt-RECORD.true in
    record { value = rw short c.from.ensures; lent_after = rw short }

pub returns : goal.returns
unfolding list_refusal list_answer list_after call_answer after refuse ◌then◌
returns c = let call = Call.close c.args.relatives.now in
    let n = call_refusal (record_in c.args.lent.now) call in
    let long = le-ltb (length c.args.lent.now) record_places c.if-lent-lt-RECORD.false in
    let told = c.from-figure.ensures ∙ ap figure_from (c.close-answered.ensures.answer_value ∙ ap (λ (r : Chain). call_answer r call) c.load-held.ensures) in
    let next = c.close-answered.ensures.chain_value ∙ ap (λ (r : Chain). after r call) c.load-held.ensures in
    let number = figure_number n (figure_of (record_in c.args.lent.now) c.args.relatives.now) c.from-figure.result told in
    record { value = rw long told; lent_after = rw long (leaves n (record_in c.args.lent.now) (accepted (record_in c.args.lent.now) call) c.args.lent.now number next c.lay.ensures) }
