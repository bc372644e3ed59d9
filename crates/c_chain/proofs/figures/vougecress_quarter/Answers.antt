-- `vougecress_quarter`: a short list is 19; else the record that the list holds is asked.
use mathlib.Core.Path.{ap, ◌∙◌}
use borrow.Author.Tests.{lt-ltb, le-ltb}
use lib.ListN.{length}
use Rattle.rules.specs.Refusals.{refuse, ◌then◌}
use Rattle.rules.specs.Chain.{Chain, Call, call_answer}
use Rattle.c_values.specs.Figures.{figure_from}
use Rattle.c_values.specs.Record.{record_places}
use Rattle.c_chain.specs.Record.{list_refusal, list_answer}
use Rattle.c_chain.proofs.figures.vougecress_quarter.Goals as goal

pub returns-then-lent-lt-RECORD : goal.returns-then-lent-lt-RECORD
unfolding list_refusal list_answer refuse ◌then◌
returns-then-lent-lt-RECORD c = rw (lt-ltb (length c.args.lent.now) record_places c.if-lent-lt-RECORD.true) c.from.ensures

pub returns : goal.returns
unfolding list_refusal list_answer call_answer refuse ◌then◌
returns c = let call = Call.quarter c.args.relatives.now in
    let told = c.quarter.ensures.answer_value ∙ ap (λ (r : Chain). call_answer r call) c.load.ensures in
    rw (le-ltb (length c.args.lent.now) record_places c.if-lent-lt-RECORD.false) (c.from-2.ensures ∙ ap figure_from told)
