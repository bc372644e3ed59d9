-- `vougecress_renew`: a short list is 19 and stays; else the record that the list holds is renewed, and what that leaves laid over it.
use mathlib.Core.Path.{◌≡◌, ◌∙◌}
use Rattle.std.proofs.Common.{rules}
use borrow.Author.Tests.{lt-ltb}
use lib.ListN.{length}
use Rattle.rules.specs.Refusals.{refuse, ◌then◌}
use Rattle.rules.specs.Panel.{plain}
use Rattle.rules.specs.Renewal.{renewal_refusal}
use Rattle.chain.specs.Record.{record_of}
use Rattle.c_values.specs.Record.{record_places}
use Rattle.c_renew.specs.Record.{renewed_number, renewed_list}
use Rattle.c_renew.proofs.Lays.{number_left, list_left}
use Rattle.c_renew.proofs.renewal.vougecress_renew.Goals as goal
use Rattle.c_renew.proofs.renewal.vougecress_renew.Goals.{in-Ok, in-Err}

pub returns-then-lent-lt-RECORD : goal.returns-then-lent-lt-RECORD
unfolding renewed_number renewed_list refuse ◌then◌
returns-then-lent-lt-RECORD c = let short = lt-ltb (length c.args.lent.now) record_places c.if-lent-lt-RECORD.true in
    let number : c.from.result ≡ 19 = search rules in
    record { value = rw short number; lent_after = rw short }

pub returns : goal.returns
returns c = let p = plain c.args.weights.now c.args.shares.now c.args.relatives.now in
    let number : c.match-renew_lent.refusal ≡ renewal_refusal (record_of c.load-held.result) p = elim c.match-renew_lent.branch [
      | in-Ok w ↦ w.refusal-is ∙ w.in-Ok.ensures.answer_value
      | in-Err w ↦ w.refusal-is ∙ w.from-refusal.ensures ∙ w.in-Err.ensures.answer_value
    ] in
    record {
      value = number_left p c.args.lent.now c.if-lent-lt-RECORD.false c.load-held.ensures number;
      lent_after = c.lay.ensures ∙ list_left p c.args.lent.now c.if-lent-lt-RECORD.false c.load-held.ensures number c.renew_lent.ensures.chain_after;
    }
