-- `vougecress_year`: the year of the record that the list holds, by its contract; a list without one stays, in any other the next record is laid.
use mathlib.Core.Path.{ap, ◌∙◌}
use Prim.Native.Nat.{ℕ}
use Rattle.rules.specs.Refusals.{written}
use Rattle.rules.specs.Chain.{Chain}
use Rattle.rules.specs.Year as rules
use Rattle.rules.specs.Year.{four_calls, year_of}
use Rattle.chain.specs.Record.{record_of}
use Rattle.c_values.specs.Record.{record_list}
use Rattle.c_year.specs.declared.Year.{Year}
use Rattle.c_year.specs.Year.{year_answer, year_list}
use Rattle.c_year.proofs.Lent.{short_stays}
use Rattle.c_year.proofs.vougecress_year.Goals as goal

pub returns-then-lent-lt-RECORD : goal.returns-then-lent-lt-RECORD
returns-then-lent-lt-RECORD c =
    let calls = four_calls c.args.first.now c.args.second.now c.args.third.now c.args.last.now in
    let e = c.year_of-run.ensures ∙ ap (λ (r : Chain). year_of r calls c.args.figures.now) c.held.ensures in
    record {
      value = c.from-answer.ensures ∙ ap year_answer e;
      lent_after = short_stays c.args.lent.now c.args.first.now c.args.second.now c.args.third.now c.args.last.now c.args.figures.now c.if-lent-lt-RECORD.true;
      figures_after = ap (λ (y : rules.Year). y.figures) e;
    }

pub returns : goal.returns
returns c =
    let calls = four_calls c.args.first.now c.args.second.now c.args.third.now c.args.last.now in
    let e = c.year_of-run.ensures ∙ ap (λ (r : Chain). year_of r calls c.args.figures.now) c.held.ensures in
    let number = ap (λ (y : Year). y.refusal) c.from-answer.ensures in
    let laid = c.lay.ensures ∙ ap (λ (k : ℕ). written k (record_list (record_of c.year_of-run.result.chain)) c.args.lent.now) number in
    record {
      value = c.from-answer.ensures ∙ ap year_answer e;
      lent_after = laid ∙ ap (λ (y : rules.Year). year_list y c.args.lent.now) e;
      figures_after = ap (λ (y : rules.Year). y.figures) e;
    }
