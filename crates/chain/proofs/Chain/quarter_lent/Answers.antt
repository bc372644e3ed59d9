-- `quarter_lent`: a refusal of the reckoning is the call's; of a call with a figure 23 and 24 are left.
use mathlib.Core.Path.{refl, sym, ap, ◌∙◌}
use Rattle.std.proofs.lemmas.Result.{err_from_is_err_and}
use Rattle.rules.specs.Chain as rules
use Rattle.rules.specs.Chain.{Call}
use Rattle.chain_figure.specs.Steps.{reckoned_of}
use Rattle.chain.specs.Record.{record_of}
use Rattle.chain.proofs.Calls.{refused_call, accepted_call, input_refused, figure_is, quarter_refusal}
use Rattle.chain.proofs.Chain.quarter_lent.Goals as goal

pub returns-in_err-figure : goal.returns-in_err-figure
returns-in_err-figure c = let r = record_of c.args.self.now in
    let call = Call.quarter c.args.p.now in
    let e = c.in_err-figure.ensures ∙ ap (λ (r : rules.Chain). reckoned_of r c.args.p.now) c.lent.ensures in
    let p = err_from_is_err_and c.from_residual.result c.from_residual.ensures.1 in
    rw (p.1, p.2) (refused_call r call _ (input_refused r c.args.p.now _ call refl e)).0

pub returns-in_err-judge_figure : goal.returns-in_err-judge_figure
returns-in_err-judge_figure c = let r = record_of c.args.self.now in
    let e = c.in_ok-figure.ensures ∙ ap (λ (r : rules.Chain). reckoned_of r c.args.p.now) c.lent.ensures in
    let p = err_from_is_err_and c.from_residual-in_err-judge_figure.result c.from_residual-in_err-judge_figure.ensures.1 in
    rw (p.1, p.2) (refused_call r (Call.quarter c.args.p.now) _ (c.in_err-judge_figure.ensures ∙ quarter_refusal r c.args.p.now _ e c.args.self.now.numbers refl)).0

pub returns : goal.returns
returns c = let r = record_of c.args.self.now in
    let e = c.in_ok-figure.ensures ∙ ap (λ (r : rules.Chain). reckoned_of r c.args.p.now) c.lent.ensures in
    let none = c.in_ok-judge_figure.ensures ∙ quarter_refusal r c.args.p.now _ e c.args.self.now.numbers refl in
    (accepted_call r (Call.quarter c.args.p.now) _ r (sym none) (figure_is r c.args.p.now _ e) refl).0
