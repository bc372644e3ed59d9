-- `close_lent`: a refusal of the reckoning is the call's; of a call with a figure 21 to 24 are left, and the record is the one after a close.
use native.Mathlib.Omega.{arith}
use mathlib.Core.Path.{◌≡◌, refl, sym, ap, ap₂, ◌∙◌}
use mathlib.Core.List.{List, ◌++◌}
use Prim.Native.Nat.{ℕ}
use lib.ListN.{length, take, drop}
use lib.Seq.{length-take-le}
use borrow.Author.Rules.{rules}
use Rattle.std.proofs.lemmas.Result.{err_from_is_err_and}
use Rattle.refusals.specs.Number.{number_of}
use Rattle.refusals.specs.declared.Refusal.{Refusal}
use Rattle.refusals.proofs.Answers.{stops_by_lem}
use Rattle.rules.specs.Limits.{most_panel, relative_scale}
use Rattle.rules.specs.Lists.{scaled}
use Rattle.rules.specs.Refusals.{Judged}
use Rattle.rules.specs.Chain as rules
use Rattle.rules.specs.Chain.{Chain, Call, held, moved, weight_refusal, call_refusal}
use Rattle.rules.proofs.Refusals.{then_goes}
use Rattle.rules.proofs.Chains.{Admitted, admitted}
use Rattle.chain_record.specs.declared.Numbers.{Numbers}
use Rattle.chain_record.specs.Record.{record_with}
use Rattle.chain_record.proofs.Records.{closed_is, countable}
use Rattle.chain_figure.specs.Steps.{reckoned_of, late_refusal}
use Rattle.chain.specs.Record.{record_of}
use Rattle.chain.proofs.Calls.{refused_call, accepted_call, input_refused, passed, figure_is, close_refusal}
use Rattle.chain.proofs.Calls.{moved_places, units_fit, length_held, moved_is, products_fit, length_places, take_places}
use Rattle.chain.proofs.Chain.close_lent.Goals as goal

-- a call with a figure: 19, 9 and 13 let it pass, so that its units have places
module _ (r : Chain) (ps : List ℕ) (f : ℕ) (e : Judged.given f ≡ reckoned_of r ps) where
  admits : Admitted r ps
  admits = admitted r ps (passed r ps f e)

  module _ (places : length r.weights ≡ most_panel) where
    -- what `scale_into` asks
    long : length (held r) ≡ r.units
    long = length_held r ps places admits

    -- the new places of the record
    module _ (new : List ℕ) (scales : new ≡ scaled relative_scale r.weights ps) where
      laid_is : new ++ drop r.units r.weights ≡ moved_places r ps
      laid_is = ap (λ (l : List ℕ). l ++ drop r.units r.weights) (scales ∙ moved_is r ps places admits)

      length_laid : length (new ++ drop r.units r.weights) ≡ most_panel
      length_laid = ap length laid_is ∙ length_places r ps places admits

      moved_laid : take r.units (new ++ drop r.units r.weights) ≡ moved r ps
      moved_laid = ap (take r.units) laid_is ∙ take_places r ps places admits

      -- 21 and 22, and what follows them, of the lists as the code has them
      module _ (vs : List ℕ) (same : vs ≡ held r) where
        weights_is : weight_refusal vs (take r.units (new ++ drop r.units r.weights)) ≡ weight_refusal (held r) (moved r ps)
        weights_is = ap₂ weight_refusal same moved_laid

        weights_refused : (why : Refusal) (n : Numbers) → n.links ≡ r.links →
            number_of why ≡ weight_refusal vs (take r.units (new ++ drop r.units r.weights)) → number_of why ≡ call_refusal r (Call.close ps)
        weights_refused why n links number = stops_by_lem why _ _ (number ∙ weights_is) ∙ close_refusal r ps f e n links

        late_left : (n : Numbers) → n.links ≡ r.links → 0 ≡ weight_refusal vs (take r.units (new ++ drop r.units r.weights)) →
            late_refusal f n ≡ call_refusal r (Call.close ps)
        late_left n links none = sym (then_goes _ _ (sym (none ∙ weights_is))) ∙ close_refusal r ps f e n links

pub returns-in_err-figure : goal.returns-in_err-figure
returns-in_err-figure c = let r = record_of c.args.self.now in
    let call = Call.close c.args.p.now in
    let e = c.in_err-figure.ensures ∙ ap (λ (r : rules.Chain). reckoned_of r c.args.p.now) c.lent.ensures in
    let p = err_from_is_err_and c.from_residual.result c.from_residual.ensures.1 in
    let done = refused_call r call _ (input_refused r c.args.p.now _ call refl e) in
    record { answer_value = rw (p.1, p.2) done.0; self_after = done.1 }

pub slice_bounds-places-end : goal.slice_bounds-places-end
slice_bounds-places-end c = let r = record_of c.args.self.now in
    let e = c.in_ok-figure.ensures ∙ ap (λ (r : rules.Chain). reckoned_of r c.args.p.now) c.lent.ensures in
    units_fit r c.args.p.now (search rules) (admits r c.args.p.now _ e)

pub slice_bounds-scale_into-end-2 : goal.slice_bounds-scale_into-end-2
unfolding held
slice_bounds-scale_into-end-2 c = let r = record_of c.args.self.now in
    let e = c.in_ok-figure.ensures ∙ ap (λ (r : rules.Chain). reckoned_of r c.args.p.now) c.lent.ensures in
    sym (long r c.args.p.now _ e (search rules))

pub scale_into-requires : goal.scale_into-requires
unfolding held
scale_into-requires c = let r = record_of c.args.self.now in
    let e = c.in_ok-figure.ensures ∙ ap (λ (r : rules.Chain). reckoned_of r c.args.p.now) c.lent.ensures in
    let full : length r.weights ≡ most_panel = search rules in
    let m = admits r c.args.p.now _ e in
    let held_long = length_held r c.args.p.now full m in
    (omega (arith, units_fit r c.args.p.now full m, m.long), held_long ∙ sym m.long, products_fit r c.args.p.now full m, omega arith)

pub held-requires : goal.held-requires
held-requires c = let r = record_of c.args.self.now in
    let e = c.in_ok-figure.ensures ∙ ap (λ (r : rules.Chain). reckoned_of r c.args.p.now) c.lent.ensures in
    omega (arith, ap (λ (r : rules.Chain). r.units) c.lent-2.ensures, (admits r c.args.p.now _ e).sound.most)

pub slice_bounds-places-end-2 : goal.slice_bounds-places-end-2
slice_bounds-places-end-2 c = let r = record_of c.args.self.now in
    let e = c.in_ok-figure.ensures ∙ ap (λ (r : rules.Chain). reckoned_of r c.args.p.now) c.lent.ensures in
    let full : length r.weights ≡ most_panel = search rules in
    omega (arith, length_laid r c.args.p.now _ e full _ c.scale_into.ensures, (admits r c.args.p.now _ e).sound.most)

pub slice_bounds-judge_weights-end : goal.slice_bounds-judge_weights-end
slice_bounds-judge_weights-end c = let r = record_of c.args.self.now in
    let e = c.in_ok-figure.ensures ∙ ap (λ (r : rules.Chain). reckoned_of r c.args.p.now) c.lent.ensures in
    let full : length r.weights ≡ most_panel = search rules in
    sym (length-take-le r.units _ (omega (arith, length_laid r c.args.p.now _ e full _ c.scale_into.ensures, (admits r c.args.p.now _ e).sound.most)))

pub judge_weights-requires : goal.judge_weights-requires
judge_weights-requires c = let r = record_of c.args.self.now in
    let e = c.in_ok-figure.ensures ∙ ap (λ (r : rules.Chain). reckoned_of r c.args.p.now) c.lent.ensures in
    let full : length r.weights ≡ most_panel = search rules in
    let part = length-take-le r.units _ (omega (arith, length_laid r c.args.p.now _ e full _ c.scale_into.ensures, (admits r c.args.p.now _ e).sound.most)) in
    c.held.ensures.long ∙ ap (λ (r : rules.Chain). r.units) c.lent-2.ensures ∙ sym part

pub returns-in_err-judge_weights : goal.returns-in_err-judge_weights
returns-in_err-judge_weights c = let r = record_of c.args.self.now in
    let e = c.in_ok-figure.ensures ∙ ap (λ (r : rules.Chain). reckoned_of r c.args.p.now) c.lent.ensures in
    let full : length r.weights ≡ most_panel = search rules in
    let same = c.held.ensures.value ∙ ap held c.lent-2.ensures in
    let number = weights_refused r c.args.p.now _ e full _ c.scale_into.ensures _ same _ c.args.self.now.numbers refl c.in_err-judge_weights.ensures in
    let p = err_from_is_err_and c.from_residual-in_err-judge_weights.result c.from_residual-in_err-judge_weights.ensures.1 in
    let done = refused_call r (Call.close c.args.p.now) _ number in
    record { answer_value = rw (p.1, p.2) done.0; self_after = done.1 }

pub returns-in_err-judge_figure : goal.returns-in_err-judge_figure
returns-in_err-judge_figure c = let r = record_of c.args.self.now in
    let e = c.in_ok-figure.ensures ∙ ap (λ (r : rules.Chain). reckoned_of r c.args.p.now) c.lent.ensures in
    let full : length r.weights ≡ most_panel = search rules in
    let same = c.held.ensures.value ∙ ap held c.lent-2.ensures in
    let number = c.in_err-judge_figure.ensures ∙ late_left r c.args.p.now _ e full _ c.scale_into.ensures _ same c.args.self.now.numbers refl c.in_ok-judge_weights.ensures in
    let p = err_from_is_err_and c.from_residual-in_err-judge_figure.result c.from_residual-in_err-judge_figure.ensures.1 in
    let done = refused_call r (Call.close c.args.p.now) _ number in
    record { answer_value = rw (p.1, p.2) done.0; self_after = done.1 }

pub closed-requires : goal.closed-requires
closed-requires c = let e = c.in_ok-figure.ensures ∙ ap (λ (r : rules.Chain). reckoned_of r c.args.p.now) c.lent.ensures in
    countable _ _ (admits (record_of c.args.self.now) c.args.p.now _ e).whole

pub returns : goal.returns
returns c = let r = record_of c.args.self.now in
    let e = c.in_ok-figure.ensures ∙ ap (λ (r : rules.Chain). reckoned_of r c.args.p.now) c.lent.ensures in
    let full : length r.weights ≡ most_panel = search rules in
    let same = c.held.ensures.value ∙ ap held c.lent-2.ensures in
    let none = c.in_ok-judge_figure.ensures ∙ late_left r c.args.p.now _ e full _ c.scale_into.ensures _ same c.args.self.now.numbers refl c.in_ok-judge_weights.ensures in
    let f = figure_is r c.args.p.now _ e in
    let laid = laid_is r c.args.p.now _ e full _ c.scale_into.ensures in
    let next = ap (record_with _) c.closed.ensures ∙ closed_is r c.args.p.now _ _ laid f in
    let done = accepted_call r (Call.close c.args.p.now) _ _ (sym none) f next in
    record { answer_value = done.0; self_after = done.1 }
