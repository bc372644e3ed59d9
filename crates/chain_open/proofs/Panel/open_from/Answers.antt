-- `open_from`: 21 or 22 is the opening's refusal; with neither the units' places hold the opening weights, and the others 0.
use Rattle.std.proofs.lemmas.List.{drop-replicate}
use mathlib.Core.Path.{refl, sym, ap, ap₂, ◌∙◌}
use mathlib.Core.List.{List, ◌++◌}
use Prim.Native.Nat.{ℕ}
use lib.ListN.{length}
use Rattle.std.proofs.lemmas.Result.{err_from_is_err_and}
use Rattle.refusals.proofs.Answers.{refused_by}
use Rattle.rules.specs.Limits.{most_panel}
use Rattle.rules.specs.Refusals.{Judged}
use Rattle.rules.proofs.Refusals.{judged_given}
use Rattle.chain_record.specs.Record.{record_with}
use Rattle.chain_record.proofs.Records.{opened_is}
use Rattle.chain_open.proofs.Fitting.{front}
use Rattle.chain_open.proofs.Panel.open_from.Goals as goal

pub slice_bounds-weigh-end : goal.slice_bounds-weigh-end
slice_bounds-weigh-end c = sym (front _ c.requires.1)

pub weigh-requires : goal.weigh-requires
weigh-requires c = (c.requires.0, front _ c.requires.1)

pub returns-in_err-weigh : goal.returns-in_err-weigh
returns-in_err-weigh c = let p = err_from_is_err_and c.from_residual.result c.from_residual.ensures.1 in
    rw (p.1, p.2) (refused_by _ _ c.in_err-weigh.ensures.result_value _)

pub returns : goal.returns
returns c = let n = length c.args.u.now in
    let places = ap₂ (λ (x y : List ℕ). x ++ y) (c.in_ok-weigh.ensures.v_after refl) (drop-replicate n most_panel 0) in
    let made = ap (record_with _) c.opened.ensures ∙ opened_is c.args.u.now c.args.self.now.lists.relatives.now _ c.args.start places in
    ap Judged.given made ∙ sym (judged_given _ _ (sym c.in_ok-weigh.ensures.result_value))
