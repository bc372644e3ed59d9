-- Counted, then judged for room, then filled.
use Prim.Native.Nat.{ℕ}
use mathlib.Core.Path.{◌≡◌, sym, ap, ◌∙◌}
use mathlib.Core.Bool.{Bool}
use Rattle.rules.specs.Refusals.{refuse, ◌then◌}
use Rattle.rules.specs.Writing.{Lists, whole_of, too_short, read_all_refusal, read_all_answer, read_all_lists}
use Rattle.rules.proofs.Refusals.{given_tells, refused_tells}
use Rattle.refusals.specs.Number.{number_of}
use Rattle.refusals.proofs.Numbers.{number_is_suc}
use Rattle.stream_all.specs.Answer.{answer_from, places_of}
use Rattle.std.proofs.lemmas.Result.{err_from_is_err_and}
use Rattle.stream_all.proofs.Lengths.{below_as}
use Rattle.stream_all.proofs.read_all.Goals as goal

-- what was asked of n is asked of the count
asked : (l : Lists) (m n : ℕ) (r : Bool) → n ≡ m → r ≡ too_short n l → too_short m l ≡ r
asked l m n r p e = ap (λ (k : ℕ). too_short k l) (sym p) ∙ sym e

pub returns-in_err-n-clause-result_value : goal.returns-in_err-n-clause-result_value
unfolding read_all_answer read_all_refusal ◌then◌
returns-in_err-n-clause-result_value c =
    let p = err_from_is_err_and c.from_residual.result c.from_residual.ensures.1 in
    let stop : (whole_of c.args.s.now).stop ≡ number_of c.in_err-n.field-0.0 = sym (refused_tells _ _ _ (sym (ap answer_from c.in_err-n.was) ∙ c.count.ensures)) in
    rw (p.1, p.2, stop, number_is_suc c.in_err-n.field-0.0)

pub returns-in_err-n-clause-lists_after : goal.returns-in_err-n-clause-lists_after
unfolding read_all_lists read_all_refusal ◌then◌
returns-in_err-n-clause-lists_after c =
    let stop : (whole_of c.args.s.now).stop ≡ number_of c.in_err-n.field-0.0 = sym (refused_tells _ _ _ (sym (ap answer_from c.in_err-n.was) ∙ c.count.ensures)) in
    rw (stop, number_is_suc c.in_err-n.field-0.0)

pub returns-then-are_short-clause-result_value : goal.returns-then-are_short-clause-result_value
unfolding read_all_answer read_all_refusal refuse ◌then◌
returns-then-are_short-clause-result_value c =
    let counted = given_tells _ _ _ (sym (ap answer_from c.in_ok-n.was) ∙ c.count.ensures) in
    let l = places_of c.args.places.now in
    simp (counted.0, asked l _ _ _ counted.1 (c.are_short.ensures ∙ below_as _ l), c.if-are_short.true)

pub returns-then-are_short-clause-lists_after : goal.returns-then-are_short-clause-lists_after
unfolding read_all_lists read_all_refusal refuse ◌then◌
returns-then-are_short-clause-lists_after c =
    let counted = given_tells _ _ _ (sym (ap answer_from c.in_ok-n.was) ∙ c.count.ensures) in
    let l = places_of c.args.places.now in
    simp (counted.0, asked l _ _ _ counted.1 (c.are_short.ensures ∙ below_as _ l), c.if-are_short.true)

pub fill-requires : goal.fill-requires
fill-requires c =
    let counted = given_tells _ _ _ (sym (ap answer_from c.in_ok-n.was) ∙ c.count.ensures) in
    let l = places_of c.args.places.now in
    asked l _ _ _ counted.1 (c.are_short.ensures ∙ below_as _ l) ∙ c.if-are_short.false

pub returns-clause-result_value : goal.returns-clause-result_value
unfolding read_all_answer read_all_refusal refuse ◌then◌
returns-clause-result_value c =
    let counted = given_tells _ _ _ (sym (ap answer_from c.in_ok-n.was) ∙ c.count.ensures) in
    let l = places_of c.args.places.now in
    simp (counted.0, asked l _ _ _ counted.1 (c.are_short.ensures ∙ below_as _ l), c.if-are_short.false, counted.1)

pub returns-clause-lists_after : goal.returns-clause-lists_after
unfolding read_all_lists read_all_refusal refuse ◌then◌
returns-clause-lists_after c =
    let counted = given_tells _ _ _ (sym (ap answer_from c.in_ok-n.was) ∙ c.count.ensures) in
    let l = places_of c.args.places.now in
    simp (counted.0, asked l _ _ _ counted.1 (c.are_short.ensures ∙ below_as _ l), c.if-are_short.false) c.fill.ensures.lists_after
