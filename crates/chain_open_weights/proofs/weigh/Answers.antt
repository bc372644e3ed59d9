-- `weigh` gives 21, 22 or none as its tests say, of the u and of the v that are scaled from them.
use mathlib.Core.Path.{◌≡◌, sym, ap, ◌∙◌}
use mathlib.Core.Bool.{true, false}
use mathlib.Core.List.{List}
use Prim.Native.Nat.{ℕ}
use Rattle.std.proofs.Common.{rules}
use Rattle.std.specs.Option.{is_none}
use Rattle.rules.specs.Refusals.{refuse, ◌then◌}
use Rattle.rules.specs.Lists.{any_pair}
use Rattle.rules.specs.Chain.{bad_weight, opening, weight_refusal, open_weight_refusal}
use Rattle.chain_sums.proofs.Pairs.{any_two}
use Rattle.chain_sums.proofs.Weights.{limited_told, weights_low, weights_over, weights_pass}
use Rattle.chain_open_weights.proofs.weigh.Goals as goal

-- no u is low, and the v are weighed
goes : (marks us rs vs : List ℕ) → any_pair bad_weight marks us ≡ false → vs ≡ opening us rs → weight_refusal marks vs ≡ open_weight_refusal marks us rs
unfolding refuse ◌then◌
goes marks us rs vs none scaled = ap (weight_refusal marks) scaled ∙ sym (simp none)

pub returns-then-any-clause-result_value : goal.returns-then-any-clause-result_value
unfolding refuse ◌then◌
returns-then-any-clause-result_value c = let low = any_two bad_weight c.args.marks.now c.args.u.now c.any.new.self c.any.ensures.ran (search rules) (search rules) (λ x b q k. search rules) in
    simp (sym low ∙ c.if-any.true)

pub returns-then-any-2-clause-result_value : goal.returns-then-any-2-clause-result_value
returns-then-any-2-clause-result_value c = let low = any_two bad_weight c.args.marks.now c.args.u.now c.any.new.self c.any.ensures.ran (search rules) (search rules) (λ x b q k. search rules) in
    let small = any_two bad_weight c.args.marks.now c.scale_into.new.out c.any-2.new.self c.any-2.ensures.ran (search rules) (search rules) (λ x b q k. search rules) in
    weights_low _ _ (sym small ∙ c.if-any-2.true) ∙ goes c.args.marks.now c.args.u.now c.args.a.now _ (sym low ∙ c.if-any.false) c.scale_into.ensures

pub returns-then-is_none-clause-result_value : goal.returns-then-is_none-clause-result_value
returns-then-is_none-clause-result_value c = let low = any_two bad_weight c.args.marks.now c.args.u.now c.any.new.self c.any.ensures.ran (search rules) (search rules) (λ x b q k. search rules) in
    let small = any_two bad_weight c.args.marks.now c.scale_into.new.out c.any-2.new.self c.any-2.ensures.ran (search rules) (search rules) (λ x b q k. search rules) in
    let none : is_none c.limited_sum.result ≡ true = search rules in
    weights_over _ _ (sym small ∙ c.if-any-2.false) (sym (limited_told _ _ c.limited_sum.ensures) ∙ none)
    ∙ goes c.args.marks.now c.args.u.now c.args.a.now _ (sym low ∙ c.if-any.false) c.scale_into.ensures

pub returns-clause-result_value : goal.returns-clause-result_value
returns-clause-result_value c = let low = any_two bad_weight c.args.marks.now c.args.u.now c.any.new.self c.any.ensures.ran (search rules) (search rules) (λ x b q k. search rules) in
    let small = any_two bad_weight c.args.marks.now c.scale_into.new.out c.any-2.new.self c.any-2.ensures.ran (search rules) (search rules) (λ x b q k. search rules) in
    let none : is_none c.limited_sum.result ≡ false = search rules in
    weights_pass _ _ (sym small ∙ c.if-any-2.false) (sym (limited_told _ _ c.limited_sum.ensures) ∙ none)
    ∙ goes c.args.marks.now c.args.u.now c.args.a.now _ (sym low ∙ c.if-any.false) c.scale_into.ensures
