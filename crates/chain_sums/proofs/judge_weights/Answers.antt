-- `judge_weights` gives 21, 22 or none as its two tests say.
use mathlib.Core.Path.{◌≡◌, sym, ◌∙◌}
use Rattle.std.proofs.Common.{rules}
use Rattle.std.specs.Option.{is_none}
use Rattle.rules.specs.Lists.{any_pair}
use Rattle.rules.specs.Chain.{bad_weight}
use Rattle.chain_sums.proofs.Pairs.{any_two}
use Rattle.chain_sums.proofs.Weights.{limited_told, weights_low, weights_over, weights_pass}
use Rattle.chain_sums.proofs.judge_weights.Goals as goal

pub returns-then-any : goal.returns-then-any
returns-then-any c = let low : c.any.result ≡ any_pair bad_weight c.args.marks.now c.args.weights.now = any_two bad_weight _ _ c.any.new.self c.any.ensures.ran (search rules) (search rules) (λ x b q k. search rules) in
    weights_low _ _ (sym low ∙ c.if-any.true)

pub returns-then-is_none : goal.returns-then-is_none
returns-then-is_none c = let low : c.any.result ≡ any_pair bad_weight c.args.marks.now c.args.weights.now = any_two bad_weight _ _ c.any.new.self c.any.ensures.ran (search rules) (search rules) (λ x b q k. search rules) in
    let none : is_none c.limited_sum.result ≡ mathlib.Core.Bool.true = search rules in
    weights_over _ _ (sym low ∙ c.if-any.false) (sym (limited_told _ _ c.limited_sum.ensures) ∙ none)

pub returns : goal.returns
returns c = let low : c.any.result ≡ any_pair bad_weight c.args.marks.now c.args.weights.now = any_two bad_weight _ _ c.any.new.self c.any.ensures.ran (search rules) (search rules) (λ x b q k. search rules) in
    let none : is_none c.limited_sum.result ≡ mathlib.Core.Bool.false = search rules in
    weights_pass _ _ (sym low ∙ c.if-any.false) (sym (limited_told _ _ c.limited_sum.ensures) ∙ none)
