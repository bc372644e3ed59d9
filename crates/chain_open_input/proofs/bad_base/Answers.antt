-- `bad_base`: the sum is none exactly where it is over the limit.
use mathlib.Core.Path.{◌≡◌, sym, ◌∙◌}
use lib.Dec.{eqb}
use Rattle.std.proofs.Common.{rules}
use Rattle.std.specs.Option.{is_none}
use Rattle.rules.specs.Lists.{any_of}
use Rattle.rules.specs.Chain.{bad_base}
use Rattle.rules.proofs.Tests.{or_on, or_off}
use Rattle.chain_sums.proofs.Pairs.{any_of_is}
use Rattle.chain_sums.proofs.Weights.{limited_told}
use Rattle.chain_open_input.proofs.bad_base.Goals as goal

pub returns-then-contains : goal.returns-then-contains
unfolding bad_base
returns-then-contains c = let absent : c.contains.result ≡ any_of (λ x. eqb x 0) c.args.w.now = c.contains.ensures.value ∙ any_of_is _ _ in
    c.if-contains.true ∙ sym (or_on _ _ (sym absent ∙ c.if-contains.true))

pub returns-else-contains : goal.returns-else-contains
unfolding bad_base
returns-else-contains c = let absent : c.contains.result ≡ any_of (λ x. eqb x 0) c.args.w.now = c.contains.ensures.value ∙ any_of_is _ _ in
    let over : c.is_none.result ≡ is_none c.limited_sum.result = search rules in
    over ∙ limited_told _ _ c.limited_sum.ensures ∙ sym (or_off _ _ (sym absent ∙ c.if-contains.false))
