-- `judge` asks 19 of the record as it is lent.
use mathlib.Core.Path.{sym, ap, ◌∙◌}
use Rattle.rules.specs.Refusals.{refuse}
use Rattle.rules.specs.Chain.{broken}
use Rattle.chain_renew.proofs.judge.Goals as goal

pub returns-then-is_broken : goal.returns-then-is_broken
unfolding refuse
returns-then-is_broken c = rw (sym (c.is_broken.ensures ∙ ap broken c.lent.ensures) ∙ c.if-is_broken.true)

pub returns : goal.returns
unfolding refuse
returns c = rw (sym (c.is_broken.ensures ∙ ap broken c.lent.ensures) ∙ c.if-is_broken.false)
