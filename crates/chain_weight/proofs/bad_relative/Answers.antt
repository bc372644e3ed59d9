-- `bad_relative` by the mark: 0 for an absent unit, and what the checking constructor says for a present one.
use mathlib.Core.Path.{◌∙◌}
use Rattle.rules.specs.Chain.{bad_relative}
use Rattle.chain_weight.proofs.Marks.{relative_present}
use Rattle.chain_weight.proofs.bad_relative.Goals as goal

pub returns-then-mark-eq0 : goal.returns-then-mark-eq0
unfolding bad_relative
returns-then-mark-eq0 c = rw c.if-mark-eq0.true

pub returns : goal.returns
returns c = c.is_err.ensures.value ∙ relative_present c.args.mark c.args.p _ c.if-mark-eq0.false c.try_from.ensures
