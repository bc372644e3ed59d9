-- `bad_weight` by the mark: no test for an absent unit, the least weight for a present one.
use mathlib.Core.Path.{sym}
use Rattle.rules.specs.Chain.{bad_weight}
use Rattle.chain_weight.proofs.Marks.{weight_present}
use Rattle.chain_weight.proofs.bad_weight.Goals as goal

pub returns-then-mark-ne0 : goal.returns-then-mark-ne0
returns-then-mark-ne0 c = sym (weight_present _ _ c.if-mark-ne0.true)

pub returns-else-mark-ne0 : goal.returns-else-mark-ne0
unfolding bad_weight
returns-else-mark-ne0 c = rw c.if-mark-ne0.false
