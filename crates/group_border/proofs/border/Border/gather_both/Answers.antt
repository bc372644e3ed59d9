-- `gather_both` meets its contract: the candidates of the first list, then those of the second that do not stand in the first.
use mathlib.Core.Path.{refl}
use native.Mathlib.Omega.{arith}
use Rattle.rules.specs.Lists.{rising}
use Rattle.group_border.proofs.Both.{gathered_none, gathered_turned}
use Rattle.group_border.proofs.border.Border.gather_both.Goals as goal

pub gather-few-requires-clause-lists : goal.gather-few-requires-clause-lists
unfolding rising
gather-few-requires-clause-lists c =
    let few = c.args.self.now.first_is in
    (refl, few.rises, omega (arith, few.few, c.requires))

pub gather-few-requires-clause-gathered : goal.gather-few-requires-clause-gathered
gather-few-requires-clause-gathered c = gathered_none _ _ _ _

pub gather-requires-clause-gathered : goal.gather-requires-clause-gathered
gather-requires-clause-gathered c = gathered_turned _ _ _ _ _ _ c.gather-few.ensures.gathered_2
