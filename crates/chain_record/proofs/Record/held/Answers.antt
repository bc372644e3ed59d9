-- `held` is the first places, one for each unit.
use mathlib.Core.Path.{refl}
use Rattle.rules.specs.Chain.{held}
use Rattle.chain_record.proofs.Record.held.Goals as goal

pub returns-clause-value : goal.returns-clause-value
unfolding held
returns-clause-value c = refl
