-- The product of a state and the factor fits, since a state is below 2^31.
use mathlib.Core.Path.{refl}
use Rattle.rules.specs.Load.{stepped}
use Rattle.frame_made.proofs.step.Goals as goal

pub returns : goal.returns
unfolding stepped
returns c = refl
