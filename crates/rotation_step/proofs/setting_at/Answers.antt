-- `setting_at` meets its contract: it is the definition.
use mathlib.Core.Path.{refl}
use Rattle.rules.specs.Rotation.{start_at}
use Rattle.rotation_step.proofs.setting_at.Goals as goal

pub returns : goal.returns
unfolding start_at
returns c = refl
