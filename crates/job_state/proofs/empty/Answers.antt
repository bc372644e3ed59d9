-- The counts are 0, so that no place of the arrays is read.
use mathlib.Core.Path.{refl}
use Rattle.rules.specs.Job.{empty_job}
use Rattle.job_state.proofs.empty.Goals as goal

pub returns : goal.returns
unfolding empty_job
returns c = (refl, refl)
