-- A unit is stored behind the units that are held, and one more place is named; with no place left the count names them all.
use native.Mathlib.Omega.{arith}
use mathlib.Core.Path.{refl}
use Rattle.rules.specs.Job.{step, on_unit}
use Rattle.job_state.proofs.Jobs.{unit_held_lem}
use Rattle.job_state.proofs.Steps.{refused_step, plain_step_lem}
use Rattle.job_given.proofs.Values.{full, not_full}
use borrow.Author.Rules.{rules}
use Rattle.job_given.proofs.on_unit.Goals as goal

pub returns-then-at-ge-MOST_HELD : goal.returns-then-at-ge-MOST_HELD
unfolding step on_unit
returns-then-at-ge-MOST_HELD c = refused_step _ _ _ _ _ _ refl _ (full c.args.job.frame.numbers c.args.job.frame.units (search rules) (omega arith)) c.said.ensures

pub returns : goal.returns
unfolding step on_unit
returns c = let held = unit_held_lem c.args.job c.args.number c.args.turnover c.args.random (search rules) (search rules) (search rules) in
    plain_step_lem _ _ _ _ _ _ refl (not_full c.args.job.frame.numbers c.args.job.frame.units (search rules) (omega arith)) held _ _ refl
    c.said-2.ensures (λ size ws. refl) refl
