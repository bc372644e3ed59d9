-- A place that is found is a place of the array, and names a unit of the panel.
use mathlib.Core.Path.{refl}
use Rattle.rules.specs.Job.{step, on_relative}
use Rattle.job_state.proofs.Jobs.{relative_held_lem}
use Rattle.job_state.proofs.Steps.{refused_step, plain_step_lem}
use Rattle.job_given.proofs.Values.{beyond, among}
use borrow.Author.Rules.{rules}
use Rattle.job_given.proofs.on_relative.Goals as goal

pub returns-in_default : goal.returns-in_default
unfolding step on_relative
returns-in_default c =
    let number = beyond c.args.job c.args.place (search rules) _ c.place_in.ensures c.in_default.not-Some in
    refused_step _ _ _ _ _ _ refl _ number c.said.ensures

pub returns : goal.returns
unfolding step on_relative
returns c =
    let found = among c.args.job c.args.place (search rules) _ c.place_in.ensures _ c.in-Some.is in
    plain_step_lem _ _ _ _ _ _ refl found.accepted (relative_held_lem c.args.job c.args.place c.args.relative found.within) _ _ (cc) c.said-2.ensures
    (λ size ws. refl) refl
