-- `lay`: a part with room is copied, and one without is not laid.
use mathlib.Core.Path.{◌∙◌}
use native.Mathlib.Omega.{arith}
use Rattle.std.proofs.lemmas.Grind.{common_steps}
use Rattle.job_output.proofs.Fitting.{no_room, all_laid}
use Rattle.job_output.proofs.lay.Goals as goal

pub returns-then-out-at : goal.returns-then-out-at
returns-then-out-at c = (omega arith, no_room c.args.out.now c.args.text.now c.args.at c.args.count c.requires (omega arith))

pub returns-then-out-at-2 : goal.returns-then-out-at-2
returns-then-out-at-2 c = (omega arith, no_room c.args.out.now c.args.text.now c.args.at c.args.count c.requires (omega arith))

pub returns : goal.returns
returns c = (omega arith, grind (arith, common_steps, c.copy_from_slice.ensures.after) ∙ all_laid c.args.out.now c.args.text.now c.args.at c.args.count c.requires (omega arith))
