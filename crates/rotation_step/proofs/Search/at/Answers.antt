-- `Search::at` meets its contract: another start asks nothing more of the units and the members.
use Rattle.rotation_step.proofs.Starts.{units_moved}
use Rattle.rotation_step.proofs.Search.at.Goals as goal

pub invariant_of-keyed : goal.invariant_of-keyed
invariant_of-keyed c = record { units = units_moved _ _ _ c.setting_at.ensures _ _ _ c.args.self.now.keyed.units }
