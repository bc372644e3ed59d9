-- One pass; nothing is promised of what it says.
use native.Mathlib.Omega.{arith}
use Rattle.draw_bound.proofs.Terms.{reach_low}
use Rattle.draw_list.proofs.is_worth.Goals as goal

pub is_near-requires : goal.is_near-requires
is_near-requires c = reach_low c.key.ensures c.reach_of-reach.ensures c.args.keyed.now.units (omega arith)
