-- The parts of the listed units so far stand in their places.
use native.Mathlib.Omega.{arith}
use mathlib.Core.Path.{sym}
use Prim.Native.Nat.{◌<◌}
use lib.ListN.{length, length-set}
use Rattle.rules.proofs.Lists.{filled_more}
use Rattle.draw_bound.proofs.Terms.{part_is}
use Rattle.draw_list.proofs.parts_of.Goals as goal

pub units-preserved : goal.units-preserved
units-preserved c =
    let inv = c.units.invariant in
    let room : c.units.j < length c.units.parts = omega (arith, c.units-test.true, c.requires.units.1, inv.0) in
    (simp length-set inv.0, filled_more _ c.units.parts c.units.j _ room (sym (part_is c.key-key.ensures c.args.scale)) inv.1)
