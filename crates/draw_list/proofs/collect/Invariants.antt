-- The units listed so far are the near ones of those looked at.
use Prim.Native.Nat.{◌≤◌}
use mathlib.Core.Path.{◌≡◌}
use lib.ListN.{length}
use Rattle.draw_key.specs.Keyed.{over}
use Rattle.draw_list.specs.Room.{list_room}
use Rattle.draw_list.specs.Found.{Listed}
use Rattle.draw_list.proofs.collect.Given as goal

abbrev pub invariant-units : goal.invariant-units
invariant-units l = (length l.units ≡ list_room) × (l.count ≤ list_room) × over Listed l.keyed l.i l.units l.count
