-- The parts of the listed units so far stand in their places.
use Prim.Native.Nat.{ℕ, ◌<◌}
use mathlib.Core.Path.{◌≡◌}
use lib.ListN.{length, get_or}
use Rattle.draw_key.specs.Keyed.{over}
use Rattle.draw_bound.specs.Bound.{part_of}
use Rattle.draw_list.specs.Room.{list_room}
use Rattle.draw_list.proofs.parts_of.Given as goal

abbrev pub invariant-units : goal.invariant-units
invariant-units l = (length l.parts ≡ list_room) × ((k : ℕ) → k < l.j → get_or l.parts k 0 ≡ over part_of l.keyed l.scale (get_or l.units k 0))
