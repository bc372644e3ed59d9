-- The commands counted and those of the unread part are all; both parts stop alike.
use Prim.Native.Nat.{◌+◌, ◌≤◌}
use mathlib.Core.Path.{◌≡◌}
use lib.ListN.{length}
use Rattle.rules.specs.Writing.{whole_of, rows_read}
use Rattle.stream_all.proofs.count.Given as goal

abbrev pub invariant-commands : goal.invariant-commands
invariant-commands l = (l.n + length (rows_read l.t) ≡ length (rows_read l.s)) × ((whole_of l.t).stop ≡ (whole_of l.s).stop) × (l.n + length l.t ≤ length l.s)

abbrev pub decreases-commands : goal.decreases-commands
decreases-commands l = length l.t
