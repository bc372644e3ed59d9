-- The bytes so far and those of what is left are all; the sum stops over the limit.
use Prim.Native.Nat.{◌+◌, ◌≤◌}
use mathlib.Core.Path.{◌≡◌}
use mathlib.Core.List.{map}
use lib.ListN.{drop}
use Rattle.rules.specs.Limits.{most_stream}
use Rattle.rules.specs.Lists.{sum}
use Rattle.rules.specs.Stream.{width_of}
use Rattle.stream_write.proofs.needed.Given as goal

abbrev pub invariant-loop-kind : goal.invariant-loop-kind
invariant-loop-kind l = (l.bytes ≤ most_stream) × (l.bytes + sum (map width_of (drop l.kind-index l.kinds)) ≡ sum (map width_of l.kinds))
