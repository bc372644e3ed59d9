-- `less` meets its contract: what is left holds the turnover of the units that are still to go.
use mathlib.Core.Path.{◌≡◌}
use Prim.Native.Nat.{◌+◌, ◌-◌}
use lib.ListN.{drop}
use Rattle.group_kept.specs.Kept.{turnover_of}
use Rattle.group_kept.proofs.less.Given as goal

abbrev pub invariant-loop-i : goal.invariant-loop-i
invariant-loop-i l = l.left ≡ l.rest - turnover_of l.turnovers l.units + turnover_of l.turnovers (drop l.i-index l.units)
