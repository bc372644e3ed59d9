-- The invariant: where no number fell so far, the places from i on rise from the one before if and only if the whole list rises.
use mathlib.Core.Path.{◌≡◌}
use Prim.Native.Nat.{◌-◌}
use lib.ListN.{get_or, drop}
use Rattle.rules.specs.Tests.{◌and◌}
use Rattle.rules.specs.Lists.{rising, rises_from}
use Rattle.frame.proofs.rising.Given as goal

abbrev pub invariant-loop-i : goal.invariant-loop-i
invariant-loop-i l = (l.rises and rises_from (get_or l.numbers (l.i - 1) 0) (drop l.i l.numbers)) ≡ rising l.numbers
