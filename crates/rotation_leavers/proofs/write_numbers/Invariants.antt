-- `write_numbers` meets its contract: the numbers of the first j units stand in front, the rest of the buffer is as it was.
use mathlib.Core.Path.{◌≡◌}
use Rattle.rules.proofs.Lists.{written_to}
use Rattle.rotation_leavers.specs.Leavers.{numbers_of}
use Rattle.rotation_leavers.proofs.write_numbers.Given as goal

abbrev pub invariant-loop-j : goal.invariant-loop-j
invariant-loop-j l = l.out ≡ written_to l.j (numbers_of l.numbers l.units) l.initial.out
