-- `write_marked` meets its contract: after i turns the numbers of the marked units below i are written.
use Rattle.group_units.proofs.Writing.{At}
use Rattle.group_units.proofs.write_marked.Given as goal

abbrev pub invariant-loop-i : goal.invariant-loop-i
invariant-loop-i l = At l.numbers l.marks l.initial.units l.units l.many l.i
