-- `gather` meets its contract: after as many turns the list holds the candidates of the first numbers.
use Rattle.group_border.proofs.Gathering.{At}
use Rattle.group_border.proofs.border.Border.gather.Given as goal

abbrev pub invariant-loop-number : goal.invariant-loop-number
invariant-loop-number l = At l.self.numbers.now l.self.turnovers.now l.self.marks.now l.self.keeping.threshold l.self.group.n l.self.group.rest l.skip l.list l.count l.initial.places l.places l.many l.number-index
