-- After as many turns count and turnover are those of the first units.
use Rattle.group_least.proofs.Counted.{Counted}
use Rattle.group_least.proofs.reached.Given as goal

abbrev pub invariant-loop-unit : goal.invariant-loop-unit
invariant-loop-unit l = Counted l.turnovers l.least l.count l.turnover l.unit-index
