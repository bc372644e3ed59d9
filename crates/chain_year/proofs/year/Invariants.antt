-- `year`: from here on the calls that are left come to what all four do from the beginning.
use Rattle.rules.specs.Year.{four_calls}
use Rattle.chain.specs.Record.{record_of}
use Rattle.chain_year.proofs.Stages.{Under}
use Rattle.chain_year.proofs.year.Given as goal

abbrev pub invariant-loop-count : goal.invariant-loop-count
invariant-loop-count l =
    Under (record_of l.initial.chain) l.initial.figures (four_calls l.first l.second l.third l.last) l.count (record_of l.chain) l.figures
