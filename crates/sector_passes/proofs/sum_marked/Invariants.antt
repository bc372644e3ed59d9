-- The values with the mark, added.
use lib.ListN.{length}
use Rattle.sector_passes.specs.Marks.{marked_as}
use Rattle.sector_passes.proofs.Summed.{Summed}
use Rattle.sector_passes.proofs.sum_marked.Given as goal

abbrev pub invariant-loop-value : goal.invariant-loop-value
invariant-loop-value l = Summed (marked_as l.still l.gone) l.values l.sum (length l.yielded)
