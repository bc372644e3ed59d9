-- The rows read so far stand at the front of the six lists (`Filling`).
use lib.ListN.{length}
use Rattle.stream_all.specs.Answer.{places_of, SameLists}
use Rattle.stream_all.proofs.Filling.{Filling}
use Rattle.stream_all.proofs.fill.Given as goal

abbrev pub invariant-commands : goal.invariant-commands
invariant-commands l = Filling l.s (places_of l.initial.places) (places_of l.places) l.t l.i × SameLists l.initial.places l.places

abbrev pub decreases-commands : goal.decreases-commands
decreases-commands l = length l.t
