-- What is shared, as the code has it, in the words of `rules`.
use Rattle.rules.specs.Allocation as rules
use Rattle.sector_judge.specs.declared.Sharing.{Sharing}

abbrev pub sharing_of : Sharing → rules.Sharing
sharing_of s = rules.sharing s.interviews s.strengths.now s.minima.now
