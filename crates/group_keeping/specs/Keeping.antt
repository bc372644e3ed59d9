-- What a draw takes of previous draws, as the code has it, in the words of `rules`.
use Rattle.rules.specs.Kept as rules
use Rattle.group_keeping.specs.declared.Keeping.{Keeping}

abbrev pub keeping_of : Keeping → rules.Keeping
keeping_of k = rules.keeping k.threshold k.first.now k.second.now
