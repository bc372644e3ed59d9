-- The previous draw's n' and X' and the births as the code has them, in the words of `rules`.
use Rattle.rules.specs.Rotation.{Births, born}
use Rattle.rotation_births.specs.declared.Candidates.{Candidates}

abbrev pub births_of : Candidates → Births
births_of c = born c.previous.n c.previous.rest c.births.now
