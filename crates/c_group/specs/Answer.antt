-- The answer as the C interface gives it: the refusal's number, or 0 and the values; after a refusal every value is 0.
use Rattle.rules.specs.Refusals.{Judged}
use Rattle.rules.specs.TakeAll as groups
use Rattle.c_group.specs.declared.Taken.{Taken}

abbrev pub taken_from : Judged groups.Taken → Taken
taken_from (Judged.refused k) = record { refusal = k; q = 0; n = 0; rest = 0 }
taken_from (Judged.given t) = record { refusal = 0; q = t.size; n = t.sample_size; rest = t.rest }
