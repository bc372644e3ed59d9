-- What a caller in C gets for an answer: the length or the count, or the refusal's number with a 0 beside it.
use Rattle.std.specs.Prelude.{ℕ}
use Rattle.rules.specs.Refusals.{Judged}
use Rattle.c_write.specs.declared.Written.{Written}
use Rattle.c_write.specs.declared.Listed.{Listed}

abbrev pub written_from : Judged ℕ → Written
written_from (Judged.refused n) = record { refusal = n; length = 0 }
written_from (Judged.given bytes) = record { refusal = 0; length = bytes }

abbrev pub listed_from : Judged ℕ → Listed
listed_from (Judged.refused n) = record { refusal = n; count = 0 }
listed_from (Judged.given commands) = record { refusal = 0; count = commands }
