-- What a caller in C gets for an answer: the count, or the refusal's number with a count of 0.
use Rattle.std.specs.Prelude.{ℕ}
use Rattle.rules.specs.Refusals.{Judged}
use Rattle.c_load.specs.declared.Loaded.{Loaded}

abbrev pub loaded_from : Judged ℕ → Loaded
loaded_from (Judged.refused n) = record { refusal = n; count = 0 }
loaded_from (Judged.given count) = record { refusal = 0; count = count }
