-- What a caller in C gets for an answer: the word, or the refusal's number with a word of 0.
use Rattle.std.specs.Prelude.{ℕ}
use Rattle.rules.specs.Refusals.{Judged}
use Rattle.c_word.specs.declared.Found.{Found}

abbrev pub found_from : Judged ℕ → Found
found_from (Judged.refused n) = record { refusal = n; word = 0 }
found_from (Judged.given word) = record { refusal = 0; word = word }
