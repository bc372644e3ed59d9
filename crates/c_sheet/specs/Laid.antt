-- What a caller in C gets for an answer: the change and its rest, or the refusal's number with 0 for both.
use Rattle.std.specs.Prelude.{pos}
use Rattle.rules.specs.Refusals.{Judged}
use Rattle.rules.specs.Sheet.{Change}
use Rattle.c_sheet.specs.declared.Laid.{Laid}

abbrev pub laid_from : Judged Change → Laid
laid_from (Judged.refused n) = record { refusal = n; change = pos 0; rest = 0 }
laid_from (Judged.given c) = record { refusal = 0; change = c.hundredths; rest = c.rest }
