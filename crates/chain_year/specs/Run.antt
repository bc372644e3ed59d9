-- Document 02, [6]: what the code's year has come to.
use Rattle.std.specs.Prelude.{ℕ, List}
use Rattle.refusals.specs.Number.{refusal_of}
use Rattle.rules.specs.Year.{Year}
use Rattle.chain.specs.declared.Chain.{Chain}
use Rattle.chain.specs.Record.{record_of}
use Rattle.chain_year.specs.declared.Came.{Came}
use Rattle.chain_year.specs.declared.Run.{Run}

-- what a year has come to, by the code's answer and record and by its buffer
abbrev pub year_with : Came → Chain → List ℕ → Year
year_with came chain figures = record { refusal = refusal_of came.verdict; count = came.count; chain = record_of chain; figures = figures }

abbrev pub year_in : Run → List ℕ → Year
year_in run figures = year_with run.came run.chain figures
