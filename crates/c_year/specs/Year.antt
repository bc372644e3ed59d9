-- Document 02, [6]: a year on a chain record in a lent list, what it answers and what it leaves there.
use Rattle.std.specs.Prelude.{ℕ, cond, List, length, ltb}
use Rattle.refusals.specs.Number.{refusal_of}
use Rattle.rules.specs.Refusals.{written}
use Rattle.rules.specs.Chain.{Chain, Call}
use Rattle.rules.specs.Year as rules
use Rattle.rules.specs.Year.{year_of}
use Rattle.chain_record.specs.Record.{empty_record}
use Rattle.chain_year.specs.declared.Came.{Came}
use Rattle.c_values.specs.Record.{record_places, record_in, record_list}
use Rattle.c_year.specs.declared.Year.{Year}

-- a list that is too short holds no record, and its year is refused by 19, after 28
unfoldable pub lent_record : List ℕ → Chain
lent_record xs = cond (ltb (length xs) record_places) empty_record (record_in xs)

abbrev pub lent_year : List ℕ → List Call → List ℕ → rules.Year
lent_year xs calls buffer = year_of (lent_record xs) calls buffer

-- the answer: the number and the count
abbrev pub year_answer : rules.Year → Year
year_answer y = record { refusal = y.refusal; count = y.count }

abbrev pub year_from : Came → Year
year_from came = record { refusal = refusal_of came.verdict; count = came.count }

-- the list after a year: the next record in its first places, or as it was
abbrev pub year_list : rules.Year → List ℕ → List ℕ
year_list y xs = written y.refusal (record_list y.chain) xs
