-- The chain record as a lent list of 104 places or more: units, index, closes and links, and then its 100 weights.
use Rattle.std.specs.Prelude.{ℕ, List, ◌∷◌, get_or, take, drop, Result, Ok, Err}
use Rattle.refusals.specs.Number.{number_of}
use Rattle.refusals.specs.declared.Refusal.{Refusal}
use Rattle.rules.specs.Limits.{most_panel}
use Rattle.rules.specs.Refusals.{written}
use Rattle.rules.specs.Chain as rules
use Rattle.chain_record.specs.Record.{record_with, numbers_with}
use Rattle.chain.specs.declared.Chain.{Chain}
use Rattle.chain.specs.Record.{record_of}

abbrev pub record_places : ℕ
record_places = 104

abbrev pub record_in : List ℕ → rules.Chain
record_in xs = record_with (take most_panel (drop 4 xs)) (numbers_with (get_or xs 0 0) (get_or xs 1 0) (get_or xs 2 0) (get_or xs 3 0))

abbrev pub record_list : rules.Chain → List ℕ
record_list r = r.units ∷ r.index ∷ r.closes ∷ r.links ∷ r.weights

-- an opening answers its number alone …
abbrev pub opening_number : Result Chain Refusal → ℕ
opening_number (Ok _) = 0
opening_number (Err why) = number_of why

-- … and its record is in the lent list, which a refused one leaves as it was
abbrev pub opened_list : Result Chain Refusal → List ℕ → List ℕ
opened_list (Ok c) xs = written 0 (record_list (record_of c)) xs
opened_list (Err _) xs = xs
