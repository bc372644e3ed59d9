-- A renewal on a chain record in a lent list: what it answers and what it leaves there.
use Rattle.std.specs.Prelude.{ℕ, List, length, ltb}
use Rattle.rules.specs.Refusals.{refuse, ◌then◌, written}
use Rattle.rules.specs.Panel.{Panel}
use Rattle.rules.specs.Renewal.{renewal_refusal, renewed_record}
use Rattle.c_values.specs.Record.{record_places, record_in, record_list}

-- a list that is too short is no record: 19, before all else
unfoldable pub renewed_number : Panel → List ℕ → ℕ
renewed_number p xs = refuse (ltb (length xs) record_places) 19 then renewal_refusal (record_in xs) p

-- the list after it: the new record in its first places, or as it was
unfoldable pub renewed_list : Panel → List ℕ → List ℕ
renewed_list p xs = written (renewed_number p xs) (record_list (renewed_record (record_in xs) p)) xs
