-- Document 01, "Chain record", and document 02, [11]: a record of `rules` from its places and the code's numbers, and the numbers that are made.
use Rattle.std.specs.Prelude.{ℕ, ◌+◌, ◌≤◌, Bool, List, [], replicate}
use Rattle.rules.specs.Limits.{most_panel, most_closes}
use Rattle.rules.specs.Chain.{Chain, spent}
use Rattle.chain_record.specs.declared.Numbers.{Numbers}
use Rattle.chain_record.specs.declared.Record.{Record}

-- the record of these places and numbers
abbrev pub record_with : List ℕ → Numbers → Chain
record_with places n = record { weights = places; units = n.units; index = n.index; closes = n.closes; links = n.links }

-- the record that a call is lent
abbrev pub lent_record : Record → Chain
lent_record r = record_with r.places.now r.numbers

-- and back: what a record holds beside its places
abbrev pub numbers_of : Chain → Numbers
numbers_of r = record { units = r.units; index = r.index; closes = r.closes; links = r.links }

abbrev pub numbers_with : ℕ → ℕ → ℕ → ℕ → Numbers
numbers_with units index closes links = record { units = units; index = index; closes = closes; links = links }

-- a record that holds nothing: every place and number 0
abbrev pub empty_record : Chain
empty_record = record_with (replicate most_panel 0) (numbers_with 0 0 0 0)

-- an open leaves no closes and no links
abbrev pub opened_numbers : ℕ → ℕ → Numbers
opened_numbers units start = numbers_with units start 0 0

-- a renewal "takes … its link count onward": a new panel's numbers with the links made before it
abbrev pub renewed_numbers : Numbers → Numbers → Numbers
renewed_numbers opened before = numbers_with opened.units opened.index opened.closes before.links

-- a close "sets C to F … and counts one close", which is a link
abbrev pub closed_numbers : Numbers → ℕ → Numbers
closed_numbers n figure = numbers_with n.units figure (n.closes + 1) (n.links + 1)

-- one more close and one more link can be counted
abbrev pub Countable : Numbers → Type 0
Countable n = (n.closes ≤ most_closes) × (n.links ≤ most_closes)

-- 24 looks at no place
abbrev pub spent_by : Numbers → Bool
spent_by n = spent (record_with [] n)
