-- The records that an open and an accepted close leave, from the places and numbers that code has: all their fields are named here, and not above.
use mathlib.Core.Path.{◌≡◌, ap}
use mathlib.Core.Bool.{false}
use mathlib.Core.List.{List, ◌++◌}
use Prim.Native.Nat.{ℕ, ◌-◌}
use native.Mathlib.Numerals.{add-one}
use lib.ListN.{length, drop, replicate}
use Rattle.rules.specs.Limits.{most_panel}
use Rattle.rules.specs.Chain.{Chain, Call, opening, open_record, moved, figure_of, accepted, broken}
use Rattle.rules.proofs.Chains.{sound}
use Rattle.chain_record.specs.declared.Numbers.{Numbers}
use Rattle.chain_record.specs.Record.{Countable, record_with, numbers_of, opened_numbers, closed_numbers}

-- the opening weights in the units' places, and 0 in the others
pub opened_is : (us rs places : List ℕ) (start : ℕ) → places ≡ opening us rs ++ replicate (most_panel - length us) 0 →
    record_with places (opened_numbers (length us) start) ≡ open_record us rs start
unfolding open_record
opened_is us rs places start e = ap (λ (l : List ℕ). record_with l (opened_numbers (length us) start)) e

-- the moved weights in the units' places, the others as they were, and the figure as the index
pub closed_is : (r : Chain) (ps places : List ℕ) (f : ℕ) → places ≡ moved r ps ++ drop r.units r.weights → f ≡ figure_of r ps →
    record_with places (closed_numbers (numbers_of r) f) ≡ accepted r (Call.close ps)
closed_is r ps places f e h = rw (e, h, add-one r.closes, add-one r.links)

-- a record that is not broken has few closes and links
pub countable : (places : List ℕ) (n : Numbers) → broken (record_with places n) ≡ false → Countable n
countable places n e = let s = sound (record_with places n) e in (s.closes, s.links)
