-- The joint between demand 3 and the contracts of quarter, close, year and renewal: a list of calls as a program answers it.
use Rattle.std.specs.Prelude.{ℕ, zero, suc, ◌≡◌, List, [], ◌∷◌, ◌++◌}
use Rattle.rules.specs.Refusals.{stays}
use Rattle.rules.specs.Chain.{Chain, Call}
use Rattle.rules.specs.Year.{room_refusal}
use Rattle.rules.specs.Events.{Event, Made, came_to, left_by}

-- What a contract says of the record r that is handed in, of what came of it and of the record s that is handed back.
pub record Met (r : Chain) (made : Made) (came : List Event) (s : Chain) : Type 0 where
  pub answers : came ≡ came_to r made
  pub left : s ≡ left_by r made

-- Calls made one after the other from a record, each handed the record that the call before it handed back, and what they came to.
pub data Trace : Chain → List Made → List Event → Type 0 where
  done : {r : Chain} → Trace r [] []
  next : {r s : Chain} {made : Made} {came : List Event} {list : List Made} {later : List Event} →
      Met r made came s → Trace s list later → Trace r (made ∷ list) (came ++ later)

-- What calls made in turn came to, by the figures of those that were accepted and the number that stopped them, or 0 …
abbrev pub told : List Call → ℕ → List ℕ → List Event
told [] n fs = []
told (call ∷ calls) n (f ∷ fs) = Event.answered call f ∷ told calls n fs
told (call ∷ calls) zero [] = []
told (call ∷ calls) (suc n) [] = Event.refused (suc n) ∷ []

-- … and what a year of those calls came to, as a caller reads it who lent so many places for the figures
abbrev pub year_told : ℕ → List Call → ℕ → List ℕ → List Event
year_told places calls n fs = stays (room_refusal places) [] (told calls n fs)
