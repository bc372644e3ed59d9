-- Document 01, demand 3, with document 02, [6] and [11]: what a list of quarters, closes, years and renewals came to, one after the other from an open.
use Rattle.std.specs.Prelude.{ℕ, List, [], ◌∷◌, ◌++◌}
use Rattle.rules.specs.Refusals.{Judged}
use Rattle.rules.specs.Chain.{Chain, Call, call_answer, after}
use Rattle.rules.specs.Year.{four_calls, year_calls, year_after}
use Rattle.rules.specs.Panel.{Panel}
use Rattle.rules.specs.Renewal.{renewal_answer, renewal_after}

-- A call was refused, or it was answered by a figure; a renewal was refused, or it made a new panel.
pub data Event : Type 0 where
  refused : ℕ → Event
  answered : Call → ℕ → Event
  renewed : Panel → Event

-- "The F it compares is the call's answer"
abbrev pub event_of : Call → Judged ℕ → Event
event_of call (Judged.refused n) = Event.refused n
event_of call (Judged.given f) = Event.answered call f

abbrev pub renewal_event : Panel → Judged Chain → Event
renewal_event p (Judged.refused n) = Event.refused n
renewal_event p (Judged.given r) = Event.renewed p

-- "what the rules above give when C and v are carried from the open through the accepted closes": each call is handed the record that the one before it left
unfoldable pub singles : Chain → List Call → List Event
singles r [] = []
singles r (call ∷ calls) = event_of call (call_answer r call) ∷ singles (after r call) calls

-- What may stand in a list: a quarter or a close, a year with so many places for its figures and the relatives of its four calls, or a renewal.
pub data Made : Type 0 where
  call : Call → Made
  year : ℕ → List ℕ → List ℕ → List ℕ → List ℕ → Made
  renewal : Panel → Made

-- what it came to: for a year, "as if the single calls that each year came to, up to a refused one, stood there" …
abbrev pub came_to : Chain → Made → List Event
came_to r (Made.call c) = singles r (c ∷ [])
came_to r (Made.year places q₁ q₂ q₃ ps) = singles r (year_calls r places (four_calls q₁ q₂ q₃ ps))
came_to r (Made.renewal p) = renewal_event p (renewal_answer r p) ∷ []

-- … and the record that it leaves
abbrev pub left_by : Chain → Made → Chain
left_by r (Made.call c) = after r c
left_by r (Made.year places q₁ q₂ q₃ ps) = year_after r places (four_calls q₁ q₂ q₃ ps)
left_by r (Made.renewal p) = renewal_after r p

-- a whole list, each handed the record that the one before it left
unfoldable pub events : Chain → List Made → List Event
events r [] = []
events r (made ∷ list) = came_to r made ++ events (left_by r made) list
