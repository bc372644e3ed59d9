-- Document 02, [6]: "A year in one call", on a lent record; refusal 28.
use Rattle.std.specs.Prelude.{ℕ, List, [], ◌∷◌, length, ltb}
use Rattle.rules.specs.Limits.{year_places}
use Rattle.rules.specs.Refusals.{refuse, ◌then◌, stays, written}
use Rattle.rules.specs.Chain.{Chain, Call, relatives, figure_of, call_refusal, after}

-- "the relatives of three quarters and the close": the four calls
abbrev pub four_calls : List ℕ → List ℕ → List ℕ → List ℕ → List Call
four_calls q₁ q₂ q₃ ps = Call.quarter q₁ ∷ Call.quarter q₂ ∷ Call.quarter q₃ ∷ Call.close ps ∷ []

-- ---- "the four calls made one by one": each is handed the record that the one before it left
-- "At a refusal it stops with that number": the first refusal of calls made in turn
unfoldable pub stops_by : Chain → List Call → ℕ
stops_by r [] = 0
stops_by r (call ∷ calls) = call_refusal r call then stops_by (after r call) calls

-- the figures of the calls that are accepted before that
unfoldable pub figures_of : Chain → List Call → List ℕ
figures_of r [] = []
figures_of r (call ∷ calls) = stays (call_refusal r call) [] (figure_of r (relatives call) ∷ figures_of (after r call) calls)

-- the calls that are made: those, and the refused one
unfoldable pub up_to : Chain → List Call → List Call
up_to r [] = []
up_to r (call ∷ calls) = call ∷ stays (call_refusal r call) [] (up_to (after r call) calls)

-- the record after calls that are all made
unfoldable pub after_all : Chain → List Call → Chain
after_all r [] = r
after_all r (call ∷ calls) = after_all (after r call) calls

-- ---- the year, with so many places for its figures
-- 28: "when the figures buffer has fewer than four places, before anything else, 19 included"
unfoldable pub room_refusal : ℕ → ℕ
room_refusal places = refuse (ltb places year_places) 28

unfoldable pub year_refusal : Chain → ℕ → List Call → ℕ
year_refusal r places calls = room_refusal places then stops_by r calls

unfoldable pub year_figures : Chain → ℕ → List Call → List ℕ
year_figures r places calls = stays (room_refusal places) [] (figures_of r calls)

-- "the count of calls accepted"
abbrev pub year_count : Chain → ℕ → List Call → ℕ
year_count r places calls = length (year_figures r places calls)

-- "figures of accepted calls are in the buffer, other places stay", after a refusal too
abbrev pub year_buffer : Chain → List Call → List ℕ → List ℕ
year_buffer r calls buffer = written 0 (year_figures r (length buffer) calls) buffer

-- "and the record is unchanged" at a refusal; else it is that of the four calls
unfoldable pub year_after : Chain → ℕ → List Call → Chain
year_after r places calls = stays (year_refusal r places calls) r (after_all r calls)

-- What a year comes to: the number that stopped it, or 0, and the count; its record, and the buffer of its figures.
pub record Year : Type 0 where
  pub refusal : ℕ
  pub count : ℕ
  pub chain : Chain
  pub figures : List ℕ

abbrev pub year_of : Chain → List Call → List ℕ → Year
year_of r calls buffer =
    record {
      refusal = year_refusal r (length buffer) calls;
      count = year_count r (length buffer) calls;
      chain = year_after r (length buffer) calls;
      figures = year_buffer r calls buffer;
    }

-- "the single calls that each year came to, up to a refused one"; a year without room comes to none
unfoldable pub year_calls : Chain → ℕ → List Call → List Call
year_calls r places calls = stays (room_refusal places) [] (up_to r calls)
