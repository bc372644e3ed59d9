-- A year (specs/Year.antt): worked cases of document 02, [6], by computing the definitions, and laws of what its calls leave.
use mathlib.Core.Path.{◌≡◌, refl}
use mathlib.Core.List.{List, [], ◌∷◌}
use Prim.Native.Nat.{ℕ, zero, suc}
use native.Mathlib.Omega.{arith}
use Rattle.rules.specs.Tests.{◌or◌, outside}
use Rattle.rules.specs.Refusals.{refuse, ◌then◌, stays}
use Rattle.rules.specs.Lists.{sum, products, scaled, any_of, any_pair}
use Rattle.rules.specs.Chain.{Chain, Call, held, bad_index, bad_relative, bad_weight, bad_units, weight_refusal, link, figure_at, bad_links, broken, call_input_refusal, figure_refusal, call_refusal, call_answer, after}
use Rattle.rules.specs.Year.{four_calls, stops_by, figures_of, up_to, after_all, room_refusal, year_refusal, year_figures, year_after, Year, year_of, year_calls}
use Rattle.rules.specs.Events.{Event, Made, singles, events}

-- ---- worked cases: one unit with v of 2,000,000
abbrev one : ℕ → List ℕ
one p = p ∷ []

abbrev single : ℕ → ℕ → Chain
single c closes = record { weights = one 2000000; units = 1; index = c; closes = closes; links = closes }

abbrev sevens : List ℕ
sevens = 7 ∷ 7 ∷ 7 ∷ 7 ∷ 7 ∷ []

abbrev year : Chain → List ℕ → List ℕ → List ℕ → List ℕ → List ℕ → Year
year r q₁ q₂ q₃ ps buffer = year_of r (four_calls q₁ q₂ q₃ ps) buffer

abbrev comes_to : ℕ → ℕ → List ℕ → Chain → Year
comes_to n k fs r = record { refusal = n; count = k; chain = r; figures = fs }

record Years : Type 0 where
  -- the four figures in the first four places, and the close's record
  accepted : year (single 1000000000 0) (one 101000) (one 102000) (one 103000) (one 104000) sevens ≡
      comes_to 0 4 (1010000000 ∷ 1020000000 ∷ 1030000000 ∷ 1040000000 ∷ 7 ∷ []) (record { weights = one 2080000; units = 1; index = 1040000000; closes = 1; links = 1 })
  -- figures of accepted calls are in the buffer after a refusal
  stopped : year (single 1000000000 0) (one 101000) (one 102000) (one 24999) (one 104000) sevens ≡
      comes_to 13 2 (1010000000 ∷ 1020000000 ∷ 7 ∷ 7 ∷ 7 ∷ []) (single 1000000000 0)
  -- each list is judged when its call comes
  unequal : year (single 1000000000 0) (one 101000) (102000 ∷ 102000 ∷ []) (one 103000) (one 104000) sevens ≡
      comes_to 9 1 (1010000000 ∷ 7 ∷ 7 ∷ 7 ∷ 7 ∷ []) (single 1000000000 0)
  -- after a refused quarter the close, which would be accepted, is not made
  not_closed : year (single 9000000000 0) (one 101000) (one 102000) (one 120000) (one 103000) sevens ≡
      comes_to 23 2 (9090000000 ∷ 9180000000 ∷ 7 ∷ 7 ∷ 7 ∷ []) (single 9000000000 0)
  close_refused : year (single 1000000000 0) (one 101000) (one 102000) (one 103000) (one 49999) sevens ≡
      comes_to 21 3 (1010000000 ∷ 1020000000 ∷ 1030000000 ∷ 7 ∷ 7 ∷ []) (single 1000000000 0)
  -- 28 before 19
  short : year (single 0 0) [] [] [] [] (7 ∷ 7 ∷ 7 ∷ []) ≡ comes_to 28 0 (7 ∷ 7 ∷ 7 ∷ []) (single 0 0)
  broken_record : year (single 0 0) [] [] [] [] (7 ∷ 7 ∷ 7 ∷ 7 ∷ []) ≡ comes_to 19 0 (7 ∷ 7 ∷ 7 ∷ 7 ∷ []) (single 0 0)
  -- the fortieth close, and the year after it
  fortieth : year (single 1000000000 39) (one 100000) (one 100000) (one 100000) (one 110000) sevens ≡
      comes_to 0 4 (1000000000 ∷ 1000000000 ∷ 1000000000 ∷ 1100000000 ∷ 7 ∷ []) (record { weights = one 2200000; units = 1; index = 1100000000; closes = 40; links = 40 })
  spent : year (single 1000000000 40) (one 100000) (one 100000) (one 100000) (one 110000) sevens ≡ comes_to 24 0 sevens (single 1000000000 40)
  -- what they come to in a list: the single calls up to the refused one, none for 28, and the next is handed the record that was left
  in_a_list : events (single 9000000000 0)
      (Made.year 4 (one 101000) (one 102000) (one 120000) (one 103000) ∷ Made.year 3 [] [] [] [] ∷ Made.call (Call.close (one 103000))
      ∷ Made.year 4 (one 100000) (one 24999) [] [] ∷ []) ≡
      Event.answered (Call.quarter (one 101000)) 9090000000 ∷ Event.answered (Call.quarter (one 102000)) 9180000000 ∷ Event.refused 23
      ∷ Event.answered (Call.close (one 103000)) 9270000000 ∷ Event.answered (Call.quarter (one 100000)) 9270000000 ∷ Event.refused 13 ∷ []

years : Years
unfolding ◌or◌ outside refuse ◌then◌ sum products scaled any_of any_pair held bad_index bad_relative bad_weight bad_units weight_refusal link figure_at bad_links broken
    call_input_refusal figure_refusal call_refusal call_answer after stops_by figures_of up_to after_all room_refusal year_refusal year_figures year_after year_calls singles events
years =
    record {
      accepted = refl;
      stopped = refl;
      unequal = refl;
      not_closed = refl;
      close_refused = refl;
      short = refl;
      broken_record = refl;
      fortieth = refl;
      spent = refl;
      in_a_list = refl;
    }

-- ---- laws
-- "the record is unchanged" by a quarter, refused or not
pub quarter_keeps : (r : Chain) (ps : List ℕ) → after r (Call.quarter ps) ≡ r
unfolding after
quarter_keeps r ps = go (call_refusal r (Call.quarter ps))
  where
    go : (n : ℕ) → stays n r r ≡ r
    go zero = refl
    go (suc n) = refl

-- ---- calls up to a refused one leave the record as it was if one is refused, and else that of all of them
abbrev Left : Chain → List Call → Type 0
Left r calls = stays (stops_by r calls) r (after_all r calls) ≡ after_all r (up_to r calls)

close_left : (r : Chain) (ps : List ℕ) → Left r (Call.close ps ∷ [])
unfolding stops_by after_all up_to after ◌then◌
close_left r ps = go (call_refusal r (Call.close ps)) _
  where
    go : (n : ℕ) (next : Chain) → stays (n then 0) r (stays n r next) ≡ after_all (stays n r next) (stays n [] [])
    go zero next = refl
    go (suc n) next = refl

quarter_left : (r : Chain) (ps : List ℕ) (calls : List Call) → Left r calls → Left r (Call.quarter ps ∷ calls)
unfolding stops_by after_all up_to ◌then◌
quarter_left r ps calls later = go (call_refusal r (Call.quarter ps)) (after r (Call.quarter ps)) (quarter_keeps r ps)
  where
    go : (n : ℕ) (s : Chain) → s ≡ r → stays (n then stops_by s calls) r (after_all s calls) ≡ after_all s (stays n [] (up_to s calls))
    go zero s e = rw e later
    go (suc n) s e = rw e

pub four_left : (r : Chain) (q₁ q₂ q₃ ps : List ℕ) → Left r (four_calls q₁ q₂ q₃ ps)
four_left r q₁ q₂ q₃ ps = quarter_left r q₁ _ (quarter_left r q₂ _ (quarter_left r q₃ _ (close_left r ps)))

-- "It equals the four calls made one by one": the record is that of the single calls that the year came to
pub year_left : (r : Chain) (places : ℕ) (q₁ q₂ q₃ ps : List ℕ) →
    let calls = four_calls q₁ q₂ q₃ ps in year_after r places calls ≡ after_all r (year_calls r places calls)
unfolding year_after year_refusal year_calls after_all ◌then◌
year_left r places q₁ q₂ q₃ ps = go (room_refusal places)
  where
    calls : List Call
    calls = four_calls q₁ q₂ q₃ ps

    go : (n : ℕ) → stays (n then stops_by r calls) r (after_all r calls) ≡ after_all r (stays n [] (up_to r calls))
    go zero = four_left r q₁ q₂ q₃ ps
    go (suc n) = refl

-- … and where none of them is refused, all four are made
pub all_made : (r : Chain) (calls : List Call) → stops_by r calls ≡ 0 → up_to r calls ≡ calls
unfolding stops_by up_to ◌then◌
all_made r [] none = refl
all_made r (call ∷ calls) none = go (call_refusal r call) none (λ e. all_made (after r call) calls e)
  where
    go : (n : ℕ) → (n then stops_by (after r call) calls) ≡ 0 → (stops_by (after r call) calls ≡ 0 → up_to (after r call) calls ≡ calls) →
        call ∷ stays n [] (up_to (after r call) calls) ≡ call ∷ calls
    go zero e later = rw (later e)
    go (suc n) e later = absurd (let z : ◌≡◌ {A = ℕ} 0 1 = cc in omega arith)
