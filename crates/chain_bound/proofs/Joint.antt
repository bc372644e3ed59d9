-- From the contracts of quarter, close, year and renewal to `Met`: what a caller reads off an answer is what the definitions say that the call came to.
use mathlib.Core.Path.{◌≡◌, refl, ap}
use Prim.Native.Nat.{ℕ, zero, suc}
use mathlib.Core.List.{List, [], ◌∷◌}
use lib.ListN.{length, take, drop}
use lib.Seq.{take_at}
use Rattle.rules.specs.Refusals.{Judged, ◌then◌, judged, stays}
use Rattle.rules.specs.Chain.{Chain, Call, relatives, figure_of, call_refusal, call_answer, after}
use Rattle.rules.specs.Year.{four_calls, stops_by, figures_of, up_to, room_refusal, year_refusal, year_figures, year_calls, Year, year_of}
use Rattle.rules.specs.Panel.{Panel}
use Rattle.rules.specs.Renewal.{renewal_answer, renewal_after}
use Rattle.rules.specs.Events.{Event, Made, event_of, renewal_event, singles}
use Rattle.chain_bound.specs.Trace.{Met, told, year_told}

-- a quarter or a close
pub call_met : (r s : Chain) (call : Call) (a : Judged ℕ) → a ≡ call_answer r call → s ≡ after r call → Met r (Made.call call) (event_of call a ∷ []) s
unfolding singles
call_met r s call a answers left = record { answers = ap (λ (b : Judged ℕ). event_of call b ∷ []) answers; left = left }

-- a renewal
pub renewal_met : (r s : Chain) (p : Panel) (a : Judged Chain) → a ≡ renewal_answer r p → s ≡ renewal_after r p →
    Met r (Made.renewal p) (renewal_event p a ∷ []) s
renewal_met r s p a answers left = record { answers = ap (λ (b : Judged Chain). renewal_event p b ∷ []) answers; left = left }

-- calls up to a refused one: a figure for each that is accepted, and the number that stops them
told_singles : (calls : List Call) (r : Chain) → told calls (stops_by r calls) (figures_of r calls) ≡ singles r (up_to r calls)
unfolding stops_by figures_of up_to singles call_answer ◌then◌
told_singles [] r = refl
told_singles (call ∷ calls) r = go (call_refusal r call) (told_singles calls (after r call))
  where
    s : Chain
    s = after r call

    f : ℕ
    f = figure_of r (relatives call)

    go : (n : ℕ) → told calls (stops_by s calls) (figures_of s calls) ≡ singles s (up_to s calls) →
        told (call ∷ calls) (n then stops_by s calls) (stays n [] (f ∷ figures_of s calls)) ≡ event_of call (judged n f) ∷ singles s (stays n [] (up_to s calls))
    go zero later = ap (λ (l : List Event). Event.answered call f ∷ l) later
    go (suc n) later = refl

year_told_lem : (r : Chain) (places : ℕ) (calls : List Call) →
    year_told places calls (year_refusal r places calls) (year_figures r places calls) ≡ singles r (year_calls r places calls)
unfolding year_refusal year_figures year_calls singles ◌then◌
year_told_lem r places calls = go (room_refusal places)
  where
    go : (n : ℕ) → stays n [] (told calls (n then stops_by r calls) (stays n [] (figures_of r calls))) ≡ singles r (stays n [] (up_to r calls))
    go zero = told_singles calls r
    go (suc n) = refl

-- a year, whatever it came to by its contract
pub year_met : (r : Chain) (q₁ q₂ q₃ ps before : List ℕ) (came : Year) → let calls = four_calls q₁ q₂ q₃ ps in came ≡ year_of r calls before →
    Met r (Made.year (length before) q₁ q₂ q₃ ps) (year_told (length before) calls came.refusal (take came.count came.figures)) came.chain
year_met r q₁ q₂ q₃ ps before came e =
    let calls = four_calls q₁ q₂ q₃ ps in
    let figures = year_figures r (length before) calls in
    let read = take_at figures (drop (length figures) before) (length figures) refl in
    rw e (record { answers = rw read (year_told_lem r (length before) calls); left = refl })
