-- Demand 3 of document 01, undivided, with document 02, [6], [7] and [11]: whatever list of quarters, closes, years and renewals follows an accepted open,
-- each opening with or without an outside share, every figure that is answered is within the bound of the exact direct index D. By induction over the
-- list, with `Carried` from call to call.
use mathlib.Core.Path.{◌≡◌, refl, sym, ap, subst}
use Prim.Native.Nat.{ℕ, zero, suc}
use mathlib.Core.List.{List, [], ◌∷◌, ◌++◌, map}
use native.Mathlib.Omega.{arith}
use Rattle.rules.specs.Refusals.{Judged, judged, stays}
use Rattle.rules.specs.Chain.{Chain, Call, relatives, open_record, figure_of, call_refusal, call_answer, accepted, after}
use Rattle.rules.specs.Year.{four_calls, year_calls, after_all}
use Rattle.rules.specs.Panel.{Panel, panel_refusal, panel_record, panel_answer}
use Rattle.rules.specs.Renewal.{renewal_refusal, renewed_record, renewal_answer, renewal_after}
use Rattle.rules.specs.Events.{Event, Made, event_of, renewal_event, singles, came_to, left_by, events}
use Rattle.rules.specs.Direct.{Direct, direct_open, direct_after, direct_renewed, AllWithin}
use Rattle.rules.proofs.Refusals.{given_tells}
use Rattle.rules.proofs.Years.{year_left}
use Rattle.rules.proofs.Renewals.{renewal_sound, renewal_opens}
use Rattle.chain_bound.specs.Trace.{Trace}
use Rattle.chain_bound.proofs.Accepted.{accepted_call, closed_reached}
use Rattle.chain_bound.proofs.Panel.{unmoved}
use Rattle.chain_bound.proofs.Carried.{Carried, call_within, close_carried, panel_carried, renewal_carried}

-- ---- the open
-- D's start index is the start index itself, and nothing is lost yet.
open_carried : (p : Panel) (start : ℕ) → panel_refusal p start ≡ 0 → Carried (direct_open p start) (panel_record p start)
unfolding open_record
open_carried p start e =
    panel_carried p start 1 1 0 start 0 0 0 e (omega arith) (unmoved (omega arith)) refl refl refl (omega arith)

-- ---- the record and the exact side after an accepted call
after_carried : (d : Direct) (r : Chain) (call : Call) → Carried d r → call_refusal r call ≡ 0 → Carried (direct_after d call) (accepted r call)
after_carried d r (Call.quarter ps) i e = i
after_carried d r (Call.close ps) i e =
    close_carried d r ps i (accepted_call r i.panel.full (Call.close ps) e) (closed_reached r i.panel.full ps e)

-- ---- every list
-- What comes after is within the bound, from whatever exact side belongs to the record.
abbrev Later : Chain → List Event → Type 0
Later r rest = (d : Direct) → Carried d r → AllWithin d rest

-- Single calls: an accepted one is within the bound and both sides move on; a refused one has no D and changes neither.
calls_within : (calls : List Call) (d : Direct) (r : Chain) (rest : List Event) → Carried d r → Later (after_all r calls) rest →
    AllWithin d (singles r calls ++ rest)
unfolding singles after_all call_answer after
calls_within [] d r rest i later = later d i
calls_within (call ∷ calls) d r rest i later = go (call_refusal r call) refl (λ e s j. calls_within calls e s rest j) later
  where
    go : (n : ℕ) → call_refusal r call ≡ n →
        ((e : Direct) (s : Chain) → Carried e s → Later (after_all s calls) rest → AllWithin e (singles s calls ++ rest)) →
        Later (after_all (stays n r (accepted r call)) calls) rest →
        AllWithin d (event_of call (judged n (figure_of r (relatives call))) ∷ singles (stays n r (accepted r call)) calls ++ rest)
    go zero e more later = (
      call_within d r (relatives call) i (accepted_call r i.panel.full call e),
      more (direct_after d call) (accepted r call) (after_carried d r call i e) later,
    )
    go (suc n) e more later = more d r i later

-- A renewal: an accepted one goes on with D's new panel; a refused one changes nothing.
renewal_within : (p : Panel) (d : Direct) (r : Chain) (rest : List Event) → Carried d r → Later (renewal_after r p) rest →
    AllWithin d (renewal_event p (renewal_answer r p) ∷ rest)
unfolding renewal_answer renewal_after
renewal_within p d r rest i later = go (renewal_refusal r p) refl later
  where
    go : (n : ℕ) → renewal_refusal r p ≡ n → Later (stays n r (renewed_record r p)) rest → AllWithin d (renewal_event p (judged n (renewed_record r p)) ∷ rest)
    go zero e later = later (direct_renewed d p) (renewal_carried d r p i (renewal_sound r p e) (renewal_opens r p e))
    go (suc n) e later = later d i

-- What stands in the list: a call is itself, a year the single calls that it came to.
made_within : (made : Made) (d : Direct) (r : Chain) (rest : List Event) → Carried d r → Later (left_by r made) rest → AllWithin d (came_to r made ++ rest)
unfolding after_all
made_within (Made.call c) d r rest i later = calls_within (c ∷ []) d r rest i later
made_within (Made.year places q₁ q₂ q₃ ps) d r rest i later =
    calls_within (year_calls r places (four_calls q₁ q₂ q₃ ps)) d r rest i
    (subst (λ (s : Chain). Later s rest) (year_left r places q₁ q₂ q₃ ps) later)
made_within (Made.renewal p) d r rest i later = renewal_within p d r rest i later

all_within : (list : List Made) (r : Chain) → Later r (events r list)
unfolding events
all_within [] r d i = tt
all_within (made ∷ list) r d i = made_within made d r (events (left_by r made) list) i (all_within list (left_by r made))

-- a list without years and renewals comes to what its calls come to
without_years : (r : Chain) (calls : List Call) → events r (map Made.call calls) ≡ singles r calls
unfolding events singles
without_years r [] = refl
without_years r (call ∷ calls) = ap (λ (l : List Event). event_of call (call_answer r call) ∷ l) (without_years (after r call) calls)

-- ---- what a program answers
-- What calls that meet the contracts one after the other come to is the defined list of events.
trace_events : {r : Chain} {list : List Made} {given : List Event} → Trace r list given → given ≡ events r list
unfolding events
trace_events Trace.done = refl
trace_events (Trace.next met t) = cc (trace_events t)

module _ (p : Panel) (start : ℕ) (r : Chain) (accepts : panel_answer p start ≡ Judged.given r) where
  -- Demand 3: of any open that is accepted, with or without an outside share, and any quarters, closes, years and renewals after it.
  -- D is reckoned from the arguments of the openings and the calls alone.
  pub demand3 : (list : List Made) → AllWithin (direct_open p start) (events r list)
  unfolding panel_answer
  demand3 list =
      let o = given_tells (panel_refusal p start) _ r (sym accepts) in
      all_within list r (direct_open p start) (rw o.1 (open_carried p start o.0))

  -- its case without years and renewals
  pub demand3_calls : (calls : List Call) → AllWithin (direct_open p start) (singles r calls)
  demand3_calls calls = rw (without_years r calls) at (demand3 (map Made.call calls))

  -- Of any program whose calls meet their contracts: its list comes to the defined events from the open's record on, within the bound.
  pub demand3_trace : (list : List Made) (given : List Event) → Trace r list given →
      (given ≡ events (panel_record p start) list) × AllWithin (direct_open p start) given
  unfolding panel_answer
  demand3_trace list given t =
      let same = trace_events t in
      (rw (← (given_tells (panel_refusal p start) _ r (sym accepts)).1) same, rw same (demand3 list))
