-- Demand 3 for a program in C: whatever vougecress_quarter, vougecress_close, vougecress_year, vougecress_renew and vougecress_renew_outside calls follow a
-- vougecress_open or vougecress_open_outside that answers 0, on the same lent record, each comes to what the rules give from the opened record on, and every
-- figure is within the bound of the exact direct index.
-- The record that a call leaves in the list is the one that the next call reads there (`Records`); the rest is `chain_bound`.
use mathlib.Core.Path.{◌≡◌, refl, sym, ap, subst, ◌∙◌}
use mathlib.Core.List.{List, [], ◌∷◌}
use Prim.Native.Nat.{ℕ, zero, suc, ◌≤◌}
use contract.Lifetimes.{Lfts}
use denote.Ref.{Bor, MutBor}
use lib.ListN.{length}
use borrow.Author.Tests.{le-ltb}
use Rattle.rules.specs.Refusals.{Judged, refuse, judged, stays, written}
use Rattle.rules.specs.Chain.{Chain, Call, call_refusal, call_answer, figure_of, relatives, accepted, after}
use Rattle.rules.specs.Panel.{Panel, panel_refusal, panel_record, panel_answer}
use Rattle.rules.specs.Year as rules
use Rattle.rules.specs.Year.{four_calls, after_all, year_refusal, year_after, year_of}
use Rattle.rules.specs.Renewal.{renewal_refusal, renewed_record, renewal_answer, renewal_after}
use Rattle.rules.specs.Events.{Event, Made, renewal_event, events}
use Rattle.rules.specs.Direct.{direct_open, AllWithin}
use Rattle.rules.proofs.Refusals.{then_none, then_goes, judged_given}
use Rattle.rules.proofs.Years.{quarter_keeps}
use Rattle.chain_bound.specs.Trace.{Met, Trace}
use Rattle.chain_bound.proofs.Joint.{call_met, renewal_met, year_met}
use Rattle.chain_bound.proofs.Demand3.{demand3_trace}
use Rattle.c_values.specs.declared.Figure.{Figure}
use Rattle.c_values.specs.Figures.{figure_from}
use Rattle.c_values.specs.Record.{record_places, record_in, record_list}
use Rattle.c_chain.specs.Record.{list_refusal, list_answer, list_after, opened_number, opened_list}
use Rattle.c_chain.proofs.records.vougecress_open.Reads as open-reads
use Rattle.c_chain.proofs.outside.vougecress_open_outside.Reads as open-outside-reads
use Rattle.c_chain.proofs.figures.vougecress_quarter.Reads as quarter-reads
use Rattle.c_chain.proofs.records.vougecress_close.Reads as close-reads
use Rattle.c_year.specs.declared.Year.{Year}
use Rattle.c_year.specs.Year.{lent_record, lent_year, year_answer, year_list}
use Rattle.c_year.proofs.vougecress_year.Reads as year-reads
use Rattle.c_renew.specs.Record.{renewed_number, renewed_list}
use Rattle.c_renew.proofs.renewal.vougecress_renew.Reads as renew-reads
use Rattle.c_renew.proofs.outside.vougecress_renew_outside.Reads as renew-outside-reads
use Rattle.chain_bound_c.specs.Lent.{PanelOpened, PanelRenewed, renewal_in, CallsMade}
use Rattle.chain_bound_c.proofs.Records.{Full, read_back, room_again, left_in_lem, full_in, full_open, full_after, full_all, full_renewed}

-- None of the seven asks anything of its caller: every list of calls can be made.
pub open_asks : (κs : Lfts 4) (w g a : Bor (List ℕ)) (lent : MutBor (List ℕ)) (start : ℕ) → open-reads.Asked κs (w, (g, (a, (start, (lent, tt)))))
open_asks κs w g a lent start = tt

pub open_outside_asks : (κs : Lfts 5) (w g a sampled : Bor (List ℕ)) (lent : MutBor (List ℕ)) (start domain : ℕ) →
    open-outside-reads.Asked κs (w, (g, (a, (start, (sampled, (domain, (lent, tt)))))))
open_outside_asks κs w g a sampled lent start domain = tt

pub quarter_asks : (κs : Lfts 2) (lent p : Bor (List ℕ)) → quarter-reads.Asked κs (lent, (p, tt))
quarter_asks κs lent p = tt

pub close_asks : (κs : Lfts 2) (lent : MutBor (List ℕ)) (p : Bor (List ℕ)) → close-reads.Asked κs (lent, (p, tt))
close_asks κs lent p = tt

pub year_asks : (κs : Lfts 6) (lent : MutBor (List ℕ)) (q₁ q₂ q₃ p : Bor (List ℕ)) (buffer : MutBor (List ℕ)) →
    year-reads.Asked κs (lent, (q₁, (q₂, (q₃, (p, (buffer, tt))))))
year_asks κs lent q₁ q₂ q₃ p buffer = tt

pub renew_asks : (κs : Lfts 4) (w g a : Bor (List ℕ)) (lent : MutBor (List ℕ)) → renew-reads.Asked κs (w, (g, (a, (lent, tt))))
renew_asks κs w g a lent = tt

pub renew_outside_asks : (κs : Lfts 5) (w g a sampled : Bor (List ℕ)) (lent : MutBor (List ℕ)) (domain : ℕ) →
    renew-outside-reads.Asked κs (w, (g, (a, (sampled, (domain, (lent, tt))))))
renew_outside_asks κs w g a sampled lent domain = tt

-- a figure holds the answer that it was made of
judged_in : (n f : ℕ) → judged (figure_from (judged n f)).refusal (figure_from (judged n f)).figure ≡ judged n f
judged_in zero f = refl
judged_in (suc n) f = refl

-- ---- a list with room for a record
module _ (xs : List ℕ) (room : record_places ≤ length xs) (call : Call) where
  -- the list itself is no reason to refuse
  refusal_in : list_refusal xs call ≡ call_refusal (record_in xs) call
  unfolding list_refusal refuse
  refusal_in = rw (le-ltb (length xs) record_places room) (then_goes 0 _ refl)

  -- a caller reads document 01's answer off the figure
  answer_in : (r : Figure) → r ≡ figure_from (list_answer xs call) → judged r.refusal r.figure ≡ call_answer (record_in xs) call
  unfolding list_answer call_answer
  answer_in r e = rw (e, refusal_in) (judged_in (call_refusal (record_in xs) call) (figure_of (record_in xs) (relatives call)))

  -- the list after a call holds the record after it, and has room again
  after_in : (ys : List ℕ) → ys ≡ list_after xs call → (record_in ys ≡ after (record_in xs) call) × (record_places ≤ length ys)
  unfolding list_after after
  after_in ys e =
      rw (e, refusal_in) (left_in_lem (call_refusal (record_in xs) call) xs (accepted (record_in xs) call) room (full_after (record_in xs) (full_in xs room) call))

-- ---- a year on it
module _ (xs : List ℕ) (room : record_places ≤ length xs) (q₁ q₂ q₃ ps buffer : List ℕ) where
  abbrev calls : List Call
  calls = four_calls q₁ q₂ q₃ ps

  -- the year is that of the record in the list
  year_in_lem : lent_year xs calls buffer ≡ year_of (record_in xs) calls buffer
  unfolding lent_record
  year_in_lem = rw (le-ltb (length xs) record_places room)

  -- the list after it holds the record after it, and has room again
  year_left_in : (ys : List ℕ) → ys ≡ year_list (lent_year xs calls buffer) xs →
      (record_in ys ≡ year_after (record_in xs) (length buffer) calls) × (record_places ≤ length ys)
  unfolding year_after
  year_left_in ys e =
      subst (λ (l : List ℕ). (record_in l ≡ year_after (record_in xs) (length buffer) calls) × (record_places ≤ length l))
      (sym (e ∙ ap (λ (y : rules.Year). year_list y xs) year_in_lem)) (go (year_refusal r (length buffer) calls))
    where
      r : Chain
      r = record_in xs

      next : Chain
      next = after_all r calls

      full : Full next
      full = full_all calls r (full_in xs room)

      go : (n : ℕ) → let s = stays n r next in (record_in (written n (record_list s) xs) ≡ s) × (record_places ≤ length (written n (record_list s) xs))
      go zero = (read_back next xs full, room_again next xs full)
      go (suc n) = (refl, room)

-- a year by its fields
year_from_lem : (y : rules.Year) (n k : ℕ) (s : Chain) (fs : List ℕ) → n ≡ y.refusal → k ≡ y.count → s ≡ y.chain → fs ≡ y.figures →
    record { refusal = n; count = k; chain = s; figures = fs } ≡ y
year_from_lem y n k s fs a b c d = rw (a, b, c, d)

-- ---- a renewal on it
-- What the contract of either renewal says.
record Renewed (p : Panel) (n : ℕ) (xs ys : List ℕ) : Type 0 where
  number : n ≡ renewed_number p xs
  list : ys ≡ renewed_list p xs

renewed : {p : Panel} {n : ℕ} {xs ys : List ℕ} → PanelRenewed xs p n ys → Renewed p n xs ys
renewed {p = p} (PanelRenewed.without made) =
    record {
      number = made.learnt.0 ∙ ap (renewed_number p) made.holds;
      list = sym made.leaves ∙ made.learnt.1 ∙ ap (renewed_list p) made.holds;
    }
renewed {p = p} (PanelRenewed.outside made) =
    record {
      number = made.learnt.0 ∙ ap (renewed_number p) made.holds;
      list = sym made.leaves ∙ made.learnt.1 ∙ ap (renewed_list p) made.holds;
    }

-- a caller reads what it came to off the number
event_in_lem : (p : Panel) (n : ℕ) (next : Chain) → renewal_in p n ≡ renewal_event p (judged n next)
event_in_lem p zero next = refl
event_in_lem p (suc n) next = refl

module _ (xs : List ℕ) (room : record_places ≤ length xs) (p : Panel) where
  number_in : renewed_number p xs ≡ renewal_refusal (record_in xs) p
  unfolding renewed_number refuse
  number_in = rw (le-ltb (length xs) record_places room) (then_goes 0 _ refl)

  -- the list after it holds the record after it, and has room again
  renewal_in_lem : (n : ℕ) (ys : List ℕ) → Renewed p n xs ys →
      Met (record_in xs) (Made.renewal p) (renewal_in p n ∷ []) (record_in ys) × (record_places ≤ length ys)
  unfolding renewed_list renewal_answer renewal_after
  renewal_in_lem n ys m =
      let r = record_in xs in
      let next = renewed_record r p in
      let left = left_in_lem (renewal_refusal r p) xs next room (full_renewed r p (full_in xs room)) in
      let laid = m.list ∙ ap (λ (k : ℕ). written k (record_list next) xs) number_in in
      let came = ap (renewal_in p) (m.number ∙ number_in) ∙ event_in_lem p (renewal_refusal r p) next in
      (rw (came, laid) (renewal_met r _ p _ refl left.0), rw laid left.1)

-- calls on a lent record are a trace of the definitions
trace : {xs : List ℕ} {list : List Made} {given : List Event} → record_places ≤ length xs → CallsMade xs list given → Trace (record_in xs) list given
trace room CallsMade.done = Trace.done
trace room (CallsMade.quarter {xs = xs} {p = p} {r = r} m rest) =
    let call = Call.quarter p.now in
    let told : r ≡ figure_from (list_answer xs call) = rw (← m.holds) m.learnt in
    Trace.next (call_met (record_in xs) _ call _ (answer_in xs room call r told) (sym (quarter_keeps (record_in xs) p.now))) (trace room rest)
trace room (CallsMade.close {xs = xs} {ys = ys} {p = p} {r = r} m rest) =
    let call = Call.close p.now in
    let told : r ≡ figure_from (list_answer xs call) = rw (← m.holds) m.learnt.0 in
    let left : ys ≡ list_after xs call = sym m.leaves ∙ m.learnt.1 ∙ ap (λ (l : List ℕ). list_after l call) m.holds in
    let next = after_in xs room call ys left in
    Trace.next (call_met (record_in xs) _ call _ (answer_in xs room call r told) next.0) (trace next.1 rest)
trace room (CallsMade.year {xs = xs} {ys = ys} {fs = fs} {q₁ = q₁} {q₂ = q₂} {q₃ = q₃} {p = p} {buffer = buffer} {r = r} m rest) =
    let calls = four_calls q₁.now q₂.now q₃.now p.now in
    let told : r ≡ year_answer (lent_year xs calls buffer.now) = rw (← m.holds) m.learnt.0 in
    let left : ys ≡ year_list (lent_year xs calls buffer.now) xs =
    sym m.leaves ∙ m.learnt.1.0 ∙ ap (λ (l : List ℕ). year_list (lent_year l calls buffer.now) l) m.holds in
    let filled : fs ≡ (lent_year xs calls buffer.now).figures = rw (← m.holds, ← m.fills) m.learnt.1.1 in
    let next = year_left_in xs room q₁.now q₂.now q₃.now p.now buffer.now ys left in
    let same = year_in_lem xs room q₁.now q₂.now q₃.now p.now buffer.now in
    let came = year_from_lem (year_of (record_in xs) calls buffer.now) _ _ _ _ (ap (λ (y : Year). y.refusal) told ∙ ap (λ (y : rules.Year). y.refusal) same)
    (ap (λ (y : Year). y.count) told ∙ ap (λ (y : rules.Year). y.count) same) next.0 (filled ∙ ap (λ (y : rules.Year). y.figures) same) in
    Trace.next (year_met (record_in xs) q₁.now q₂.now q₃.now p.now buffer.now _ came) (trace next.1 rest)
trace room (CallsMade.renewal {xs = xs} {ys = ys} {p = p} {n = n} m rest) =
    let next = renewal_in_lem xs room p n ys (renewed m) in
    Trace.next next.0 (trace next.1 rest)

-- What the contract of either open says where it answers 0: nothing was refused, and the list holds the opened record.
record Laid (p : Panel) (start : ℕ) (xs ys : List ℕ) : Type 0 where
  number : 0 ≡ opened_number p start xs
  list : ys ≡ opened_list p start xs

laid : {p : Panel} {start : ℕ} {ys : List ℕ} → PanelOpened p start 0 ys → (xs : List ℕ) × Laid p start xs ys
laid (PanelOpened.without {lent = lent} made) = (lent.now, record { number = made.learnt.0; list = sym made.leaves ∙ made.learnt.1 })
laid (PanelOpened.outside {lent = lent} made) = (lent.now, record { number = made.learnt.0; list = sym made.leaves ∙ made.learnt.1 })

-- The theorem: p and start are what the open was handed, ys is what it left in the lent list.
pub demand3 : (p : Panel) (start : ℕ) (ys : List ℕ) → PanelOpened p start 0 ys → (list : List Made) (given : List Event) → CallsMade ys list given →
    (given ≡ events (panel_record p start) list) × AllWithin (direct_open p start) given
unfolding opened_number opened_list panel_answer
demand3 p start ys made list given follow =
    demand3_trace p start (record_in ys) (judged_given _ _ accepts ∙ ap Judged.given (sym holds)) list given (trace room follow)
  where
    xs : List ℕ
    xs = (laid made).0

    accepts : panel_refusal p start ≡ 0
    accepts = (then_none _ _ (sym (laid made).1.number)).1

    left : ys ≡ written 0 (record_list (panel_record p start)) xs
    left = (laid made).1.list ∙ ap (λ (n : ℕ). written n (record_list (panel_record p start)) xs) (sym (laid made).1.number)

    full : Full (panel_record p start)
    full = full_open p start accepts

    holds : record_in ys ≡ panel_record p start
    holds = ap record_in left ∙ read_back (panel_record p start) xs full

    room : record_places ≤ length ys
    room = subst (λ (l : List ℕ). record_places ≤ length l) (sym left) (room_again (panel_record p start) xs full)
