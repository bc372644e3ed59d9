-- Demand 3 for the code: whatever quarter, close, year and renewal calls follow an open that the code accepts, each opening with or without an outside share
-- and refused calls among them, each comes to what the rules give from the opened record on, and every figure is within the bound of the exact direct index.
-- By the contracts, calls of the code are a trace of the definitions; the rest is `chain_bound`.
use mathlib.Core.Path.{◌≡◌, sym, ap, ◌∙◌}
use mathlib.Core.List.{List, [], ◌∷◌}
use Prim.Native.Nat.{ℕ}
use contract.Lifetimes.{Lfts}
use denote.Ref.{Bor, MutBor}
use Rattle.std.specs.Prelude.{Result, Ok}
use Rattle.refusals.specs.Number.{refusal_of}
use Rattle.refusals.specs.declared.Refusal.{Refusal}
use Rattle.rules.specs.Refusals.{Judged, judged, stays}
use Rattle.rules.specs.Chain as rules
use Rattle.rules.specs.Panel.{Panel, panel_record, panel_answer}
use Rattle.rules.specs.Year.{four_calls, year_of}
use Rattle.rules.specs.Renewal.{renewal_refusal, renewed_record, renewal_answer, renewal_after}
use Rattle.rules.specs.Events.{Event, Made, renewal_event, events}
use Rattle.rules.specs.Direct.{direct_open, AllWithin}
use Rattle.rules.proofs.Refusals.{judged_same, stays_goes}
use Rattle.chain.specs.Record.{record_of}
use Rattle.chain.specs.declared.Chain.{Chain}
use Rattle.chain.proofs.Chain.quarter.Reads as quarter-reads
use Rattle.chain.proofs.Chain.close.Reads as close-reads
use Rattle.chain_open_input.specs.declared.Lists.{Lists}
use Rattle.chain_open.specs.Opened.{opening_of}
use Rattle.chain_open.proofs.«open».Reads as open-reads
use Rattle.chain_open.specs.Panel.{panel_of}
use Rattle.chain_open.specs.declared.Panel as code
use Rattle.chain_open.proofs.Panel.«open».Reads as panel-reads
use Rattle.chain_bound.specs.Trace.{Met, Trace}
use Rattle.chain_bound.proofs.Joint.{call_met, renewal_met, year_met}
use Rattle.chain_bound.proofs.Demand3.{demand3_trace}
use Rattle.chain_year.specs.Run.{year_with}
use Rattle.chain_year.proofs.year.Reads as year-reads
use Rattle.chain_renew.proofs.renew.Reads as renew-reads
use Rattle.chain_renew.proofs.renew_lent.Reads as renew-lent-reads
use Rattle.chain_bound_code.specs.Calls.{PanelOpened, PanelRenewed, CallsMade}

-- None of the seven asks anything of its caller: every list of calls can be made.
pub open_asks : (κs : Lfts 2) (lent : Bor Lists) (start : ℕ) → open-reads.Asked κs (lent, (start, tt))
open_asks κs lent start = tt

pub panel_asks : (κs : Lfts 2) (lent : Bor code.Panel) (start : ℕ) → panel-reads.Asked κs (lent, (start, tt))
panel_asks κs lent start = tt

pub quarter_asks : (κs : Lfts 1) (c : Chain) (p : Bor (List ℕ)) → quarter-reads.Asked κs (c, (p, tt))
quarter_asks κs c p = tt

pub close_asks : (κs : Lfts 1) (c : Chain) (p : Bor (List ℕ)) → close-reads.Asked κs (c, (p, tt))
close_asks κs c p = tt

pub year_asks : (κs : Lfts 6) (lent : MutBor Chain) (q₁ q₂ q₃ p : Bor (List ℕ)) (buffer : MutBor (List ℕ)) →
    year-reads.Asked κs (lent, (q₁, (q₂, (q₃, (p, (buffer, tt))))))
year_asks κs lent q₁ q₂ q₃ p buffer = tt

pub renew_asks : (κs : Lfts 2) (c : Chain) (lent : Bor code.Panel) → renew-reads.Asked κs (c, (lent, tt))
renew_asks κs c lent = tt

pub renew_lent_asks : (κs : Lfts 3) (lent : MutBor Chain) (panel : Bor code.Panel) → renew-lent-reads.Asked κs (lent, (panel, tt))
renew_lent_asks κs lent panel = tt

-- what is read off a refusal and the record left is the answer
lent_answer_is : (n m : ℕ) (r s t : rules.Chain) → n ≡ m → t ≡ stays m r s → judged n t ≡ judged m s
lent_answer_is n m r s t number left = rw (number, left) (judged_same m (stays m r s) s (stays_goes m r s))

-- a renewal of the code, with or without an outside share, is the definitions'
renewed : {c d : Chain} {p : Panel} {a : Judged rules.Chain} → PanelRenewed c p a d →
    Met (record_of c) (Made.renewal p) (renewal_event p a ∷ []) (record_of d)
unfolding renewal_answer renewal_after
renewed (PanelRenewed.by_value made) = renewal_met _ _ _ _ made.learnt.0 made.learnt.1
renewed (PanelRenewed.on_lent {c = c} {d = d} {panel = panel} {r = r} made) =
    let before = record_of c in
    let p = panel_of panel.now in
    let number : refusal_of r ≡ renewal_refusal before p = rw (← made.holds) made.learnt.0 in
    let left : record_of d ≡ renewal_after before p = rw (← made.holds, ← made.leaves) made.learnt.1 in
    renewal_met before _ p _ (lent_answer_is _ (renewal_refusal before p) before (renewed_record before p) _ number left) left

-- calls of the code are a trace of the definitions
trace : {c : Chain} {list : List Made} {given : List Event} → CallsMade c list given → Trace (record_of c) list given
trace CallsMade.done = Trace.done
trace (CallsMade.quarter m rest) = Trace.next (call_met _ _ _ _ m.learnt.0 m.learnt.1) (trace rest)
trace (CallsMade.close m rest) = Trace.next (call_met _ _ _ _ m.learnt.0 m.learnt.1) (trace rest)
trace (CallsMade.year {c = c} {d = d} {q₁ = q₁} {q₂ = q₂} {q₃ = q₃} {p = p} {buffer = buffer} {r = r} {fs = fs} m rest) =
    let calls = four_calls q₁.now q₂.now q₃.now p.now in
    let told : year_with r d fs ≡ year_of (record_of c) calls buffer.now = rw (← m.holds, ← m.leaves, ← m.fills) m.learnt in
    Trace.next (year_met (record_of c) q₁.now q₂.now q₃.now p.now buffer.now (year_with r d fs) told) (trace rest)
trace (CallsMade.renewal m rest) = Trace.next (renewed m) (trace rest)

-- an opening that the code accepts is the definitions', with or without an outside share
opened : {p : Panel} {start : ℕ} {o : Result Chain Refusal} (c : Chain) → PanelOpened p start o → o ≡ Ok c → panel_answer p start ≡ Judged.given (record_of c)
unfolding rules.open_answer panel_answer
opened c (PanelOpened.without made) accepted = sym made.learnt ∙ ap opening_of accepted
opened c (PanelOpened.either made) accepted = sym made.learnt ∙ ap opening_of accepted

-- The theorem: p and start are what the open was handed, o is what it answered, and c is the record that this holds.
pub demand3 : (p : Panel) (start : ℕ) (o : Result Chain Refusal) → PanelOpened p start o → (c : Chain) → o ≡ Ok c →
    (list : List Made) (given : List Event) → CallsMade c list given →
    (given ≡ events (panel_record p start) list) × AllWithin (direct_open p start) given
demand3 p start o made c accepted list given follow =
    demand3_trace p start (record_of c) (opened c made accepted) list given (trace follow)
