-- Document 01, demand 3, with document 02, [6], [7] and [11]: calls that a program makes of `chain_open::open` or `Panel::open`, `Chain::quarter`,
-- `Chain::close`, `chain_year::year` and `chain_renew::renew` or `renew_lent`, each handed the record that the call before it handed back or left where it
-- was lent. Of a call is known what Rattle lets its caller know: `Learnt` of the module `Reads` that it makes of the function's own `ensures`.
-- No line here repeats a contract.
use Rattle.std.specs.Prelude.{Result, ℕ, ◌≡◌, List, [], ◌∷◌, ◌++◌, length, take}
use contract.Lifetimes.{Lfts}
use Rattle.std.specs.Borrow.{Bor, MutBor}
use denote.Triple.Clauses.{AtExit}
use Rattle.refusals.specs.Number.{refusal_of}
use Rattle.refusals.specs.declared.Refusal.{Refusal}
use Rattle.rules.specs.Refusals.{Judged, judged}
use Rattle.rules.specs.Chain as rules
use Rattle.rules.specs.Chain.{Call}
use Rattle.rules.specs.Panel.{Panel, plain}
use Rattle.rules.specs.Year.{four_calls}
use Rattle.rules.specs.Events.{Event, Made, event_of, renewal_event}
use Rattle.chain_bound.specs.Trace.{year_told}
use Rattle.chain.specs.Record.{record_of, answer_from}
use Rattle.chain.specs.declared.Chain.{Chain}
use Rattle.chain.specs.declared.Answered.{Answered}
use Rattle.chain.specs.contracts.Chain.quarter as quarter-contract
use Rattle.chain.proofs.Chain.quarter.Reads as quarter-reads
use Rattle.chain.specs.contracts.Chain.close as close-contract
use Rattle.chain.proofs.Chain.close.Reads as close-reads
use Rattle.chain_open_input.specs.Lists.{over}
use Rattle.chain_open_input.specs.declared.Lists.{Lists}
use Rattle.chain_open.specs.Opened.{opening_of}
use Rattle.chain_open.specs.contracts.«open» as open-contract
use Rattle.chain_open.proofs.«open».Reads as open-reads
use Rattle.chain_open.specs.Panel.{panel_of}
use Rattle.chain_open.specs.declared.Panel as code
use Rattle.chain_open.specs.contracts.Panel.«open» as panel-contract
use Rattle.chain_open.proofs.Panel.«open».Reads as panel-reads
use Rattle.chain_year.specs.declared.Came.{Came}
use Rattle.chain_year.specs.contracts.year as year-contract
use Rattle.chain_year.proofs.year.Reads as year-reads
use Rattle.chain_renew.specs.Renewed.{left}
use Rattle.chain_renew.specs.contracts.renew as renew-contract
use Rattle.chain_renew.proofs.renew.Reads as renew-reads
use Rattle.chain_renew.specs.contracts.renew_lent as renew-lent-contract
use Rattle.chain_renew.proofs.renew_lent.Reads as renew-lent-reads

-- `chain_open::open` of the lent lists and of start returned o; `lent.now` is what was lent.
pub record OpenMade (lent : Bor Lists) (start : ℕ) (o : Result Chain Refusal) : Type 0 where
  pub lifetimes : Lfts 2
  pub end : AtExit open-contract.ended lifetimes
  pub learnt : open-reads.Learnt lifetimes (lent, (start, tt)) o end

-- `Panel::open` of the lent panel and of start returned o.
pub record PanelMade (lent : Bor code.Panel) (start : ℕ) (o : Result Chain Refusal) : Type 0 where
  pub lifetimes : Lfts 2
  pub end : AtExit panel-contract.ended lifetimes
  pub learnt : panel-reads.Learnt lifetimes (lent, (start, tt)) o end

-- Either of the two, with the panel that it was handed, which brings an outside share or does not.
pub data PanelOpened : Panel → ℕ → Result Chain Refusal → Type 0 where
  without : {lent : Bor Lists} {start : ℕ} {o : Result Chain Refusal} → OpenMade lent start o → PanelOpened (over plain lent.now) start o
  either : {lent : Bor code.Panel} {start : ℕ} {o : Result Chain Refusal} → PanelMade lent start o → PanelOpened (panel_of lent.now) start o

-- `chain_renew::renew` of c and the lent panel returned o
pub record RenewMade (c : Chain) (lent : Bor code.Panel) (o : Result Chain Refusal) : Type 0 where
  pub lifetimes : Lfts 2
  pub end : AtExit renew-contract.ended lifetimes
  pub learnt : renew-reads.Learnt lifetimes (c, (lent, tt)) o end

-- `chain_renew::renew_lent` of a lent record that holds c and of the lent panel returned r, and left d in the record
pub record RenewLentMade (c : Chain) (panel : Bor code.Panel) (r : Result Unit Refusal) (d : Chain) : Type 0 where
  pub lifetimes : Lfts 3
  pub lent : MutBor Chain
  pub holds : lent.now ≡ c
  pub end : AtExit renew-lent-contract.ended lifetimes
  pub leaves : end.0.now ≡ d
  pub learnt : renew-lent-reads.Learnt lifetimes (lent, (panel, tt)) r end

-- what a renewal on a lent record answered, as its caller reads it off the refusal and the record
abbrev pub lent_answer : Result Unit Refusal → Chain → Judged rules.Chain
lent_answer r d = judged (refusal_of r) (record_of d)

-- Either of the two, with the panel that it was handed, which brings an outside share or does not, with what it answered, and with the record after it:
-- what a refused renewal by value was handed is still its caller's.
pub data PanelRenewed : Chain → Panel → Judged rules.Chain → Chain → Type 0 where
  by_value : {c : Chain} {lent : Bor code.Panel} {o : Result Chain Refusal} →
      RenewMade c lent o → PanelRenewed c (panel_of lent.now) (opening_of o) (left c o)
  on_lent : {c d : Chain} {panel : Bor code.Panel} {r : Result Unit Refusal} →
      RenewLentMade c panel r d → PanelRenewed c (panel_of panel.now) (lent_answer r d) d

-- `Chain::quarter` of c and the slice p returned r
pub record QuarterMade (c : Chain) (p : Bor (List ℕ)) (r : Answered) : Type 0 where
  pub lifetimes : Lfts 1
  pub end : AtExit quarter-contract.ended lifetimes
  pub learnt : quarter-reads.Learnt lifetimes (c, (p, tt)) r end

-- `Chain::close` of c and the slice p returned r
pub record CloseMade (c : Chain) (p : Bor (List ℕ)) (r : Answered) : Type 0 where
  pub lifetimes : Lfts 1
  pub end : AtExit close-contract.ended lifetimes
  pub learnt : close-reads.Learnt lifetimes (c, (p, tt)) r end

-- `chain_year::year` of a lent record that holds c, the slices q₁ to p and the lent buffer returned r, and left d in the record and fs in the buffer
pub record YearMade (c : Chain) (q₁ q₂ q₃ p : Bor (List ℕ)) (buffer : MutBor (List ℕ)) (r : Came) (d : Chain) (fs : List ℕ) : Type 0 where
  pub lifetimes : Lfts 6
  pub lent : MutBor Chain
  pub holds : lent.now ≡ c
  pub end : AtExit year-contract.ended lifetimes
  pub leaves : end.0.now ≡ d
  pub fills : end.1.1.1.1.1.0.now ≡ fs
  pub learnt : year-reads.Learnt lifetimes (lent, (q₁, (q₂, (q₃, (p, (buffer, tt)))))) r end

-- what a year came to, as its caller reads it off the answer and the buffer
abbrev pub year_events : MutBor (List ℕ) → List Call → Came → List ℕ → List Event
year_events buffer calls r fs = year_told (length buffer.now) calls (refusal_of r.verdict) (take r.count fs)

-- Calls made one after the other from a record, what they ask, and what they came to.
pub data CallsMade : Chain → List Made → List Event → Type 0 where
  done : {c : Chain} → CallsMade c [] []
  quarter : {c : Chain} {p : Bor (List ℕ)} {r : Answered} {list : List Made} {later : List Event} →
      QuarterMade c p r → CallsMade r.chain list later →
      CallsMade c (Made.call (Call.quarter p.now) ∷ list) (event_of (Call.quarter p.now) (answer_from r.answer) ∷ later)
  close : {c : Chain} {p : Bor (List ℕ)} {r : Answered} {list : List Made} {later : List Event} →
      CloseMade c p r → CallsMade r.chain list later →
      CallsMade c (Made.call (Call.close p.now) ∷ list) (event_of (Call.close p.now) (answer_from r.answer) ∷ later)
  year : {c d : Chain} {q₁ q₂ q₃ p : Bor (List ℕ)} {buffer : MutBor (List ℕ)} {r : Came} {fs : List ℕ} {list : List Made} {later : List Event} →
      YearMade c q₁ q₂ q₃ p buffer r d fs → CallsMade d list later →
      CallsMade c (Made.year (length buffer.now) q₁.now q₂.now q₃.now p.now ∷ list)
      (year_events buffer (four_calls q₁.now q₂.now q₃.now p.now) r fs ++ later)
  renewal : {c d : Chain} {p : Panel} {a : Judged rules.Chain} {list : List Made} {later : List Event} →
      PanelRenewed c p a d → CallsMade d list later → CallsMade c (Made.renewal p ∷ list) (renewal_event p a ∷ later)
