-- Document 01, demand 3, with document 02, [6], [7] and [11], for a program in C: calls of `vougecress_open` or `vougecress_open_outside`,
-- `vougecress_quarter`, `vougecress_close`, `vougecress_year`, and `vougecress_renew` or `vougecress_renew_outside` on a lent record that nobody else writes,
-- so that each call finds the list as the call before it left it. Of a call is known what Rattle lets its caller know: `Learnt` of the module `Reads` that
-- it makes of the function's own `ensures`.
use Rattle.std.specs.Prelude.{ℕ, zero, suc, ◌≡◌, List, [], ◌∷◌, ◌++◌, length, take}
use contract.Lifetimes.{Lfts}
use Rattle.std.specs.Borrow.{Bor, MutBor}
use denote.Triple.Clauses.{AtExit}
use Rattle.rules.specs.Refusals.{judged}
use Rattle.rules.specs.Chain.{Call}
use Rattle.rules.specs.Panel.{Panel, plain, with_domain}
use Rattle.rules.specs.Year.{four_calls}
use Rattle.rules.specs.Events.{Event, Made, event_of}
use Rattle.chain_bound.specs.Trace.{year_told}
use Rattle.c_values.specs.declared.Figure.{Figure}
use Rattle.c_chain.specs.contracts.records.vougecress_open as open-contract
use Rattle.c_chain.proofs.records.vougecress_open.Reads as open-reads
use Rattle.c_chain.specs.contracts.outside.vougecress_open_outside as open-outside-contract
use Rattle.c_chain.proofs.outside.vougecress_open_outside.Reads as open-outside-reads
use Rattle.c_chain.specs.contracts.figures.vougecress_quarter as quarter-contract
use Rattle.c_chain.proofs.figures.vougecress_quarter.Reads as quarter-reads
use Rattle.c_chain.specs.contracts.records.vougecress_close as close-contract
use Rattle.c_chain.proofs.records.vougecress_close.Reads as close-reads
use Rattle.c_year.specs.declared.Year.{Year}
use Rattle.c_year.specs.contracts.vougecress_year as year-contract
use Rattle.c_year.proofs.vougecress_year.Reads as year-reads
use Rattle.c_renew.specs.contracts.renewal.vougecress_renew as renew-contract
use Rattle.c_renew.proofs.renewal.vougecress_renew.Reads as renew-reads
use Rattle.c_renew.specs.contracts.outside.vougecress_renew_outside as renew-outside-contract
use Rattle.c_renew.proofs.outside.vougecress_renew_outside.Reads as renew-outside-reads

-- `vougecress_open` of the lists w, g and a, of start and of the lent list returned n and left ys in the lent list; `w.now` is what w holds.
pub record OpenMade (w g a : Bor (List ℕ)) (lent : MutBor (List ℕ)) (start n : ℕ) (ys : List ℕ) : Type 0 where
  pub lifetimes : Lfts 4
  pub end : AtExit open-contract.ended lifetimes
  pub leaves : end.1.1.1.1.0.now ≡ ys
  pub learnt : open-reads.Learnt lifetimes (w, (g, (a, (start, (lent, tt))))) n end

-- `vougecress_open_outside` of these, of the list `sampled` and of the outside share returned n and left ys in the lent list.
pub record OpenOutsideMade (w g a sampled : Bor (List ℕ)) (lent : MutBor (List ℕ)) (start domain n : ℕ) (ys : List ℕ) : Type 0 where
  pub lifetimes : Lfts 5
  pub end : AtExit open-outside-contract.ended lifetimes
  pub leaves : end.1.1.1.1.1.1.0.now ≡ ys
  pub learnt : open-outside-reads.Learnt lifetimes (w, (g, (a, (start, (sampled, (domain, (lent, tt))))))) n end

-- Either of the two, with the panel that it was handed.
pub data PanelOpened : Panel → ℕ → ℕ → List ℕ → Type 0 where
  without : {w g a : Bor (List ℕ)} {lent : MutBor (List ℕ)} {start n : ℕ} {ys : List ℕ} → OpenMade w g a lent start n ys → PanelOpened (plain w.now g.now a.now) start n ys
  outside : {w g a sampled : Bor (List ℕ)} {lent : MutBor (List ℕ)} {start domain n : ℕ} {ys : List ℕ} →
      OpenOutsideMade w g a sampled lent start domain n ys → PanelOpened (with_domain domain sampled.now w.now g.now a.now) start n ys

-- `vougecress_quarter` of a lent list that holds xs and of the list p returned r
pub record QuarterMade (xs : List ℕ) (p : Bor (List ℕ)) (r : Figure) : Type 0 where
  pub lifetimes : Lfts 2
  pub lent : Bor (List ℕ)
  pub holds : lent.now ≡ xs
  pub end : AtExit quarter-contract.ended lifetimes
  pub learnt : quarter-reads.Learnt lifetimes (lent, (p, tt)) r end

-- `vougecress_close` of a lent list that holds xs and of the list p returned r and left ys in the lent list
pub record CloseMade (xs : List ℕ) (p : Bor (List ℕ)) (r : Figure) (ys : List ℕ) : Type 0 where
  pub lifetimes : Lfts 2
  pub lent : MutBor (List ℕ)
  pub holds : lent.now ≡ xs
  pub end : AtExit close-contract.ended lifetimes
  pub leaves : end.0.now ≡ ys
  pub learnt : close-reads.Learnt lifetimes (lent, (p, tt)) r end

-- `vougecress_year` of a lent list that holds xs, of the lists q₁ to p and of the lent buffer returned r, and left ys in the list and fs in the buffer
pub record YearMade (xs : List ℕ) (q₁ q₂ q₃ p : Bor (List ℕ)) (buffer : MutBor (List ℕ)) (r : Year) (ys fs : List ℕ) : Type 0 where
  pub lifetimes : Lfts 6
  pub lent : MutBor (List ℕ)
  pub holds : lent.now ≡ xs
  pub end : AtExit year-contract.ended lifetimes
  pub leaves : end.0.now ≡ ys
  pub fills : end.1.1.1.1.1.0.now ≡ fs
  pub learnt : year-reads.Learnt lifetimes (lent, (q₁, (q₂, (q₃, (p, (buffer, tt)))))) r end

-- `vougecress_renew` of the lists w, g and a and of a lent list that holds xs returned n and left ys in the lent list
pub record RenewMade (xs : List ℕ) (w g a : Bor (List ℕ)) (n : ℕ) (ys : List ℕ) : Type 0 where
  pub lifetimes : Lfts 4
  pub lent : MutBor (List ℕ)
  pub holds : lent.now ≡ xs
  pub end : AtExit renew-contract.ended lifetimes
  pub leaves : end.1.1.1.0.now ≡ ys
  pub learnt : renew-reads.Learnt lifetimes (w, (g, (a, (lent, tt)))) n end

-- `vougecress_renew_outside` of these, of the list `sampled` and of the outside share returned n and left ys in the lent list
pub record RenewOutsideMade (xs : List ℕ) (w g a sampled : Bor (List ℕ)) (domain n : ℕ) (ys : List ℕ) : Type 0 where
  pub lifetimes : Lfts 5
  pub lent : MutBor (List ℕ)
  pub holds : lent.now ≡ xs
  pub end : AtExit renew-outside-contract.ended lifetimes
  pub leaves : end.1.1.1.1.1.0.now ≡ ys
  pub learnt : renew-outside-reads.Learnt lifetimes (w, (g, (a, (sampled, (domain, (lent, tt)))))) n end

-- Either of the two, with the panel that it was handed.
pub data PanelRenewed : List ℕ → Panel → ℕ → List ℕ → Type 0 where
  without : {xs ys : List ℕ} {w g a : Bor (List ℕ)} {n : ℕ} → RenewMade xs w g a n ys → PanelRenewed xs (plain w.now g.now a.now) n ys
  outside : {xs ys : List ℕ} {w g a sampled : Bor (List ℕ)} {domain n : ℕ} →
      RenewOutsideMade xs w g a sampled domain n ys → PanelRenewed xs (with_domain domain sampled.now w.now g.now a.now) n ys

-- what a renewal came to, as a caller reads it off the number
abbrev pub renewal_in : Panel → ℕ → Event
renewal_in p zero = Event.renewed p
renewal_in p (suc n) = Event.refused (suc n)

-- what a call came to, as a caller reads it: a refusal other than 0, or the figure
abbrev pub event_in : Call → Figure → Event
event_in call f = event_of call (judged f.refusal f.figure)

-- and a year: the figures that the buffer holds, as many as the count says, and the refusal
abbrev pub year_events : MutBor (List ℕ) → List Call → Year → List ℕ → List Event
year_events buffer calls r fs = year_told (length buffer.now) calls r.refusal (take r.count fs)

-- Calls made one after the other on a lent list, what they ask, and what they came to.
pub data CallsMade : List ℕ → List Made → List Event → Type 0 where
  done : {xs : List ℕ} → CallsMade xs [] []
  quarter : {xs : List ℕ} {p : Bor (List ℕ)} {r : Figure} {list : List Made} {later : List Event} →
      QuarterMade xs p r → CallsMade xs list later → CallsMade xs (Made.call (Call.quarter p.now) ∷ list) (event_in (Call.quarter p.now) r ∷ later)
  close : {xs ys : List ℕ} {p : Bor (List ℕ)} {r : Figure} {list : List Made} {later : List Event} →
      CloseMade xs p r ys → CallsMade ys list later → CallsMade xs (Made.call (Call.close p.now) ∷ list) (event_in (Call.close p.now) r ∷ later)
  year : {xs ys fs : List ℕ} {q₁ q₂ q₃ p : Bor (List ℕ)} {buffer : MutBor (List ℕ)} {r : Year} {list : List Made} {later : List Event} →
      YearMade xs q₁ q₂ q₃ p buffer r ys fs → CallsMade ys list later →
      CallsMade xs (Made.year (length buffer.now) q₁.now q₂.now q₃.now p.now ∷ list)
      (year_events buffer (four_calls q₁.now q₂.now q₃.now p.now) r fs ++ later)
  renewal : {xs ys : List ℕ} {p : Panel} {n : ℕ} {list : List Made} {later : List Event} →
      PanelRenewed xs p n ys → CallsMade ys list later → CallsMade xs (Made.renewal p ∷ list) (renewal_in p n ∷ later)
