-- A renewal from the opening at its record's C: over any refusal n of the opening and any record s that it opens, so for every way to open.
use mathlib.Core.Path.{◌≡◌, refl, sym, ◌∙◌}
use Prim.Native.Nat.{ℕ, zero, suc}
use Rattle.std.specs.Prelude.{Result, Ok, Err}
use Rattle.refusals.specs.Number.{number_of}
use Rattle.refusals.specs.declared.Refusal.{Refusal}
use Rattle.refusals.proofs.Answers.{stops_by_lem, refused_by, stays_by}
use Rattle.rules.specs.Refusals.{Judged, refuse, ◌then◌, judged, stays}
use Rattle.rules.specs.Chain as rules
use Rattle.rules.specs.Chain.{broken}
use Rattle.rules.specs.Panel.{Panel, panel_refusal, panel_record, panel_answer}
use Rattle.rules.specs.Renewal.{with_links, renewal_refusal, renewed_record, renewal_answer, renewal_after}
use Rattle.rules.proofs.Refusals.{refuse_none, given_tells, refused_tells, stays_goes}
use Rattle.chain.specs.declared.Chain.{Chain}
use Rattle.chain.specs.Record.{record_of}
use Rattle.chain_open.specs.Opened.{opening_of}
use Rattle.chain_renew.specs.Renewed.{left, onward, onward_after}

onward_is : (r s : rules.Chain) (n : ℕ) →
    (onward r (judged n s) ≡ judged n (with_links r.links s)) × (onward_after r (judged n s) ≡ stays n r (with_links r.links s))
onward_is r s zero = (refl, refl)
onward_is r s (suc n) = (refl, refl)

module _ (r : rules.Chain) (p : Panel) where
  -- 19
  pub broken_refused : (why : Refusal) → number_of why ≡ refuse (broken r) 19 → (Judged.refused (number_of why) ≡ renewal_answer r p) × (r ≡ renewal_after r p)
  unfolding renewal_answer renewal_after renewal_refusal
  broken_refused why e = let number = stops_by_lem why _ _ e in (refused_by why _ number _, stays_by why _ number _ _)

  -- else the opening's
  pub carries_on : 0 ≡ refuse (broken r) 19 → (opened : Judged rules.Chain) → opened ≡ panel_answer p r.index →
      (onward r opened ≡ renewal_answer r p) × (onward_after r opened ≡ renewal_after r p)
  unfolding panel_answer renewal_answer renewal_after renewal_refusal renewed_record refuse ◌then◌
  carries_on none opened e = rw (e, refuse_none _ 18 (sym none)) (onward_is r (panel_record p r.index) (panel_refusal p r.index))

-- the record that a caller goes on with, by the answer alone
left_is : (n : ℕ) (s : rules.Chain) (c : Chain) (o : Result Chain Refusal) → opening_of o ≡ judged n s → record_of (left c o) ≡ stays n (record_of c) s
left_is n s c (Ok d) e = let t = given_tells n s (record_of d) e in t.1 ∙ sym (stays_goes n (record_of c) s t.0)
left_is n s c (Err why) e = stays_by why n (refused_tells n _ s e) (record_of c) s

pub after_is : (p : Panel) (c : Chain) (o : Result Chain Refusal) → opening_of o ≡ renewal_answer (record_of c) p → record_of (left c o) ≡ renewal_after (record_of c) p
unfolding renewal_answer renewal_after
after_is p c o e = left_is (renewal_refusal (record_of c) p) (renewed_record (record_of c) p) c o e
