-- What the steps of a call tell (`rules`, Chain): its refusal, the answer and the record that go with it, and the sizes of an admitted record.
use mathlib.Core.Path.{◌≡◌, refl, sym, ap, ◌∙◌}
use mathlib.Core.List.{List, ◌++◌}
use Prim.Native.Nat.{ℕ, zero, suc, ◌<◌, ◌≤◌, ◌^◌}
use native.Mathlib.Omega.{arith}
use lib.ListN.{length, take, drop, length-append, length-drop}
use lib.Seq.{length-take-le, take_at}
use Rattle.refusals.specs.Number.{number_of}
use Rattle.refusals.specs.declared.Refusal.{Refusal}
use Rattle.refusals.proofs.Answers.{stops_by_lem, refused_by, stays_by}
use Rattle.rules.specs.Limits.{relative_scale, most_panel}
use Rattle.rules.specs.Refusals.{Judged, ◌then◌, stays}
use Rattle.rules.specs.Lists.{sum, products, scaled}
use Rattle.rules.specs.Chain.{Chain, Call, relatives, held, moved, figure_of, accepted, call_answer, after}
use Rattle.rules.specs.Chain.{call_input_refusal, weight_refusal, figure_refusal, call_refusal}
use Rattle.rules.proofs.Refusals.{then_goes, given_tells, refused_tells}
use Rattle.rules.proofs.Lists.{length_scaled, scaled_take, products_take}
use Rattle.rules.proofs.Chains.{Admitted}
use Rattle.chain_sums.proofs.Relatives.{products_bound}
use Rattle.chain_record.specs.declared.Numbers.{Numbers}
use Rattle.chain_figure.specs.Steps.{reckoned_of, late_refusal}

-- ---- the answer and the record
pub refused_call : (r : Chain) (call : Call) (why : Refusal) → number_of why ≡ call_refusal r call →
    (Judged.refused (number_of why) ≡ call_answer r call) × (r ≡ after r call)
unfolding call_answer after
refused_call r call why e = (refused_by why _ e _, stays_by why _ e _ _)

pub accepted_call : (r : Chain) (call : Call) (f : ℕ) (next : Chain) → call_refusal r call ≡ 0 → f ≡ figure_of r (relatives call) →
    next ≡ accepted r call → (Judged.given f ≡ call_answer r call) × (next ≡ after r call)
unfolding call_answer after
accepted_call r call f next none figure moves = (rw (none, figure), rw (none, moves))

stays_same : (n : ℕ) (r : Chain) → r ≡ stays n r r
stays_same zero r = refl
stays_same (suc n) r = refl

pub quarter_stays : (r : Chain) (ps : List ℕ) → r ≡ after r (Call.quarter ps)
unfolding after
quarter_stays r ps = stays_same (call_refusal r (Call.quarter ps)) r

-- ---- what the code's reckoning of the relatives tells
module _ (r : Chain) (ps : List ℕ) where
  pub input_refused : (why : Refusal) (call : Call) → relatives call ≡ ps → Judged.refused (number_of why) ≡ reckoned_of r ps → number_of why ≡ call_refusal r call
  unfolding reckoned_of call_refusal
  input_refused why call same e = stops_by_lem why _ _ (refused_tells _ _ _ e ∙ ap (call_input_refusal r) (sym same))

  module _ (f : ℕ) (e : Judged.given f ≡ reckoned_of r ps) where
    tells : (call_input_refusal r ps ≡ 0) × (f ≡ figure_of r ps)
    unfolding reckoned_of
    tells = given_tells _ _ _ e

    pub passed : call_input_refusal r ps ≡ 0
    passed = tells.0

    pub figure_is : f ≡ figure_of r ps
    figure_is = tells.1

    -- what is left to refuse: 23 and 24 of a quarter, and of a close 21 and 22 of the new weights before them
    module _ (n : Numbers) (links : n.links ≡ r.links) where
      late_is : late_refusal f n ≡ figure_refusal r ps
      unfolding late_refusal figure_refusal
      late_is = rw (figure_is, links)

      pub quarter_refusal : late_refusal f n ≡ call_refusal r (Call.quarter ps)
      unfolding call_refusal ◌then◌
      quarter_refusal = late_is ∙ sym (then_goes _ _ passed)

      pub close_refusal : (weight_refusal (held r) (moved r ps) then late_refusal f n) ≡ call_refusal r (Call.close ps)
      unfolding call_refusal
      close_refusal = ap (λ (k : ℕ). weight_refusal (held r) (moved r ps) then k) late_is ∙ sym (then_goes _ _ passed)

-- ---- the places of an admitted record
-- after a close: the moved weights, and the places beyond the units as they are
abbrev pub moved_places : Chain → List ℕ → List ℕ
moved_places r ps = moved r ps ++ drop r.units r.weights

module _ (r : Chain) (ps : List ℕ) (places : length r.weights ≡ most_panel) (a : Admitted r ps) where
  pub units_fit : r.units ≤ length r.weights
  units_fit = omega (arith, a.sound.most)

  pub length_held : length (held r) ≡ r.units
  unfolding held
  length_held = length-take-le r.units r.weights units_fit

  -- the relatives reach no further than the units
  held_is : held r ≡ take (length ps) r.weights
  unfolding held
  held_is = ap (λ (n : ℕ). take n r.weights) (sym a.long)

  pub moved_is : scaled relative_scale r.weights ps ≡ moved r ps
  moved_is = sym (ap (λ (vs : List ℕ). scaled relative_scale vs ps) held_is ∙ scaled_take relative_scale r.weights ps)

  -- the products v × p are below 2^64
  pub products_fit : sum (products r.weights ps) < 2 ^ 64
  products_fit =
      let h : length ps ≤ length (held r) = omega (arith, a.long, length_held) in
      let same = ap (λ (vs : List ℕ). sum (products vs ps)) held_is ∙ ap sum (products_take r.weights ps) in
      omega (arith, a.sound.limit, products_bound (held r) (held r) ps a.relatives h)

  length_moved : length (moved r ps) ≡ r.units
  length_moved = length_scaled relative_scale (held r) ps (length_held ∙ sym a.long) ∙ length_held

  -- the new weights with the places beyond the units fill the record, and are the first of it
  pub length_places : length (moved_places r ps) ≡ most_panel
  length_places = simp length-append (omega (arith, places, length_moved, length-drop r.units r.weights, units_fit))

  pub take_places : take r.units (moved_places r ps) ≡ moved r ps
  take_places = take_at (moved r ps) _ r.units length_moved
