-- A chain opened with the weights of a draw with previous lists (document 02, [9]), by either method, is one of those that demand 3 covers.
use mathlib.Core.Path.{◌≡◌, sym, ap, ◌∙◌}
use mathlib.Core.List.{List}
use Rattle.std.specs.Prelude.{Result, Ok}
use Prim.Native.Nat.{ℕ}
use denote.Ref.{Bor, MutBor}
use lib.ListN.{length, take, drop}
use lib.Seq.{take_at}
use Rattle.rules.specs.Refusals.{written}
use Rattle.rules.specs.TakeAll as rules
use Rattle.rules.specs.Kept as kept
use Rattle.rules.specs.Kept.{enlarged_group}
use Rattle.rules.specs.Draw as draws
use Rattle.rules.specs.Draw.{kept_draw_refusal, kept_draw_answer, kept_draw_weights}
use Rattle.rules.specs.Events.{Event, Made}
use Rattle.rules.proofs.Refusals.{given_tells}
use Rattle.std.specs.Prelude.{Result, Ok}
use Rattle.refusals.specs.declared.Refusal.{Refusal}
use Rattle.chain.specs.declared.Chain.{Chain}
use Rattle.chain_open_input.specs.declared.Lists.{Lists}
use Rattle.chain_bound_code.specs.Calls.{OpenMade, CallsMade}
use Rattle.draw_key.specs.declared.Method.{Method}
use Rattle.draw_key.specs.Methods.{method_of}
use Rattle.frame.specs.Frame.{frame_of}
use Rattle.group_keeping.specs.Keeping.{keeping_of}
use Rattle.refusals.specs.declared.Refusal.{Refusal}
use Rattle.draw.specs.declared.Design.{Design}
use Rattle.draw.specs.declared.Drawn.{Drawn}
use Rattle.draw.specs.Answer.{answer_from}
use Rattle.draw.proofs.Accepted.{kept_accepted}
use Rattle.draw.proofs.Intended.{kept_weights_lem}
use Rattle.chain_bound_draw.specs.Kept.{KeptMade, kept_weights}
use Rattle.chain_bound_draw.proofs.Demand3.{Covered, demand3_handed}

module _ (design : Bor Design) (numbers weights : MutBor (List ℕ)) (r : Result Drawn Refusal) (ws : List ℕ) (made : KeptMade design numbers weights r ws)
    (d : Drawn) (drawn : r ≡ Ok d) where
  abbrev method : Method
  method = design.now.method

  abbrev z : ℕ
  z = design.now.z

  abbrev start : ℕ
  start = design.now.start

  abbrev f : rules.Frame
  f = frame_of design.now.frame

  abbrev p : kept.Keeping
  p = keeping_of design.now.keeping

  abbrev panel : List ℕ
  panel = kept_weights method f.numbers f.turnovers f.randoms z start p.threshold p.first p.second

  none : kept_draw_refusal f z start p numbers.now weights.now ≡ 0
  unfolding kept_draw_answer
  none =
      let g = enlarged_group f.numbers f.turnovers z p in
      let answer : draws.Drawn = record { sample_size = g.sample_size; rest = g.rest } in
      (given_tells _ answer (record { sample_size = d.n; rest = d.rest }) (sym (ap answer_from drawn) ∙ made.learnt.0)).0

  -- THE WEIGHTS: the first z places of the buffer
  pub weights_are : take z ws ≡ panel
  unfolding kept_draw_weights
  weights_are =
      let all : ws ≡ written 0 panel weights.now = sym made.leaves ∙ made.learnt.1.1 ∙ ap (λ (k : ℕ). written k panel weights.now) none in
      let size = kept_weights_lem (method_of method) f z start (kept_accepted f z start p numbers.now weights.now none).drawn.none p in
      ap (take z) all ∙ take_at panel (drop (length panel) weights.now) z size

  -- The theorem: the W that the open was handed are those first z places.
  pub demand3_kept : (units : Bor Lists) (index : ℕ) (o : Result Chain Refusal) → units.now.weights.now ≡ take z ws → OpenMade units index o → (c : Chain) → o ≡ Ok c →
      (list : List Made) (given : List Event) → CallsMade c list given → Covered panel units.now.shares.now units.now.relatives.now index list given
  demand3_kept units index o handed = demand3_handed panel units index o (handed ∙ weights_are)
