-- A chain opened with the weights of a draw, by either method, is one of those that demand 3 covers. Demand 3 is for whatever weights an open is handed; by its
-- contract a draw that is accepted leaves the W of the rules' panel in the first z places of its buffer; so the exact direct index is reckoned from these.
use mathlib.Core.Path.{◌≡◌, sym, ap, subst, ◌∙◌}
use mathlib.Core.List.{List}
use Prim.Native.Nat.{ℕ}
use Rattle.std.specs.Prelude.{Result, Ok}
use contract.Lifetimes.{Lfts}
use denote.Ref.{Bor, MutBor}
use lib.ListN.{length, take, drop}
use lib.Seq.{take_at}
use Rattle.rules.specs.Refusals.{written}
use Rattle.rules.specs.TakeAll as rules
use Rattle.rules.specs.TakeAll.{take_all_group}
use Rattle.rules.specs.Draw as draws
use Rattle.rules.specs.Draw.{draw_refusal, draw_answer, draw_weights_by}
use Rattle.rules.specs.Panel.{plain, panel_record}
use Rattle.rules.specs.Events.{Event, Made, events}
use Rattle.rules.specs.Direct.{direct_open, AllWithin}
use Rattle.rules.proofs.Refusals.{given_tells}
use Rattle.std.specs.Prelude.{Result, Ok}
use Rattle.refusals.specs.declared.Refusal.{Refusal}
use Rattle.chain.specs.declared.Chain.{Chain}
use Rattle.chain_open_input.specs.declared.Lists.{Lists}
use Rattle.chain_bound_code.specs.Calls.{OpenMade, PanelOpened, CallsMade}
use Rattle.chain_bound_code.proofs.Demand3.{demand3}
use Rattle.draw_key.specs.declared.Method.{Method}
use Rattle.draw_key.specs.Methods.{method_of}
use Rattle.frame.specs.declared.Frame.{Frame}
use Rattle.frame.specs.Frame.{frame_of}
use Rattle.refusals.specs.declared.Refusal.{Refusal}
use Rattle.draw.specs.declared.Drawn.{Drawn}
use Rattle.draw.specs.Answer.{answer_from}
use Rattle.draw.proofs.Accepted.{draw_accepted}
use Rattle.draw.proofs.Intended.{z_weights}
use Rattle.draw.proofs.draw_by.Reads as draw-reads
use Rattle.chain_bound_draw.specs.Drawing.{DrawMade, drawn_weights}

-- What demand 3 says of the weights ws, without an outside share.
abbrev pub Covered : List ℕ → List ℕ → List ℕ → ℕ → List Made → List Event → Type 0
Covered ws gs rs index list given = (given ≡ events (panel_record (plain ws gs rs) index) list) × AllWithin (direct_open (plain ws gs rs) index) given

-- the W that the open was handed are ws
pub demand3_handed : (ws : List ℕ) (units : Bor Lists) (index : ℕ) (o : Result Chain Refusal) → units.now.weights.now ≡ ws → OpenMade units index o → (c : Chain) → o ≡ Ok c →
    (list : List Made) (given : List Event) → CallsMade c list given → Covered ws units.now.shares.now units.now.relatives.now index list given
demand3_handed ws units index o handed opened c accepted list given follow =
    subst (λ (v : List ℕ). Covered v units.now.shares.now units.now.relatives.now index list given) handed (demand3 _ index o (PanelOpened.without opened) c accepted list given follow)

-- A draw asks nothing of its caller.
pub draw_asks :
    (κs : Lfts 4) (method : Method) (f : Bor Frame) (z start : ℕ) (numbers weights : MutBor (List ℕ))
    → draw-reads.Asked κs (method, (f, (z, (start, (numbers, (weights, tt))))))
draw_asks κs method f z start numbers weights = tt

-- a draw that answered n and x
module _ (method : Method) (lent : Bor Frame) (z start : ℕ) (numbers weights : MutBor (List ℕ)) (r : Result Drawn Refusal) (ws : List ℕ)
    (made : DrawMade method lent z start numbers weights r ws) (d : Drawn) (drawn : r ≡ Ok d) where
  abbrev f : rules.Frame
  f = frame_of lent.now

  abbrev panel : List ℕ
  panel = drawn_weights method f.numbers f.turnovers f.randoms z start

  none : draw_refusal f z start numbers.now weights.now ≡ 0
  unfolding draw_answer
  none =
      let g = take_all_group f.turnovers z in
      let answer : draws.Drawn = record { sample_size = g.sample_size; rest = g.rest } in
      (given_tells _ answer (record { sample_size = d.n; rest = d.rest }) (sym (ap answer_from drawn) ∙ made.learnt.0)).0

  -- THE WEIGHTS: the first z places of the buffer
  pub weights_are : take z ws ≡ panel
  unfolding draw_weights_by
  weights_are =
      let all : ws ≡ written 0 panel weights.now = sym made.leaves ∙ made.learnt.1.1 ∙ ap (λ (k : ℕ). written k panel weights.now) none in
      let size = z_weights (method_of method) f z start (draw_accepted f z start numbers.now weights.now none).none in
      ap (take z) all ∙ take_at panel (drop (length panel) weights.now) z size

  -- The theorem: the W that the open was handed are those first z places.
  pub demand3_drawn : (units : Bor Lists) (index : ℕ) (o : Result Chain Refusal) → units.now.weights.now ≡ take z ws → OpenMade units index o → (c : Chain) → o ≡ Ok c →
      (list : List Made) (given : List Event) → CallsMade c list given → Covered panel units.now.shares.now units.now.relatives.now index list given
  demand3_drawn units index o handed = demand3_handed panel units index o (handed ∙ weights_are)
