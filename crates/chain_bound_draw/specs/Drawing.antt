-- Document 02, [8]: "the chain's bound extend[s] to this draw". A call of `draw::draw_by` that a program makes; of it is known what Rattle lets its caller know:
-- `Learnt` of the module `Reads` that it makes of the function's own `ensures`.
use Rattle.std.specs.Prelude.{ℕ, ◌≡◌, List, Result}
use contract.Lifetimes.{Lfts}
use Rattle.std.specs.Borrow.{Bor, MutBor}
use denote.Triple.Clauses.{AtExit}
use Rattle.rules.specs.TakeAll.{frame, take_all_group}
use Rattle.rules.specs.Draw.{panel_weights}
use Rattle.draw_key.specs.declared.Method.{Method}
use Rattle.draw_key.specs.Methods.{method_of}
use Rattle.frame.specs.declared.Frame.{Frame}
use Rattle.refusals.specs.declared.Refusal.{Refusal}
use Rattle.draw.specs.declared.Drawn.{Drawn}
use Rattle.draw.specs.contracts.draw_by as draw-contract
use Rattle.draw.proofs.draw_by.Reads as draw-reads

-- `draw_by` of a method, a frame, z, start and two buffers returned r and left ws in the buffer of the weights; `f.now` is the frame, `ts.now` what its list ts holds.
pub record DrawMade (method : Method) (f : Bor Frame) (z start : ℕ) (numbers weights : MutBor (List ℕ)) (r : Result Drawn Refusal) (ws : List ℕ) : Type 0 where
  pub lifetimes : Lfts 4
  pub end : AtExit draw-contract.ended lifetimes
  pub leaves : end.1.1.1.1.1.0.now ≡ ws
  pub learnt : draw-reads.Learnt lifetimes (method, (f, (z, (start, (numbers, (weights, tt)))))) r end

-- the W of the panel that document 01's rules draw from the frame by the method
abbrev pub drawn_weights : Method → List ℕ → List ℕ → List ℕ → ℕ → ℕ → List ℕ
drawn_weights method ns ts rs z start = panel_weights (method_of method) (frame ns ts rs) (take_all_group ts z) start
