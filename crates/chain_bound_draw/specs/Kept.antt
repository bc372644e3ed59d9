-- Document 02, [9]: "The chain is judged by the enlarged group's weights". A call of `draw::draw_kept`, as `Drawing` has one of `draw_by`.
use Rattle.std.specs.Prelude.{ℕ, ◌≡◌, List, Result}
use contract.Lifetimes.{Lfts}
use Rattle.std.specs.Borrow.{Bor, MutBor}
use denote.Triple.Clauses.{AtExit}
use Rattle.rules.specs.TakeAll.{frame}
use Rattle.rules.specs.Kept.{keeping, enlarged_group}
use Rattle.rules.specs.Draw.{panel_weights}
use Rattle.draw_key.specs.declared.Method.{Method}
use Rattle.draw_key.specs.Methods.{method_of}
use Rattle.refusals.specs.declared.Refusal.{Refusal}
use Rattle.draw.specs.declared.Design.{Design}
use Rattle.draw.specs.declared.Drawn.{Drawn}
use Rattle.draw.specs.contracts.draw_kept as kept-contract
use Rattle.draw.proofs.draw_kept.Reads as kept-reads

-- `draw_kept` of a design, which has the method, the frame, z, the start, a threshold and two lists, returned r and left ws in the buffer of the weights
pub record KeptMade (design : Bor Design) (numbers weights : MutBor (List ℕ)) (r : Result Drawn Refusal) (ws : List ℕ) : Type 0 where
  pub lifetimes : Lfts 4
  pub end : AtExit kept-contract.ended lifetimes
  pub leaves : end.1.1.0.now ≡ ws
  pub learnt : kept-reads.Learnt lifetimes (design, (numbers, (weights, tt))) r end

-- the W of the panel, by the enlarged group
abbrev pub kept_weights : Method → List ℕ → List ℕ → List ℕ → ℕ → ℕ → ℕ → List ℕ → List ℕ → List ℕ
kept_weights method ns ts rs z start threshold first second =
    panel_weights (method_of method) (frame ns ts rs) (enlarged_group ns ts z (keeping threshold first second)) start
