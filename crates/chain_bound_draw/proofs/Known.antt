-- `Learnt` is what the code gives, and no hypothesis: of `draw_by`, called by its name, a caller knows it by the function's own theorem.
use mathlib.Core.Path.{◌≡◌}
use mathlib.Core.List.{List}
use Prim.Native.Nat.{ℕ}
use prog.Routine.{Env, Callee}
use prog.Wired.{Wired}
use borrow.Fn.Kind.{ParamKind, ResultKind}
use borrow.Fn.Kinds.{In, Out}
use borrow.Fn.Plain.{Known}
use borrow.Fn.Run.{Over}
use borrow.Fn.World.{World}
use Rattle.draw.proofs.draw_by.Kinds as draw-kinds
use Rattle.draw.proofs.draw_by.Reads as draw-reads
use Rattle.draw.proofs.draw_by.Met as draw-theorem
use Rattle.draw.proofs.draw_by.Symbol as draw-symbol

-- in any model w of the machine in which the function and what it calls mean their code, and any environment γ in which its name means the same
module _ (w : World) (γ : Env) where
  abbrev KnownBy : (n : ℕ) (ps : List (ParamKind n)) (r : ResultKind n) → In n ps → Out n ps r → Callee → Type 1
  KnownBy = Known w.𝓛 (Over w.𝓛 w.𝓜 w.𝓡 γ)

  pub draw_known : Wired w.𝓡.env draw-symbol.code → γ draw-symbol.name ≡ w.𝓡.env draw-symbol.name →
      KnownBy 4 draw-kinds.ps draw-kinds.r draw-reads.Asked draw-reads.Learnt draw-symbol.name
  draw_known wired same =
      draw-reads.known w γ draw-symbol.name (w.𝓡.env draw-symbol.name) same (draw-theorem.met w.𝓤 w.𝓛 w.𝓜 w.𝓡 wired)
