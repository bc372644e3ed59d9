-- What a writer laid in turn is one text laid.
use Prim.Native.Nat.{ℕ, ◌≤◌}
use mathlib.Core.Path.{◌≡◌, refl, subst, ◌∙◌}
use mathlib.Core.List.{List, [], ◌++◌}
use lib.ListN.{length}
use native.Mathlib.Omega.{arith}
use Rattle.text_decimal.specs.declared.Writer.{Writer}
use Rattle.text_decimal.specs.Wrote.{Wrote}
use Rattle.text_decimal.proofs.Laying.{in_turn, nothing_at}

pub then : {w v u : Writer} {a b : List ℕ} → Wrote w a v → Wrote v b u → Wrote w (a ++ b) u
then first second =
    record {
      put = in_turn first.put second.put first.within;
      within = omega (arith, second.within, first.size);
      size = second.size ∙ first.size;
      same = second.same ∙ first.same;
    }

pub says : {w v : Writer} {a b : List ℕ} → a ≡ b → Wrote w a v → Wrote w b v
says {w} {v} e laid = subst (λ (l : List ℕ). Wrote w l v) e laid

-- nothing laid
pub nothing : (w : Writer) → w.at ≤ length w.out.now → Wrote w [] w
nothing w h = record { put = nothing_at w.at w.out.now; within = h; size = refl; same = refl }
