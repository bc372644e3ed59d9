-- The text of a step: what is laid where there is room, and what follows from what a step says.
use Prim.Native.Nat.{ℕ, ◌≤◌}
use mathlib.Core.Path.{◌≡◌, sym, ap, ◌∙◌}
use mathlib.Core.List.{List}
use lib.ListN.{length}
use borrow.Author.Tests.{le-ltb}
use Rattle.text_lines.specs.Laid.{laid, laid_count, Lays}
use Rattle.rules.specs.Refusals.{Judged, written}
use Rattle.rules.specs.Job as rules
use Rattle.job_state.specs.declared.Stepped.{Stepped}
use Rattle.std.proofs.Common.{Result, Ok}
use Rattle.refusals.specs.declared.Refusal.{Refusal}
use Rattle.job_state.specs.declared.Saying.{Saying}
use Rattle.job_state.specs.State.{job_of, saying_from, saying_by}

-- what is laid where there is room is the whole text
pub laid_all : (room : ℕ) (text want before after : List ℕ) (r : ℕ) → text ≡ want → room ≤ length before → Lays room text before after r
    → (r ≡ length want) × (after ≡ written 0 want before)
unfolding laid laid_count
laid_all room text want before after r e h l =
    let fits = le-ltb (length before) room h in
    (l.0 ∙ rw fits (ap length e), l.1 ∙ rw fits (ap (λ (t : List ℕ). written 0 t before) e))

-- what follows from a step that says x
pub says : {A : Type 0} (f : Judged rules.Saying → A) (s : Stepped) (x : Result Saying Refusal) → s.says ≡ x
    → f (saying_by x s.job.panel.size (job_of s.job).panel) ≡ f (saying_from s)
says f s x e = ap (λ (y : Result Saying Refusal). f (saying_by y s.job.panel.size (job_of s.job).panel)) (sym e)

-- the same of one that is accepted, by what it says
pub says_ok : {A : Type 0} (f : Judged rules.Saying → A) (s : Stepped) (y x : Saying) → s.says ≡ Ok y → y ≡ x
    → f (saying_by (Ok x) s.job.panel.size (job_of s.job).panel) ≡ f (saying_from s)
says_ok f s y x e d = says f s (Ok x) (e ∙ ap Ok d)
