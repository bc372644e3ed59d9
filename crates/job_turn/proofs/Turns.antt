-- What renders a turn, by what was read.
use Prim.Native.Nat.{ℕ, ◌-◌}
use mathlib.Core.Path.{◌≡◌, ap, ap₂, ◌∙◌}
use mathlib.Core.List.{List}
use lib.ListN.{length}
use Rattle.rules.specs.Refusals.{Judged, written}
use Rattle.rules.specs.Stream.{Front, Command, reading}
use Rattle.rules.specs.Job.{Step}
use Rattle.job_state.specs.declared.Job.{Job}
use Rattle.job_state.specs.declared.Stepped.{Stepped}
use Rattle.job_state.specs.State.{job_of, saying_from}
use Rattle.job_state.specs.Steps.{Steps}
use Rattle.job_text.specs.Text.{continues, text_at}
use Rattle.job_turn.specs.declared.Turned.{Turned}
use Rattle.job_turn.specs.Turn.{Turn, turn_after, turn_by, turn_of, held_after, Renders}

module _ (n : ℕ) (s : List ℕ) (j : Job) (r : Turned) (before after : List ℕ) (x : Judged Front) (at : ℕ) (read : x ≡ reading s)
    (o : at ≡ n - length s) where
  -- the turn of what was read, where it was read
  pub renders : job_of r.job ≡ (turn_by x at (job_of j)).job → r.job ≡ held_after x j → r.more ≡ (turn_by x at (job_of j)).more
      → r.count ≡ length (turn_by x at (job_of j)).text → after ≡ written 0 (turn_by x at (job_of j)).text before → Renders n s j r before after
  unfolding turn_of
  renders k w m c t =
      let e : turn_by x at (job_of j) ≡ turn_of n s (job_of j) = ap₂ (λ (f : Judged Front) (i : ℕ). turn_by f i (job_of j)) read o in
      record {
        next = k ∙ ap (λ (v : Turn). v.job) e;
        whole = w ∙ ap (λ (f : Judged Front). held_after f j) read;
        goes = m ∙ ap (λ (v : Turn). v.more) e;
        count = c ∙ ap (λ (v : Turn). length v.text) e;
        text = t ∙ ap (λ (v : Turn). written 0 v.text before) e;
      }

-- the turn of a command
module _ (n : ℕ) (s : List ℕ) (j : Job) (r : Turned) (before after : List ℕ) (c : Command) (at : ℕ)
    (read : Judged.given (Front.command c) ≡ reading s) (o : at ≡ n - length s) (done : Stepped) (steps : Steps j c done) where
  pub command_renders : r.job ≡ done.job → r.more ≡ continues (saying_from done)
      → (r.count ≡ length (text_at (saying_from done) at)) × (after ≡ written 0 (text_at (saying_from done) at) before) → Renders n s j r before after
  command_renders k m l =
      let e = ap (λ (x : Step). turn_after x at) steps.ruled in
      renders n s j r before after _ at read o (ap job_of k ∙ ap (λ (v : Turn). v.job) e) (k ∙ steps.job) (m ∙ ap (λ (v : Turn). v.more) e)
      (l.0 ∙ ap (λ (v : Turn). length v.text) e) (l.1 ∙ ap (λ (v : Turn). written 0 v.text before) e)
