-- A step of the code, every place of it, by whether its command is refused.
use Prim.Native.Nat.{ℕ, zero, suc}
use mathlib.Core.Path.{◌≡◌, refl, sym, ap, ◌∙◌}
use mathlib.Core.List.{List}
use Rattle.refusals.specs.declared.Refusal.{Refusal}
use Rattle.refusals.specs.Number.{number_of}
use Rattle.refusals.proofs.Numbers.{not_none}
use Rattle.rules.specs.Refusals.{Judged}
use Rattle.rules.specs.Stream.{Command}
use Rattle.rules.specs.Job.{Step, step_by, step}
use Rattle.rules.specs.Job as rules
use Rattle.job_state.specs.declared.Job.{Job}
use Rattle.job_state.specs.declared.Saying.{Saying}
use Rattle.std.proofs.Common.{Result, Err}
use Rattle.job_state.specs.declared.Stepped.{Stepped}
use Rattle.job_state.specs.State.{job_of, saying_by, saying_from, step_from}
use Rattle.job_state.specs.Steps.{plain_step, job_next, job_after, numbers_told, numbers_beside, Steps}

-- a step that equals the one of `rules`
by_step : (j : Job) (command : Command) (r : Stepped) (done : Step) → step (job_of j) command ≡ done → step_from r ≡ done
    → r.job ≡ job_after done.says j (job_next j command) → numbers_told r.says ≡ numbers_beside done.says → Steps j command r
by_step j command r done e s p ns =
    record {
      ruled = s ∙ sym e;
      job = p ∙ ap (λ (x : Step). job_after x.says j (job_next j command)) (sym e);
      numbers = ns ∙ ap (λ (x : Step). numbers_beside x.says) (sym e);
    }

-- a command whose refusals come to the number n
module _ (j : Job) (command : Command) (n : ℕ) (left : rules.Job) (says : rules.Saying) (r : Stepped)
    (by : step (job_of j) command ≡ step_by n (job_of j) left says) where
  -- "A refusal … changes nothing"
  pub refused_step : (why : Refusal) → number_of why ≡ n → r ≡ plain_step j (Err why) → Steps j command r
  refused_step why e p = go n e by
    where
      go : (m : ℕ) → number_of why ≡ m → step (job_of j) command ≡ step_by m (job_of j) left says → Steps j command r
      go zero q o = absurd (not_none why 0 q refl)
      go (suc m) q o = by_step j command r _ o (cc) (cc) (ap (λ (x : Stepped). numbers_told x.says) p)

  module _ (e : n ≡ 0) (l : job_of (job_next j command) ≡ left) where
    pub accepted_step : r.job ≡ job_next j command → saying_from r ≡ Judged.given says → numbers_told r.says ≡ numbers_beside (Judged.given says)
        → Steps j command r
    accepted_step p s ns = by_step j command r (step_by 0 (job_of j) left says) (rw e at by) (cc) p ns

    -- one whose saying is told
    pub plain_step_lem : (s : Result Saying Refusal) (next : Job) → next ≡ job_next j command → r ≡ plain_step next s
        → ((size : ℕ) (ws : List ℕ) → saying_by s size ws ≡ Judged.given says) → numbers_told s ≡ numbers_beside (Judged.given says) → Steps j command r
    plain_step_lem s next k p said told =
        accepted_step (ap (λ (x : Stepped). x.job) p ∙ k) (ap saying_from p ∙ said _ _) (ap (λ (x : Stepped). numbers_told x.says) p ∙ told)
