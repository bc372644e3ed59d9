-- A draw on the code's job: its two buffers have a place for each unit of a panel, so that 6 does not apply, and exactly z places of each are
-- written.
use Prim.Native.Nat.{ℕ, zero, suc}
use native.Mathlib.Omega.{arith}
use mathlib.Core.Path.{◌≡◌, refl, sym, ap, ◌∙◌}
use mathlib.Core.List.{List}
use lib.ListN.{length, take, drop}
use lib.Seq.{take_at}
use borrow.Author.Tests.{le-ltb}
use Rattle.std.specs.Prelude.{Result, Ok, Err}
use Rattle.refusals.specs.declared.Refusal.{Refusal}
use Rattle.refusals.specs.Number.{number_of}
use Rattle.rules.specs.Refusals.{judged, written}
use Rattle.rules.specs.TakeAll.{Frame, Group, take_all_group}
use Rattle.rules.specs.Draw.{Method, Drawn, panel_numbers, panel_weights, frame_refusal, draw_refusal, draw_answer, draw_numbers_by, draw_weights_by, draw_numbers, draw_weights}
use Rattle.rules.specs.Stream.{Command}
use Rattle.rules.specs.Job.{on_draw, step}
use Rattle.rules.proofs.Tests.{or_off}
use Rattle.rules.proofs.Refusals.{refuse_off, then_stops, then_goes, given_tells, refused_tells}
use Rattle.frame.proofs.Accepted.{accepted}
use Rattle.draw.specs.declared.Drawn.{Drawn as Sampled}
use Rattle.draw.specs.Answer.{answer_from}
use Rattle.draw.proofs.Intended.{z_numbers, z_weights}
use Rattle.job_state.specs.declared.Job.{Job}
use Rattle.job_state.specs.declared.Stepped.{Stepped}
use Rattle.job_state.specs.declared.Saying.TheVariants.{Panel}
use Rattle.job_state.specs.State.{job_of}
use Rattle.job_state.specs.Steps.{each, panel_held, job_next, plain_step, Steps}
use Rattle.job_state.proofs.Jobs.{panel_held_lem}
use Rattle.job_state.proofs.Steps.{refused_step, accepted_step}

-- 6 does not apply to two buffers of a panel's size
room : (f : Frame) (z start : ℕ) → draw_refusal f z start (each 0) (each 0) ≡ frame_refusal f z start
unfolding draw_refusal
room f z start = go (frame_refusal f z start) refl
  where
    go : (n : ℕ) → frame_refusal f z start ≡ n → draw_refusal f z start (each 0) (each 0) ≡ frame_refusal f z start
    go zero e =
        let few = le-ltb (length (each 0)) z (accepted f z start e).units.size_few in
        then_goes _ _ e ∙ refuse_off _ 6 (or_off _ _ few ∙ few) ∙ sym e
    go (suc n) e = then_stops _ _ (λ none. let no : ⊥ = omega arith in no)

-- the first places of a buffer that holds a panel
front : (news buffer : List ℕ) (z : ℕ) → length news ≡ z → take z (written 0 news buffer) ≡ news
front news buffer z e = take_at news (drop (length news) buffer) z e

module _ (j : Job) (z start : ℕ) (part : Frame) (same_frame : part ≡ (job_of j).units) where
  abbrev f : Frame
  f = (job_of j).units

  abbrev g : Group
  g = take_all_group f.turnovers z

  module _ (told : Result Sampled Refusal) (is : answer_from told ≡ draw_answer part z start (each 0) (each 0)) where
    abbrev answer : Drawn
    answer = record { sample_size = g.sample_size; rest = g.rest }

    answered : (x : Result Sampled Refusal) → told ≡ x → answer_from x ≡ judged (frame_refusal f z start) answer
    unfolding draw_answer
    answered x t =
        sym (ap answer_from t) ∙ is ∙ ap (λ (y : Frame). draw_answer y z start (each 0) (each 0)) same_frame
        ∙ ap (λ (n : ℕ). judged n answer) (room f z start)

    pub draw_refused : (r : Stepped) (why : Refusal) → told ≡ Err why → r ≡ plain_step j (Err why)
        → Steps j (Command.draw z start) r
    unfolding step on_draw
    draw_refused r why t p =
        let number = refused_tells (frame_refusal f z start) (number_of why) answer (answered _ t) in
        refused_step j _ (frame_refusal f z start) _ _ r refl why number p

    pub draw_accepted : (a : Sampled) (left : Job) (ns ws : List ℕ) → told ≡ Ok a → ns ≡ draw_numbers part z start (each 0) (each 0)
        → ws ≡ draw_weights part z start (each 0) (each 0) → left ≡ panel_held j z ws
        → Steps j (Command.draw z start) (record { job = left; says = Ok (Panel ns) })
    unfolding step on_draw draw_numbers_by draw_weights_by
    draw_accepted a left ns ws t d w l =
        let none = (given_tells (frame_refusal f z start) answer (record { sample_size = a.n; rest = a.rest }) (answered _ t)).0 in
        let ok : draw_refusal f z start (each 0) (each 0) ≡ 0 = room f z start ∙ none in
        let all : (news : List ℕ) → written (draw_refusal f z start (each 0) (each 0)) news (each 0) ≡ written 0 news (each 0) =
        λ news. ap (λ (m : ℕ). written m news (each 0)) ok in
        let ns-are = d ∙ ap (λ (y : Frame). draw_numbers y z start (each 0) (each 0)) same_frame ∙ all (panel_numbers Method.pareto f g start) in
        let ws-are = w ∙ ap (λ (y : Frame). draw_weights y z start (each 0) (each 0)) same_frame ∙ all (panel_weights Method.pareto f g start) in
        let is-next : left ≡ job_next j (Command.draw z start) = l ∙ ap (panel_held j z) ws-are in
        let shown-ns = front (panel_numbers Method.pareto f g start) (each 0) z (z_numbers Method.pareto f z start none) in
        let shown-ws = front (panel_weights Method.pareto f g start) (each 0) z (z_weights Method.pareto f z start none) in
        accepted_step j _ (frame_refusal f z start) _ _ _ refl none
        (panel_held_lem j z (panel_weights Method.pareto f g start) (z_weights Method.pareto f z start none) (accepted f z start none).units.size_few) is-next (cc) ns-are
