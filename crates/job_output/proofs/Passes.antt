-- A pass over the turns of a stream: the texts so far stand one behind the other at the front of the buffer, and the turns to come print the rest.
-- A text takes at most `panel_room` bytes, and each turn that goes on reads a byte or more of at most `most_stream`, so that no sum wraps.
use Prim.Native.Nat.{ℕ, zero, suc, pred, ◌+◌, ◌*◌, ◌-◌, ◌≤◌, ◌<◌}
use mathlib.Core.Bool.{Bool, true, false, cond}
use mathlib.Core.Path.{◌≡◌, refl, sym, ap, ap₂, ◌∙◌}
use mathlib.Core.List.{List, [], ◌++◌, append_assoc, append-nil}
use lib.ListN.{length, take, length-append}
use lib.Seq.{take-append_seam, drop-append-add, drop-drop, length-take-le}
use native.Mathlib.Omega.{arith}
use Rattle.rules.specs.Limits.{most_stream}
use Rattle.rules.specs.Refusals.{written}
use Rattle.rules.specs.Stream.{rest_of}
use Rattle.rules.specs.Job.{empty_job, printed, output}
use Rattle.job_state.specs.declared.Job.{Job}
use Rattle.job_state.specs.State.{job_of}
use Rattle.text_decimal.specs.Put.{laid_at}
use Rattle.text_lines.specs.Laid.{panel_room}
use Rattle.job_turn.specs.declared.Turned.{Turned}
use Rattle.job_turn.specs.Turn.{Renders}
use Rattle.job_turn.proofs.Whole.{rest_shorter, within_limit, count_within, from_turn, by_limit}
use Rattle.job_output.specs.Printed.{fitted, Passed}
use Rattle.job_output.proofs.Fitting.{room}

-- where a pass stands at the unread part of a stream
pub record Under (stream before out unread : List ℕ) (held : Job) (at : ℕ) : Type 0 where
  pub done : List ℕ
  pub most : ℕ
  pub place : at ≡ length done
  pub whole : output stream ≡ done ++ printed (length stream) most unread (job_of held)
  pub enough : length unread < most
  pub kept : length out ≡ length before
  pub laid : length (output stream) ≤ length before → out ≡ written 0 done before
  pub few : at ≤ panel_room * (most_stream - length unread)

pub start : (stream before : List ℕ) (held : Job) → job_of held ≡ empty_job → Under stream before before stream held 0
start stream before held e =
    record {
      done = [];
      most = suc (length stream);
      place = refl;
      whole = by_limit stream ∙ ap (printed (length stream) (suc (length stream)) stream) (sym e);
      enough = omega arith;
      kept = refl;
      laid = λ _. refl;
      few = omega arith;
    }

-- a part laid behind what stands at the front
behind : (done part before : List ℕ) → laid_at (length done) part (written 0 done before) ≡ written 0 (done ++ part) before
unfolding laid_at
behind done part before = simp (take-append_seam, drop-append-add, drop-drop, append_assoc, length-append)

-- a turn at the unread part, its text laid behind the others
module _ (stream before out unread : List ℕ) (held : Job) (at : ℕ) (u : Under stream before out unread held at) (r : Turned)
    (text₀ text after : List ℕ) (h : Renders (length stream) unread held r text₀ text) (l : after ≡ fitted at (take r.count text) out) where
  abbrev part : List ℕ
  part = take r.count text

  -- what is printed after this turn
  abbrev afterwards : List ℕ → List ℕ
  afterwards rest = printed (length stream) (pred u.most) rest (job_of r.job)

  abbrev later : List ℕ
  later = afterwards (rest_of unread)

  part_length : length part ≡ r.count
  part_length = length-take-le r.count text (count_within r text₀ text h)

  parts : output stream ≡ (u.done ++ part) ++ cond r.more later []
  parts = u.whole ∙ ap (λ (x : List ℕ). u.done ++ x) (go u.most u.enough) ∙ sym (append_assoc u.done part _)
    where
      go : (most : ℕ) → length unread < most → printed (length stream) most unread (job_of held) ≡ part ++ cond r.more
          (printed (length stream) (pred most) (rest_of unread) (job_of r.job)) []
      go zero e = absurd (omega arith)
      go (suc most) e = from_turn r text₀ text h most

  place : at + r.count ≡ length (u.done ++ part)
  place = omega (arith, u.place, part_length, length-append u.done part)

  laid : length (output stream) ≤ length before → after ≡ written 0 (u.done ++ part) before
  laid fits =
      let fit : at + length part ≤ length out =
      omega (arith, u.kept, ap length parts, length-append (u.done ++ part) (cond r.more later []), place, part_length) in
      l ∙ room out part at fit ∙ ap₂ (λ (n : ℕ) (x : List ℕ). laid_at n part x) u.place (u.laid fits) ∙ behind u.done part before

  -- the last turn
  pub ends : r.more ≡ false → Passed stream before after (at + r.count)
  ends e =
      let all : u.done ++ part ≡ output stream =
      sym (parts ∙ ap (λ (b : Bool). (u.done ++ part) ++ cond b later []) e ∙ append-nil (u.done ++ part)) in
      record { count = place ∙ ap length all; text = λ fits. laid fits ∙ ap (λ (x : List ℕ). written 0 x before) all }

  -- a turn that goes on
  pub again : (rest : List ℕ) → rest ≡ rest_of unread → r.more ≡ true → r.count ≤ panel_room → length after ≡ length out
      → Under stream before after rest r.job (at + r.count)
  again rest q e short same =
      let more = sym h.goes ∙ e in
      let fewer = rest_shorter (length stream) unread (job_of held) more in
      record {
        done = u.done ++ part;
        most = pred u.most;
        place = place;
        whole = parts ∙ ap (λ (b : Bool). (u.done ++ part) ++ cond b later []) e ∙ ap (λ (x : List ℕ). (u.done ++ part) ++ afterwards x) (sym q);
        enough = omega (arith, u.enough, fewer, ap length q);
        kept = same ∙ u.kept;
        laid = laid;
        few = omega (arith, u.few, fewer, ap length q, within_limit (length stream) unread (job_of held) more);
      }
