-- THE WHOLE STREAM. What a run prints (specs/Run.antt: turns that each meet the contract of `turn`, from the empty job and the whole stream until one
-- does not go on) is what `rules` says the stream prints. Each turn takes a command, so that the commands are fewer than the bytes.
use Prim.Native.Nat.{ℕ, zero, suc, ◌-◌, ◌≤◌, ◌<◌}
use mathlib.Core.Bool.{Bool, true, cond, false≢true}
use mathlib.Core.Path.{◌≡◌, refl, sym, ap, ap₂, ◌∙◌}
use mathlib.Core.List.{List, [], ◌++◌, append-nil}
use lib.ListN.{length, take, drop, length-append}
use lib.Seq.{take_at, take_all, length-take-le}
use native.Mathlib.Omega.{arith}
use borrow.Author.Tests.{lt-ltb, le-ltb}
use Rattle.rules.specs.Limits.{most_stream}
use Rattle.rules.specs.Refusals.{Judged, refuse, ◌then◌}
use Rattle.rules.specs.Stream.{Front, reading_refusal, reading, rest_of}
use Rattle.rules.specs.Lines.{refusal_line}
use Rattle.rules.specs.Job.{Job, Saying, empty_job, step, printed_by, front_printed, printed, output}
use Rattle.rules.proofs.Tests.{by_order}
use Rattle.stream_read.proofs.Unread.{rest_shorter as shorter}
use Rattle.job_state.specs.declared.Job as code
use Rattle.job_state.specs.State.{job_of}
use Rattle.job_turn.specs.declared.Turned.{Turned}
use Rattle.job_text.specs.Text.{continues, text_at}
use Rattle.job_turn.specs.Turn.{Turn, turn_by, turn_of, Renders}
use Rattle.job_turn.specs.Run.{Run, stops, goes_on}

-- what a turn's text is followed by
abbrev then_printed : Turn → (Job → List ℕ) → List ℕ
then_printed t later = t.text ++ cond t.more (later t.job) []

-- what a command prints, and what follows it
by_saying : (says : Judged Saying) (offset : ℕ) (later : List ℕ) → printed_by says offset later ≡ text_at says offset ++ cond (continues says) later []
by_saying (Judged.refused n) offset later = sym (append-nil (refusal_line n offset))
by_saying (Judged.given s) offset later = refl

by_front : (r : Judged Front) (offset : ℕ) (j : Job) (later : Job → List ℕ) → front_printed r offset j later ≡ then_printed (turn_by r offset j) later
by_front (Judged.refused k) offset j later = sym (append-nil (refusal_line k offset))
by_front (Judged.given Front.ended) offset j later = refl
by_front (Judged.given (Front.command c)) offset j later = by_saying (step j c).says offset (later (step j c).job)

-- a stream prints what its first turn prints, and then what the rest prints
by_turns : (n most : ℕ) (s : List ℕ) (j : Job) → printed n (suc most) s j ≡ then_printed (turn_of n s j) (printed n most (rest_of s))
unfolding printed turn_of
by_turns n most s j = by_front (reading s) (n - length s) j (λ k. printed n most (rest_of s) k)

-- 15: no command is read of a part over the limit
too_long : (s : List ℕ) → most_stream < length s → reading s ≡ Judged.refused 15
unfolding reading reading_refusal refuse ◌then◌
too_long s h = rw (lt-ltb most_stream (length s) h)

-- a turn that goes on has read a command, of a part within the limit, and so the rest is shorter
pub within_limit : (n : ℕ) (s : List ℕ) (j : Job) → (turn_of n s j).more ≡ true → length s ≤ most_stream
unfolding turn_of
within_limit n s j e =
    by_order most_stream (length s)
    (λ long. absurd (false≢true (sym (ap (λ (r : Judged Front). (turn_by r (n - length s) j).more) (too_long s long)) ∙ e)))
    (λ short. short)

pub rest_shorter : (n : ℕ) (s : List ℕ) (j : Job) → (turn_of n s j).more ≡ true → length (rest_of s) < length s
unfolding turn_of
rest_shorter n s j e = go (reading s) refl e
  where
    go : (r : Judged Front) → reading s ≡ r → (turn_by r (n - length s) j).more ≡ true → length (rest_of s) < length s
    go (Judged.refused k) q o = let no : ◌≡◌ {A = ℕ} 0 1 = cc in absurd (omega arith)
    go (Judged.given Front.ended) q o = let no : ◌≡◌ {A = ℕ} 0 1 = cc in absurd (omega arith)
    go (Judged.given (Front.command c)) q o = shorter s c q

module _ {n : ℕ} {s : List ℕ} {j : code.Job} (r : Turned) (before after : List ℕ) (h : Renders n s j r before after) where
  abbrev turn : Turn
  turn = turn_of n s (job_of j)

  -- the bytes that a turn's caller prints are the turn's text
  pub shown : take r.count after ≡ turn.text
  shown =
      ap₂ (λ (m : ℕ) (l : List ℕ). take m l) h.count h.text
      ∙ take_at turn.text (drop (length turn.text) before) (length turn.text) refl

  -- and they are all in the buffer
  pub count_within : r.count ≤ length after
  count_within = omega (arith, h.count, ap length h.text, length-append turn.text (drop (length turn.text) before))

  -- what a stream prints from this turn on, by whether the code says that there is a next
  pub from_turn : (most : ℕ) → printed n (suc most) s (job_of j) ≡ take r.count after ++ cond r.more
      (printed n most (rest_of s) (job_of r.job)) []
  from_turn most =
      by_turns n most s (job_of j)
      ∙ ap₂ (λ (t u : List ℕ). t ++ u) (sym shown)
      (ap₂ (λ (b : Bool) (k : Job). cond b (printed n most (rest_of s) k) []) (sym h.goes) (sym h.next))

-- a run prints what its unread part prints; `most` bounds the commands
prints : (n : ℕ) {s : List ℕ} {j : code.Job} {text : List ℕ} → Run n s j text → (most : ℕ) → length s < most → text ≡ printed n most s (job_of j)
prints n (stops r before after h e) zero l = absurd (omega arith)
prints n (stops {s} {j} r before after h e) (suc most) l =
    sym (append-nil (take r.count after))
    ∙ ap (λ (b : Bool). take r.count after ++ cond b (printed n most (rest_of s) (job_of r.job)) []) (sym e)
    ∙ sym (from_turn r before after h most)
prints n (goes_on r before after h e rest) zero l = absurd (omega arith)
prints n (goes_on {s} {j} r before after h e rest) (suc most) l =
    let fewer : length (rest_of s) < most = omega (arith, rest_shorter n s (job_of j) (sym h.goes ∙ e)) in
    ap (λ (u : List ℕ). take r.count after ++ u) (prints n rest most fewer)
    ∙ ap (λ (b : Bool). take r.count after ++ cond b (printed n most (rest_of s) (job_of r.job)) []) (sym e)
    ∙ sym (from_turn r before after h most)

-- a stream over the limit prints `R 15 0` alone, by its first turn too
module _ (stream : List ℕ) where
  over_limit : (j : Job) → most_stream < length stream → printed (length stream) (suc (length stream)) stream j ≡ refusal_line 15 0
  unfolding printed
  over_limit j h =
      let start : length stream - length stream ≡ 0 = omega arith in
      let later = printed (length stream) (length stream) (rest_of stream) in
      ap (λ (r : Judged Front). front_printed r (length stream - length stream) j later) (too_long stream h)
      ∙ ap (refusal_line 15) start

  over : most_stream < length stream → output stream ≡ refusal_line 15 0
  unfolding output
  over h = rw (lt-ltb most_stream (length stream) h)

  within : length stream ≤ most_stream → output stream ≡ printed (length stream) (suc (length stream)) stream empty_job
  unfolding output
  within h = rw (le-ltb most_stream (length stream) h)

  pub by_limit : output stream ≡ printed (length stream) (suc (length stream)) stream empty_job
  by_limit = by_order most_stream (length stream) (λ h. over h ∙ sym (over_limit empty_job h)) within

-- THE THEOREM: a run from the empty job over the whole stream prints what document 01 says of the stream
pub whole : (stream text : List ℕ) (j : code.Job) → job_of j ≡ empty_job → Run (length stream) stream j text → text ≡ output stream
whole stream text j e r =
    prints (length stream) r (suc (length stream)) (omega arith) ∙ ap (printed (length stream) (suc (length stream)) stream) e ∙ sym (by_limit stream)

-- The program reads no more than one byte over the limit, which prints the same.
pub cut : (stream : List ℕ) (room : ℕ) → most_stream < room → output (take room stream) ≡ output stream
cut stream room h =
    by_order room (length stream)
    (λ long.
    let kept : length (take room stream) ≡ room = length-take-le room stream (omega arith) in
    over (take room stream) (omega arith) ∙ sym (over stream (omega arith)))
    (λ short. ap output (take_all room stream short))
