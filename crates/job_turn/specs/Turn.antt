-- Document 01, "Job stream": one turn of a stream, from the part that starts at the current command: what it prints, the job that it leaves, and
-- whether the stream goes on. The turns of a stream, joined, are what `rules` says it prints (proofs/Whole.antt).
use Rattle.std.specs.Prelude.{ℕ, ◌-◌, Bool, false, ◌≡◌, List, [], length}
use Rattle.rules.specs.Refusals.{Judged, written}
use Rattle.rules.specs.Stream.{Front, reading}
use Rattle.rules.specs.Lines.{refusal_line}
use Rattle.rules.specs.Job.{Job, Step, step}
use Rattle.job_state.specs.declared.Job as code
use Rattle.job_state.specs.State.{job_of}
use Rattle.job_state.specs.Steps.{job_after, job_next}
use Rattle.job_text.specs.Text.{continues, text_at}
use Rattle.job_turn.specs.declared.Turned.{Turned}

-- what a turn prints, the job after it, and whether there is a next turn
pub record Turn : Type 0 where
  pub text : List ℕ
  pub job : Job
  pub more : Bool

-- the turn of a command, by its step
abbrev pub turn_after : Step → ℕ → Turn
turn_after done offset = record { text = text_at done.says offset; job = done.job; more = continues done.says }

abbrev pub turn_by : Judged Front → ℕ → Job → Turn
turn_by (Judged.refused k) offset j = record { text = refusal_line k offset; job = j; more = false }
turn_by (Judged.given Front.ended) offset j = record { text = []; job = j; more = false }
turn_by (Judged.given (Front.command c)) offset j = turn_after (step j c) offset

-- the turn at the unread part s of a stream of n bytes; "offset (of the refused command's first byte)"
unfoldable pub turn_of : ℕ → List ℕ → Job → Turn
turn_of n s j = turn_by (reading s) (n - length s) j

-- the code's job after a turn, every place of it: it stays unless a command was read and accepted
abbrev pub held_after : Judged Front → code.Job → code.Job
held_after (Judged.refused k) j = j
held_after (Judged.given Front.ended) j = j
held_after (Judged.given (Front.command c)) j = job_after (step (job_of j) c).says j (job_next j c)

-- what the code hands back, and the text buffer before and after, are those of the turn at s from the job j on
pub record Renders (n : ℕ) (s : List ℕ) (j : code.Job) (r : Turned) (before after : List ℕ) : Type 0 where
  pub next : job_of r.job ≡ (turn_of n s (job_of j)).job
  pub whole : r.job ≡ held_after (reading s) j
  pub goes : r.more ≡ (turn_of n s (job_of j)).more
  pub count : r.count ≡ length (turn_of n s (job_of j)).text
  pub text : after ≡ written 0 (turn_of n s (job_of j)).text before
