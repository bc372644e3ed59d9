-- Document 01, "Job stream": the job's state, what each command does, and what a whole stream prints; refusals 15 to 20.
use Rattle.std.specs.Prelude.{ℕ, zero, suc, ◌-◌, cond, List, [], ◌∷◌, ◌++◌, length, replicate, set, ltb, leb}
use Rattle.rules.specs.Limits.{share_scale, most_stream, most_held}
use Rattle.rules.specs.Refusals.{Judged, refuse, ◌then◌, judged, stays}
use Rattle.rules.specs.TakeAll.{Frame, frame, take_all_group}
use Rattle.rules.specs.Draw.{Method, panel_numbers, panel_weights, frame_refusal}
use Rattle.rules.specs.Chain.{Chain, Call, relatives, shared, open_refusal, open_record, call_refusal, figure_of, accepted}
use Rattle.rules.specs.Stream.{Command, Front, reading, rest_of}
use Rattle.rules.specs.Lines.{panel_lines, quarter_line, close_line, refusal_line}

pub data OpenChain : Type 0 where
  none : OpenChain
  current : Chain → OpenChain

-- The frame so far, the W of the drawn panel ("without a panel its size is 0"), its shares and pending relatives, and the open chain.
pub record Job : Type 0 where
  pub units : Frame
  pub panel : List ℕ
  pub shares : List ℕ
  pub pending : List ℕ
  pub chain : OpenChain

unfoldable pub empty_job : Job
empty_job = record { units = frame [] [] []; panel = []; shares = []; pending = []; chain = none }

-- what a command that is not refused says: nothing, a panel's unit numbers and W, or a figure
pub data Saying : Type 0 where
  nothing : Saying
  panel_drawn : List ℕ → List ℕ → Saying
  quarter_figure : ℕ → Saying
  close_figure : ℕ → Saying

pub record Step : Type 0 where
  pub job : Job
  pub says : Judged Saying

-- a command whose refusals come to a number: the job that it leaves, and what it says
abbrev pub step_by : ℕ → Job → Job → Saying → Step
step_by refusal j next says = record { job = stays refusal j next; says = judged refusal says }

-- one more at the end
abbrev pub snoc : List ℕ → ℕ → List ℕ
snoc xs x = xs ++ (x ∷ [])

-- "A unit given after a draw waits for the next draw": it only joins the frame
unfoldable pub with_unit : Job → ℕ → ℕ → ℕ → Job
with_unit j n t r =
    record {
      units = frame (snoc j.units.numbers n) (snoc j.units.turnovers t) (snoc j.units.randoms r);
      panel = j.panel;
      shares = j.shares;
      pending = j.pending;
      chain = j.chain;
    }

-- 20: "a unit when 1,024 are held"
unfoldable pub on_unit : Job → ℕ → ℕ → ℕ → Step
on_unit j n t r = step_by (refuse (leb most_held (length j.units.numbers)) 20) j (with_unit j n t r) nothing

-- "A draw sets all shares to 10,000 and all relatives to 0 and drops an open chain; the frame stays."
unfoldable pub with_panel : Job → ℕ → List ℕ → Job
with_panel j z weights =
    record { units = j.units; panel = weights; shares = replicate z share_scale; pending = replicate z 0; chain = none }

unfoldable pub on_draw : Job → ℕ → ℕ → Step
on_draw j z start =
    let g = take_all_group j.units.turnovers z in
    let weights = panel_weights Method.pareto j.units g start in
    step_by (frame_refusal j.units z start) j (with_panel j z weights) (panel_drawn (panel_numbers Method.pareto j.units g start) weights)

-- 18: "place not below panel size". "Values of … shares and relatives are judged by the draw, open, quarter or close that uses them."
unfoldable pub place_refusal : Job → ℕ → ℕ
place_refusal j place = refuse (leb (length j.panel) place) 18

unfoldable pub with_share : Job → ℕ → ℕ → Job
with_share j place g =
    record {
      units = j.units;
      panel = j.panel;
      shares = set j.shares place g;
      pending = j.pending;
      chain = j.chain;
    }

unfoldable pub on_share : Job → ℕ → ℕ → Step
on_share j place g = step_by (place_refusal j place) j (with_share j place g) nothing

unfoldable pub with_relative : Job → ℕ → ℕ → Job
with_relative j place p =
    record {
      units = j.units;
      panel = j.panel;
      shares = j.shares;
      pending = set j.pending place p;
      chain = j.chain;
    }

unfoldable pub on_relative : Job → ℕ → ℕ → Step
on_relative j place p = step_by (place_refusal j place) j (with_relative j place p) nothing

-- "An accepted open, quarter or close sets all relatives to 0", with the chain that it leaves
unfoldable pub with_chain : Job → Chain → Job
with_chain j r =
    record {
      units = j.units;
      panel = j.panel;
      shares = j.shares;
      pending = replicate (length j.panel) 0;
      chain = current r;
    }

-- 19: "open without a panel", before the open's own. "Open uses the pending relatives as a."
unfoldable pub on_open : Job → ℕ → Step
on_open j start =
    step_by
    (refuse (leb (length j.panel) 0) 19
    then open_refusal j.panel j.shares j.pending start)
    j
    (with_chain j (open_record (shared j.panel j.shares) j.pending start))
    nothing

-- what a call says that gives a figure: `Q F` or `C F`
abbrev pub figure_said : Call → ℕ → Saying
figure_said (Call.quarter ps) f = quarter_figure f
figure_said (Call.close ps) f = close_figure f

-- 19: "quarter or close without a chain"
abbrev pub on_call : Job → OpenChain → Call → Step
on_call j none call = step_by 19 j j nothing
on_call j (current r) call =
    step_by (call_refusal r call) j (with_chain j (accepted r call)) (figure_said call (figure_of r (relatives call)))

unfoldable pub step : Job → Command → Step
step j (Command.unit n t r) = on_unit j n t r
step j (Command.draw z start) = on_draw j z start
step j (Command.share place g) = on_share j place g
step j (Command.relative place p) = on_relative j place p
step j (Command.opens start) = on_open j start
step j Command.quarter = on_call j j.chain (Call.quarter j.pending)
step j Command.close = on_call j j.chain (Call.close j.pending)

-- "prints in decimal": the text of what a command says
abbrev pub text_of : Saying → List ℕ
text_of nothing = []
text_of (panel_drawn numbers weights) = panel_lines numbers weights
text_of (quarter_figure f) = quarter_line f
text_of (close_figure f) = close_line f

-- "`R number offset` (of the refused command's first byte), after which it stops": what follows is printed unless the command was refused
abbrev pub printed_by : Judged Saying → ℕ → List ℕ → List ℕ
printed_by (Judged.refused n) offset later = refusal_line n offset
printed_by (Judged.given s) offset later = text_of s ++ later

-- what stands at the front of the unread part prints, and what follows it
abbrev pub front_printed : Judged Front → ℕ → Job → (Job → List ℕ) → List ℕ
front_printed (Judged.refused k) offset j later = refusal_line k offset
front_printed (Judged.given Front.ended) offset j later = []
front_printed (Judged.given (Front.command c)) offset j later =
    let done = step j c in
    let follows = later done.job in
    printed_by done.says offset follows

-- what the unread part s of a stream of n bytes prints, from a job on; `most` bounds the commands
unfoldable pub printed : ℕ → ℕ → List ℕ → Job → List ℕ
printed n zero s j = []
printed n (suc most) s j = front_printed (reading s) (n - length s) j (λ k. printed n most (rest_of s) k)

-- What `chainrun` prints for a stream; 15: "`R 15 0` alone is printed". Each command takes a byte or more, and one reading finds the end.
unfoldable pub output : List ℕ → List ℕ
output stream =
    cond (ltb most_stream (length stream)) (refusal_line 15 0)
    (printed (length stream) (suc (length stream)) stream empty_job)
