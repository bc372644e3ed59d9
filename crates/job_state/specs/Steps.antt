-- Document 01, "Job stream", every place: what a command leaves of the code's job and hands back beside it, whole. `job_of` (State.antt) reads the
-- first places of the arrays alone; here each place and each field is given from what came in.
use Rattle.std.specs.Prelude.{ℕ, ◌+◌, ◌≡◌, List, set, replicate, Option, Some, None, Result, Ok, Err}
use Rattle.refusals.specs.declared.Refusal.{Refusal}
use Rattle.rules.specs.Limits.{most_held, most_panel, share_scale}
use Rattle.rules.specs.Refusals.{Judged, written}
use Rattle.rules.specs.TakeAll.{take_all_group}
use Rattle.rules.specs.Draw.{Method, panel_weights}
use Rattle.rules.specs.Chain.{Call, shared, open_record, accepted}
use Rattle.rules.specs.Stream.{Command}
use Rattle.rules.specs.Job as rules
use Rattle.chain.specs.declared.Chain.{Chain}
use Rattle.chain.specs.Record.{record_of, chain_from}
use Rattle.job_state.specs.declared.Job.{Job}
use Rattle.job_state.specs.declared.Saying.{Saying}
use Rattle.job_state.specs.declared.Saying.TheVariants.{Nothing, Panel, Figure}
use Rattle.job_state.specs.declared.Stepped.{Stepped}
use Rattle.job_state.specs.State.{job_of, step_from}

-- one number in each place of a panel
abbrev pub each : ℕ → List ℕ
each x = replicate most_panel x

-- ---- the job that an accepted command leaves
-- before the first command
abbrev pub job_at_start : Job
job_at_start =
    record {
      frame = record { numbers = replicate most_held 0; turnovers = replicate most_held 0; randoms = replicate most_held 0; units = 0 };
      panel = record { weights = each 0; shares = each 0; pending = each 0; size = 0 };
      chain = None;
    }

-- a unit in the place behind those that are held
abbrev pub unit_held : Job → ℕ → ℕ → ℕ → Job
unit_held j n t r =
    let f = j.frame in
    record {
      frame = record { numbers = set f.numbers f.units n; turnovers = set f.turnovers f.units t; randoms = set f.randoms f.units r; units = f.units + 1 };
      panel = j.panel;
      chain = j.chain;
    }

-- a panel of z units with these W, whole shares and no relatives; no chain
abbrev pub panel_held : Job → ℕ → List ℕ → Job
panel_held j z weights =
    record {
      frame = j.frame;
      panel = record { weights = weights; shares = each share_scale; pending = each 0; size = z };
      chain = None;
    }

-- a share in its place
abbrev pub share_held : Job → ℕ → ℕ → Job
share_held j place g =
    let p = j.panel in
    record {
      frame = j.frame;
      panel = record { weights = p.weights; shares = set p.shares place g; pending = p.pending; size = p.size };
      chain = j.chain;
    }

-- a relative in its place
abbrev pub relative_held : Job → ℕ → ℕ → Job
relative_held j place a =
    let p = j.panel in
    record {
      frame = j.frame;
      panel = record { weights = p.weights; shares = p.shares; pending = set p.pending place a; size = p.size };
      chain = j.chain;
    }

-- an open chain, and no relative in any place
abbrev pub chain_held : Job → Chain → Job
chain_held j c =
    let p = j.panel in
    record {
      frame = j.frame;
      panel = record { weights = p.weights; shares = p.shares; pending = each 0; size = p.size };
      chain = Some c;
    }

-- after a draw: the W of its panel in the first places, and 0 in the others
abbrev pub panel_drawn : Job → ℕ → ℕ → Job
panel_drawn j z start =
    let f = (job_of j).units in
    panel_held j z (written 0 (panel_weights Method.pareto f (take_all_group f.turnovers z) start) (each 0))

-- after an open, a quarter or a close: the chain that it leaves
abbrev pub chain_opened : Job → ℕ → Job
chain_opened j start = chain_held j (chain_from (open_record (shared (job_of j).panel (job_of j).shares) (job_of j).pending start))

-- a call is accepted with a chain alone
abbrev pub chain_called : Job → Option Chain → Call → Job
chain_called j None call = j
chain_called j (Some c) call = chain_held j (chain_from (accepted (record_of c) call))

-- by each command that is accepted
abbrev pub job_next : Job → Command → Job
job_next j (Command.unit n t r) = unit_held j n t r
job_next j (Command.draw z start) = panel_drawn j z start
job_next j (Command.share place g) = share_held j place g
job_next j (Command.relative place p) = relative_held j place p
job_next j (Command.opens start) = chain_opened j start
job_next j Command.quarter = chain_called j j.chain (Call.quarter (job_of j).pending)
job_next j Command.close = chain_called j j.chain (Call.close (job_of j).pending)

-- ---- the step
-- a step that leaves this job and says this
abbrev pub plain_step : Job → Result Saying Refusal → Stepped
plain_step j says = record { job = j; says = says }

-- "A refusal … changes nothing": the job that came in, whole, after a refusal, and else the next
abbrev pub job_after : Judged rules.Saying → Job → Job → Job
job_after (Judged.refused n) before next = before
job_after (Judged.given says) before next = next

-- the unit numbers that the code hands back, every place; 0 where it hands back none
abbrev pub numbers_told : Result Saying Refusal → List ℕ
numbers_told (Err why) = each 0
numbers_told (Ok Nothing) = each 0
numbers_told (Ok (Panel numbers)) = numbers
numbers_told (Ok (Figure kind f)) = each 0

-- the unit numbers of what is said: those of a drawn panel in the first places, and 0 in the others
abbrev pub numbers_beside : Judged rules.Saying → List ℕ
numbers_beside (Judged.refused n) = each 0
numbers_beside (Judged.given rules.Saying.nothing) = each 0
numbers_beside (Judged.given (rules.Saying.panel_drawn numbers weights)) = written 0 numbers (each 0)
numbers_beside (Judged.given (rules.Saying.quarter_figure f)) = each 0
numbers_beside (Judged.given (rules.Saying.close_figure f)) = each 0

-- What the code hands back for a command: the step of `rules`; the whole job; and the unit numbers, every place.
pub record Steps (before : Job) (command : Command) (r : Stepped) : Type 0 where
  pub ruled : step_from r ≡ rules.step (job_of before) command
  pub job : r.job ≡ job_after (rules.step (job_of before) command).says before (job_next before command)
  pub numbers : numbers_told r.says ≡ numbers_beside (rules.step (job_of before) command).says
