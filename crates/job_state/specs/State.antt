-- Document 01, "Job stream": what the code's job and its steps are in the definitions of `rules`.
use Rattle.std.specs.Prelude.{ℕ, ◌≡◌, List, take, Option, Some, None, Result, Ok, Err}
use Rattle.refusals.specs.declared.Refusal.{Refusal}
use Rattle.refusals.specs.Number.{number_of}
use Rattle.rules.specs.Refusals.{Judged}
use Rattle.rules.specs.TakeAll.{Frame, frame}
use Rattle.rules.specs.Job as rules
use Rattle.chain.specs.declared.Chain.{Chain}
use Rattle.chain.specs.declared.Kind.TheVariants.{Quarter, Close}
use Rattle.chain.specs.Record.{record_of}
use Rattle.chain_open_input.specs.declared.Lists.{Lists}
use Rattle.job_state.specs.declared.HeldFrame.{HeldFrame}
use Rattle.job_state.specs.declared.HeldPanel.{HeldPanel}
use Rattle.job_state.specs.declared.Job.{Job}
use Rattle.job_state.specs.declared.Stepped.{Stepped}
use Rattle.job_state.specs.declared.Saying.{Saying}
use Rattle.job_state.specs.declared.Saying.TheVariants.{Nothing, Panel, Figure}

-- the units of the frame so far. A number beyond the places of the arrays is read as all of them, as a panel's size is.
abbrev pub units_of : HeldFrame → Frame
units_of f = frame (take f.units f.numbers) (take f.units f.turnovers) (take f.units f.randoms)

-- the three lists of an opening are those of the panel
pub record Parts (p : HeldPanel) (l : Lists) : Type 0 where
  pub weights : l.weights.now ≡ take p.size p.weights
  pub shares : l.shares.now ≡ take p.size p.shares
  pub relatives : l.relatives.now ≡ take p.size p.pending

-- the open chain, if there is one
abbrev pub chain_of : Option Chain → rules.OpenChain
chain_of None = rules.OpenChain.none
chain_of (Some c) = rules.OpenChain.current (record_of c)

-- the code's job
abbrev pub job_of : Job → rules.Job
job_of j =
    record {
      units = units_of j.frame;
      panel = take j.panel.size j.panel.weights;
      shares = take j.panel.size j.panel.shares;
      pending = take j.panel.size j.panel.pending;
      chain = chain_of j.chain;
    }

-- what a command says, with the size and the W of the panel
abbrev pub saying_by : Result Saying Refusal → ℕ → List ℕ → Judged rules.Saying
saying_by (Err why) size weights = Judged.refused (number_of why)
saying_by (Ok Nothing) size weights = Judged.given rules.Saying.nothing
saying_by (Ok (Panel numbers)) size weights = Judged.given (rules.Saying.panel_drawn (take size numbers) weights)
saying_by (Ok (Figure Quarter f)) size weights = Judged.given (rules.Saying.quarter_figure f)
saying_by (Ok (Figure Close f)) size weights = Judged.given (rules.Saying.close_figure f)

-- what the code's step says: a panel is that of the job it leaves
abbrev pub saying_from : Stepped → Judged rules.Saying
saying_from s = saying_by s.says s.job.panel.size (job_of s.job).panel

-- the code's step: the next job and what is said
abbrev pub step_from : Stepped → rules.Step
step_from s = record { job = job_of s.job; says = saying_from s }
