-- An open, a quarter and a close on the code's job: the chain is handed what the job stands for, the first places of the panel's arrays, and the
-- step is read off its answer.
use Prim.Native.Nat.{ℕ, min, ◌≤◌, ◌<◌}
use native.Mathlib.Nat.{pos_of_ne-zero}
use native.Mathlib.Omega.{arith}
use mathlib.Core.Path.{◌≡◌, refl, sym, ap, ◌∙◌}
use mathlib.Core.List.{List}
use lib.Dec.{leb}
use lib.ListN.{length}
use borrow.Author.Tests.{le-leb, lt-leb}
use Rattle.refusals.specs.declared.Refusal.{Refusal}
use Rattle.refusals.specs.declared.Refusal.TheVariants.{State}
use Rattle.refusals.specs.Number.{number_of}
use Rattle.refusals.proofs.Answers.{stops_by_lem}
use Rattle.rules.specs.Limits.{most_panel}
use Rattle.rules.specs.Refusals.{Judged, judged, refuse, ◌then◌}
use Rattle.rules.specs.Stream.{Command}
use Rattle.rules.specs.Chain.{Chain, Call, call_refusal, call_answer, accepted, after, figure_of, relatives, shared, open_refusal, open_record, open_answer}
use Rattle.rules.specs.Job.{Step, step_by, on_call, step, with_chain, figure_said, Saying as Said, on_open}
use Rattle.rules.proofs.Refusals.{stays_goes, given_tells, refused_tells, refuse_on, refuse_off, then_goes}
use Rattle.chain.specs.declared.Answered.{Answered}
use Rattle.chain.specs.declared.Kind.{Kind}
use Rattle.chain.specs.Record.{record_of, chain_from, call_by, answer_from}
use Rattle.chain.specs.declared.Chain.{Chain as CodeChain}
use Rattle.std.specs.Prelude.{Option, Some, None, Result, Ok, Err}
use Rattle.chain_open_input.specs.declared.Lists.{Lists}
use Rattle.chain_open_input.specs.Lists.{over}
use Rattle.chain_open.specs.Opened.{opening_of}
use Rattle.job_state.specs.declared.Job.{Job}
use Rattle.job_state.specs.declared.Stepped.{Stepped}
use Rattle.job_state.specs.declared.Saying.TheVariants.{Nothing, Figure}
use Rattle.job_state.specs.State.{Parts, chain_of, job_of, saying_by}
use Rattle.job_state.specs.Steps.{each, chain_held, chain_called, job_next, plain_step, numbers_beside, Steps, chain_opened}
use Rattle.job_state.proofs.FirstPlaces.{named}
use Rattle.job_state.proofs.Jobs.{chain_held_lem}
use Rattle.job_state.proofs.Steps.{refused_step, plain_step_lem}
use Rattle.job_calls.specs.Commands.{command_by}

-- ---- quarter and close: what each is, after which one argument serves both
module _ (j : Job) where
  by_kind : (kind : Kind) → step (job_of j) (command_by kind) ≡ on_call (job_of j) (job_of j).chain (call_by kind (job_of j).pending)
  unfolding step
  by_kind Kind.Quarter = refl
  by_kind Kind.Close = refl

  next_kind : (kind : Kind) → job_next j (command_by kind) ≡ chain_called j j.chain (call_by kind (job_of j).pending)
  next_kind Kind.Quarter = refl
  next_kind Kind.Close = refl

said_kind : (kind : Kind) (ps : List ℕ) (f size : ℕ) (ws : List ℕ)
    → saying_by (Ok (Figure kind f)) size ws ≡ Judged.given (figure_said (call_by kind ps) f)
said_kind Kind.Quarter ps f size ws = refl
said_kind Kind.Close ps f size ws = refl

none_drawn : (kind : Kind) (ps : List ℕ) (f : ℕ) → each 0 ≡ numbers_beside (Judged.given (figure_said (call_by kind ps) f))
none_drawn Kind.Quarter ps f = refl
none_drawn Kind.Close ps f = refl

module _ (j : Job) (kind : Kind) (r : Stepped) where
  abbrev call : Call
  call = call_by kind (job_of j).pending

  abbrev kept : Option CodeChain → Step
  kept chain = on_call (job_of j) (chain_of chain) call

  pub no_chain : j.chain ≡ None → r ≡ plain_step j (Err State) → Steps j (command_by kind) r
  no_chain o p = refused_step j (command_by kind) 19 (job_of j) Said.nothing r (by_kind j kind ∙ ap kept o) State refl p

  -- the chain is handed the relatives, and tells its answer
  module _ (c : CodeChain) (o : j.chain ≡ Some c) (ps : List ℕ) (e : ps ≡ (job_of j).pending) (told : Answered)
      (a : answer_from told.answer ≡ call_answer (record_of c) (call_by kind ps)) where
    abbrev held : Chain
    held = record_of c

    abbrev figure : ℕ
    figure = figure_of held (relatives call)

    abbrev asked : call_by kind ps ≡ call
    asked = ap (call_by kind) e

    answered : (x : Result ℕ Refusal) → told.answer ≡ x → answer_from x ≡ judged (call_refusal held call) figure
    unfolding call_answer
    answered x t = sym (ap answer_from t) ∙ a ∙ ap (call_answer held) asked

    by_call : step (job_of j) (command_by kind)
        ≡ step_by (call_refusal held call) (job_of j) (with_chain (job_of j) (accepted held call)) (figure_said call figure)
    by_call = by_kind j kind ∙ ap kept o

    pub call_refused : (why : Refusal) → told.answer ≡ Err why → r ≡ plain_step j (Err why) → Steps j (command_by kind) r
    call_refused why t p =
        let number = refused_tells (call_refusal held call) (number_of why) figure (answered _ t) in
        refused_step j (command_by kind) (call_refusal held call) _ _ r by_call why number p

    pub call_figure : length j.panel.weights ≡ most_panel → (f : ℕ) → told.answer ≡ Ok f → record_of told.chain ≡ after held (call_by kind ps)
        → (left : Job) → left ≡ chain_held j told.chain → r ≡ plain_step left (Ok (Figure kind f)) → Steps j (command_by kind) r
    unfolding after
    call_figure places f t k left l p =
        let n = given_tells (call_refusal held call) figure f (answered _ t) in
        let moves : record_of told.chain ≡ accepted held call =
        k ∙ ap (after held) asked ∙ stays_goes (call_refusal held call) held (accepted held call) n.0 in
        let next : job_next j (command_by kind) ≡ chain_called j (Some c) call =
        next_kind j kind ∙ ap (λ (x : Option CodeChain). chain_called j x call) o in
        let ruled = ap job_of next ∙ chain_held_lem j (accepted held call) places in
        let is-next : left ≡ job_next j (command_by kind) = l ∙ ap (λ (x : Chain). chain_held j (chain_from x)) moves ∙ sym next in
        plain_step_lem j (command_by kind) (call_refusal held call) _ _ r by_call n.0 ruled (Ok (Figure kind f)) left is-next p
        (λ size ws. ap (λ (x : ℕ). saying_by (Ok (Figure kind x)) size ws) n.1 ∙ said_kind kind _ figure size ws) (none_drawn kind _ figure)

-- ---- open: 19 without a panel, and else what the opening answers
module _ (j : Job) (start : ℕ) (r : Stepped) (places : length j.panel.weights ≡ most_panel) where
  abbrev without : ℕ
  without = refuse (leb (length (job_of j).panel) 0) 19

  abbrev opening : ℕ
  opening = open_refusal (job_of j).panel (job_of j).shares (job_of j).pending start

  abbrev opened : Chain
  opened = open_record (shared (job_of j).panel (job_of j).shares) (job_of j).pending start

  abbrev units : length (job_of j).panel ≡ min j.panel.size most_panel
  units = named j.panel.weights j.panel.size most_panel places

  pub no_panel : min j.panel.size most_panel ≡ 0 → r ≡ plain_step j (Err State) → Steps j (Command.opens start) r
  unfolding step on_open
  no_panel z p =
      let none : length (job_of j).panel ≤ 0 = omega (arith, units) in
      refused_step j _ (without then opening) _ _ r refl State (stops_by_lem State without opening (sym (refuse_on _ 19 (le-leb _ _ none)))) p

  -- the opening is handed the panel, and tells its answer
  module _ (some : min j.panel.size most_panel ≡ 0 → ⊥) (lists : Lists) (parts : Parts j.panel lists) (told : Result CodeChain Refusal)
      (a : opening_of told ≡ over open_answer lists start) where
    panel_first : (without then opening) ≡ opening
    panel_first =
        let more : 0 < length (job_of j).panel = omega (arith, pos_of_ne-zero some, units) in
        then_goes without opening (refuse_off _ 19 (lt-leb _ _ more))

    told_of : (x : Result CodeChain Refusal) → told ≡ x → opening_of x ≡ judged opening opened
    unfolding open_answer
    told_of x t =
        let w = parts.weights in
        let g = parts.shares in
        let p = parts.relatives in
        sym (ap opening_of t) ∙ a ∙ cc

    pub open_refused : (why : Refusal) → told ≡ Err why → r ≡ plain_step j (Err why) → Steps j (Command.opens start) r
    unfolding step on_open
    open_refused why t p =
        let number = refused_tells opening (number_of why) opened (told_of _ t) in
        refused_step j _ (without then opening) _ _ r refl why (number ∙ sym panel_first) p

    pub open_accepted : (c : CodeChain) → told ≡ Ok c → (left : Job) → left ≡ chain_held j c → r ≡ plain_step left (Ok Nothing)
        → Steps j (Command.opens start) r
    unfolding step on_open
    open_accepted c t left l p =
        let n = given_tells opening opened (record_of c) (told_of _ t) in
        let is-next : left ≡ chain_opened j start = l ∙ ap (λ (x : Chain). chain_held j (chain_from x)) n.1 in
        plain_step_lem j _ (without then opening) _ _ r refl (panel_first ∙ n.0) (chain_held_lem j opened places) (Ok Nothing)
        left is-next p (λ size ws. refl) refl
