-- The frame's verdict first, then the two buffers, then γ and the lists.
use mathlib.Core.Path.{◌≡◌, sym, ap, ◌∙◌}
use mathlib.Core.List.{List}
use Prim.Native.Nat.{ℕ}
use lib.Dec.{ltb}
use lib.ListN.{length}
use borrow.Author.Tests.{lt-ltb, le-ltb}
use Rattle.std.proofs.lemmas.Result.{err_from_is_err_and}
use Rattle.rules.specs.Tests.{◌or◌}
use Rattle.rules.specs.Refusals.{refuse, ◌then◌}
use Rattle.rules.specs.TakeAll.{Frame}
use Rattle.rules.specs.Kept.{Keeping, keeping_refusal}
use Rattle.rules.specs.Draw.{frame_refusal, draw_refusal, kept_draw_refusal}
use Rattle.refusals.specs.Number.{refusal_of}
use Rattle.refusals.proofs.Answers.{stops_by_lem}
use Rattle.group_keeping.specs.Keeping.{keeping_of}
use Rattle.draw.proofs.Design.judge.Goals as goal
use Rattle.draw.proofs.Design.judge.Goals.{then-panel-self-via-then-panel-self, then-panel-self-via-else-panel-self+then-weights-self}

-- an accepted frame leaves it to the buffers, and to γ and the lists
past_frame :
    (f : Frame) (z start : ℕ) (p : Keeping) (panel weights : List ℕ) → frame_refusal f z start ≡ 0
    → kept_draw_refusal f z start p panel weights ≡ (refuse (ltb (length panel) z or ltb (length weights) z) 6 then keeping_refusal p)
unfolding kept_draw_refusal draw_refusal ◌then◌
past_frame f z start p panel weights none = rw none

pub returns-then-panel-self : goal.returns-then-panel-self
unfolding refuse ◌then◌ ◌or◌
returns-then-panel-self c =
    let past = past_frame _ _ _ (keeping_of c.args.self.now.keeping) c.args.panel.now c.args.weights.now (sym c.judge.ensures ∙ ap refusal_of c.in_ok-judge.was) in
    elim c.then-panel-self.branch [
      | then-panel-self-via-then-panel-self w ↦ rw (past, lt-ltb _ _ w.if-panel-self.true)
      | then-panel-self-via-else-panel-self+then-weights-self w ↦ rw (past, le-ltb _ _ w.if-panel-self.false, lt-ltb _ _ w.if-weights-self.true)
    ]

pub returns-then-bad_keeping : goal.returns-then-bad_keeping
unfolding keeping_refusal refuse ◌then◌ ◌or◌
returns-then-bad_keeping c =
    rw (
      past_frame _ _ _ (keeping_of c.args.self.now.keeping) _ _ (sym c.judge.ensures ∙ ap refusal_of c.in_ok-judge.was),
      le-ltb _ _ c.if-panel-self.false,
      le-ltb _ _ c.if-weights-self.false,
      ← c.bad_keeping.ensures,
      c.if-bad_keeping.true,
    )

pub returns-in_err-judge : goal.returns-in_err-judge
unfolding kept_draw_refusal draw_refusal
returns-in_err-judge c =
    let p = err_from_is_err_and c.from_residual.result c.from_residual.ensures.1 in
    rw (p.1, p.2) (stops_by_lem _ _ _ (stops_by_lem _ _ _ (sym (ap refusal_of c.in_err-judge.was) ∙ c.judge.ensures)))

pub returns : goal.returns
unfolding keeping_refusal refuse ◌then◌ ◌or◌
returns c =
    rw (
      past_frame _ _ _ (keeping_of c.args.self.now.keeping) _ _ (sym c.judge.ensures ∙ ap refusal_of c.in_ok-judge.was),
      le-ltb _ _ c.if-panel-self.false,
      le-ltb _ _ c.if-weights-self.false,
      ← c.bad_keeping.ensures,
      c.if-bad_keeping.false,
    )
