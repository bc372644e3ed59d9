-- `Rotation::judge_lists` meets its contract: each answer rewrites the sequence by the tests that were made.
use Prim.Native.Nat.{ℕ}
use mathlib.Core.Path.{◌≡◌, sym, ◌∙◌}
use mathlib.Core.Bool.{false}
use mathlib.Core.List.{List}
use Rattle.rules.specs.Refusals.{refuse, ◌then◌}
use Rattle.rules.specs.Kept.{Keeping, bad_keeping, keeping_refusal}
use Rattle.rules.specs.Rotation.{Births, short_leavers, bad_old_panel, bad_previous, bad_births, kept_lists_refusal}
use Rattle.group_keeping.specs.Keeping.{keeping_of}
use Rattle.rotation_births.specs.Candidates.{births_of}
use Rattle.rotation_judge.proofs.Rotation.judge_lists.Goals as goal

-- where 6 and 30 let pass, the others decide
past_lists : (ns panel : List ℕ) (fraction : ℕ) (b : Births) (p : Keeping) (leavers : List ℕ) → short_leavers panel b.units leavers ≡ false → bad_keeping p ≡ false →
    kept_lists_refusal ns panel fraction b p leavers
    ≡ (refuse (bad_old_panel panel fraction) 7 then refuse (bad_previous b.size b.rest) 25 then refuse (bad_births ns b.units) 26)
unfolding kept_lists_refusal keeping_refusal refuse ◌then◌
past_lists ns panel fraction b p leavers e6 e30 = rw (e6, e30)

pub returns-then-short_leavers : goal.returns-then-short_leavers
unfolding kept_lists_refusal refuse ◌then◌
returns-then-short_leavers c = rw (← c.short_leavers.ensures, c.if-short_leavers.true)

pub returns-then-bad_keeping : goal.returns-then-bad_keeping
unfolding kept_lists_refusal keeping_refusal refuse ◌then◌
returns-then-bad_keeping c = rw (← c.short_leavers.ensures, c.if-short_leavers.false, ← c.bad_keeping.ensures, c.if-bad_keeping.true)

pub returns-then-bad_old_panel : goal.returns-then-bad_old_panel
unfolding refuse ◌then◌
returns-then-bad_old_panel c = rw (past_lists _ _ _ (births_of c.args.self.now.candidates) (keeping_of c.args.self.now.keeping) _ (sym c.short_leavers.ensures ∙ c.if-short_leavers.false) (sym c.bad_keeping.ensures ∙ c.if-bad_keeping.false), ← c.bad_old_panel.ensures, c.if-bad_old_panel.true)

pub returns-then-is_bad : goal.returns-then-is_bad
unfolding refuse ◌then◌
returns-then-is_bad c = rw (past_lists _ _ _ (births_of c.args.self.now.candidates) (keeping_of c.args.self.now.keeping) _ (sym c.short_leavers.ensures ∙ c.if-short_leavers.false) (sym c.bad_keeping.ensures ∙ c.if-bad_keeping.false), ← c.bad_old_panel.ensures, c.if-bad_old_panel.false, ← c.is_bad.ensures, c.if-is_bad.true)

pub returns-then-bad_births : goal.returns-then-bad_births
unfolding refuse ◌then◌
returns-then-bad_births c = rw (past_lists _ _ _ (births_of c.args.self.now.candidates) (keeping_of c.args.self.now.keeping) _ (sym c.short_leavers.ensures ∙ c.if-short_leavers.false) (sym c.bad_keeping.ensures ∙ c.if-bad_keeping.false), ← c.bad_old_panel.ensures, c.if-bad_old_panel.false, ← c.is_bad.ensures, c.if-is_bad.false, ← c.bad_births.ensures, c.if-bad_births.true)

pub returns : goal.returns
unfolding refuse ◌then◌
returns c = rw (past_lists _ _ _ (births_of c.args.self.now.candidates) (keeping_of c.args.self.now.keeping) _ (sym c.short_leavers.ensures ∙ c.if-short_leavers.false) (sym c.bad_keeping.ensures ∙ c.if-bad_keeping.false), ← c.bad_old_panel.ensures, c.if-bad_old_panel.false, ← c.is_bad.ensures, c.if-is_bad.false, ← c.bad_births.ensures, c.if-bad_births.false)
