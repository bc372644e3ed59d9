-- The tests in the order of the sequence: each answer rewrites the definition by the tests that were made.
use Prim.Native.Nat.{ℕ}
use mathlib.Core.Path.{◌≡◌, sym, ◌∙◌}
use mathlib.Core.Bool.{false}
use mathlib.Core.List.{List}
use lib.Dec.{ltb}
use lib.ListN.{length}
use borrow.Author.Tests.{lt-ltb, le-ltb}
use Rattle.rules.specs.Refusals.{refuse, ◌then◌}
use Rattle.rules.specs.TakeAll.{bad_count, bad_turnovers, bad_size, take_all_refusal}
use Rattle.group_entry.proofs.judge.Goals as goal

-- where 1, 3 and 5 let pass, 6 decides
past_three : (ts : List ℕ) (z : ℕ) (marks : List ℕ) → bad_count ts ≡ false → bad_turnovers ts ≡ false → bad_size ts z ≡ false →
    take_all_refusal ts z marks ≡ refuse (ltb (length marks) (length ts)) 6
unfolding take_all_refusal refuse ◌then◌
past_three ts z marks e1 e2 e3 = rw (e1, e2, e3)

pub returns-then-bad_count : goal.returns-then-bad_count
unfolding take_all_refusal refuse ◌then◌
returns-then-bad_count c = rw (← c.bad_count.ensures, c.if-bad_count.true)

pub returns-then-bad_turnovers : goal.returns-then-bad_turnovers
unfolding take_all_refusal refuse ◌then◌
returns-then-bad_turnovers c = rw (← c.bad_count.ensures, c.if-bad_count.false, ← c.bad_turnovers.ensures, c.if-bad_turnovers.true)

pub returns-then-bad_size : goal.returns-then-bad_size
unfolding take_all_refusal refuse ◌then◌
returns-then-bad_size c = rw (← c.bad_count.ensures, c.if-bad_count.false, ← c.bad_turnovers.ensures, c.if-bad_turnovers.false, ← c.bad_size.ensures, c.if-bad_size.true)

pub returns-then-marks-turnovers : goal.returns-then-marks-turnovers
unfolding refuse
returns-then-marks-turnovers c = rw (past_three c.args.turnovers.now c.args.z c.args.marks.now (sym c.bad_count.ensures ∙ c.if-bad_count.false) (sym c.bad_turnovers.ensures ∙ c.if-bad_turnovers.false) (sym c.bad_size.ensures ∙ c.if-bad_size.false), lt-ltb _ _ c.if-marks-turnovers.true)

pub returns : goal.returns
unfolding refuse
returns c = rw (past_three c.args.turnovers.now c.args.z c.args.marks.now (sym c.bad_count.ensures ∙ c.if-bad_count.false) (sym c.bad_turnovers.ensures ∙ c.if-bad_turnovers.false) (sym c.bad_size.ensures ∙ c.if-bad_size.false), le-ltb _ _ c.if-marks-turnovers.false)
