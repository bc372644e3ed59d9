-- The tests in the order of the sequence: each answer rewrites the definition by the tests that were made.
use Prim.Native.Nat.{ℕ}
use mathlib.Core.Path.{◌≡◌, sym, ◌∙◌}
use mathlib.Core.Bool.{true, false, not}
use mathlib.Core.List.{List}
use lib.Dec.{ltb}
use lib.ListN.{length}
use borrow.Author.Tests.{lt-ltb, le-ltb, eq-eqb, ne_eqb}
use Rattle.rules.specs.Tests.{◌or◌}
use Rattle.rules.specs.Refusals.{refuse, ◌then◌}
use Rattle.rules.specs.TakeAll.{bad_count, bad_turnovers, bad_size}
use Rattle.rules.specs.Lists.{rising}
use Rattle.rules.specs.Kept.{Keeping, keeping_refusal, take_all_units_refusal}
use Rattle.group_keeping.specs.Keeping.{keeping_of}
use Rattle.group_units.proofs.judge.Goals as goal
use Rattle.group_units.proofs.judge.Goals.{then-asked-via-then-asked, then-asked-via-else-asked+then-bad_count}

module _ (ns ts : List ℕ) (z : ℕ) (p : Keeping) (units : List ℕ) (e1 : length ns ≡ length ts) (e2 : bad_count ts ≡ false) where
  -- where 1 lets pass, the others decide
  past_lists :
      take_all_units_refusal ns ts z p units
      ≡ (refuse (not (rising ns)) 2 then refuse (bad_turnovers ts) 3 then refuse (bad_size ts z) 5 then refuse (ltb (length units) z) 6 then keeping_refusal p)
  unfolding take_all_units_refusal refuse ◌then◌ ◌or◌
  past_lists = rw (eq-eqb _ _ e1, e2)

  -- where 1 to 5 let pass, 6 and 30 decide
  past_size :
      rising ns ≡ true → bad_turnovers ts ≡ false → bad_size ts z ≡ false
      → take_all_units_refusal ns ts z p units ≡ (refuse (ltb (length units) z) 6 then keeping_refusal p)
  unfolding refuse ◌then◌
  past_size e3 e4 e5 = rw (past_lists, e3, e4, e5)

pub returns-then-asked : goal.returns-then-asked
unfolding take_all_units_refusal refuse ◌then◌ ◌or◌
returns-then-asked c =
    elim c.then-asked.branch [
      | then-asked-via-then-asked w ↦ rw (ne_eqb _ _ w.if-asked.true)
      | then-asked-via-else-asked+then-bad_count w ↦ rw (eq-eqb _ _ w.if-asked.false, ← w.bad_count.ensures, w.if-bad_count.true)
    ]

pub returns-then-not-rising : goal.returns-then-not-rising
unfolding refuse ◌then◌
returns-then-not-rising c =
    let a = c.args.asked.now in
    rw (past_lists a.numbers.now a.turnovers.now a.z (keeping_of a.keeping) c.args.units.now c.if-asked.false (sym c.bad_count.ensures ∙ c.if-bad_count.false), ← c.rising.ensures, c.if-not-rising.true)

pub returns-then-bad_turnovers : goal.returns-then-bad_turnovers
unfolding refuse ◌then◌
returns-then-bad_turnovers c =
    let a = c.args.asked.now in
    rw (past_lists a.numbers.now a.turnovers.now a.z (keeping_of a.keeping) c.args.units.now c.if-asked.false (sym c.bad_count.ensures ∙ c.if-bad_count.false), ← c.rising.ensures, c.if-not-rising.false, ← c.bad_turnovers.ensures, c.if-bad_turnovers.true)

pub returns-then-bad_size : goal.returns-then-bad_size
unfolding refuse ◌then◌
returns-then-bad_size c =
    let a = c.args.asked.now in
    rw (past_lists a.numbers.now a.turnovers.now a.z (keeping_of a.keeping) c.args.units.now c.if-asked.false (sym c.bad_count.ensures ∙ c.if-bad_count.false), ← c.rising.ensures, c.if-not-rising.false, ← c.bad_turnovers.ensures, c.if-bad_turnovers.false, ← c.bad_size.ensures, c.if-bad_size.true)

pub returns-then-units-asked : goal.returns-then-units-asked
unfolding refuse ◌then◌
returns-then-units-asked c =
    let a = c.args.asked.now in
    rw (past_size a.numbers.now a.turnovers.now a.z (keeping_of a.keeping) c.args.units.now c.if-asked.false (sym c.bad_count.ensures ∙ c.if-bad_count.false) (sym c.rising.ensures ∙ c.if-not-rising.false) (sym c.bad_turnovers.ensures ∙ c.if-bad_turnovers.false) (sym c.bad_size.ensures ∙ c.if-bad_size.false), lt-ltb _ _ c.if-units-asked.true)

pub returns-then-bad_keeping : goal.returns-then-bad_keeping
unfolding keeping_refusal refuse ◌then◌
returns-then-bad_keeping c =
    let a = c.args.asked.now in
    rw (past_size a.numbers.now a.turnovers.now a.z (keeping_of a.keeping) c.args.units.now c.if-asked.false (sym c.bad_count.ensures ∙ c.if-bad_count.false) (sym c.rising.ensures ∙ c.if-not-rising.false) (sym c.bad_turnovers.ensures ∙ c.if-bad_turnovers.false) (sym c.bad_size.ensures ∙ c.if-bad_size.false), le-ltb _ _ c.if-units-asked.false, ← c.bad_keeping.ensures, c.if-bad_keeping.true)

pub returns : goal.returns
unfolding keeping_refusal refuse ◌then◌
returns c =
    let a = c.args.asked.now in
    rw (past_size a.numbers.now a.turnovers.now a.z (keeping_of a.keeping) c.args.units.now c.if-asked.false (sym c.bad_count.ensures ∙ c.if-bad_count.false) (sym c.rising.ensures ∙ c.if-not-rising.false) (sym c.bad_turnovers.ensures ∙ c.if-bad_turnovers.false) (sym c.bad_size.ensures ∙ c.if-bad_size.false), le-ltb _ _ c.if-units-asked.false, ← c.bad_keeping.ensures, c.if-bad_keeping.false)
