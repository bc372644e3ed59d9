-- `Frame::judge` meets its contract: each answer rewrites the sequence by the tests that were made.
use Prim.Native.Nat.{ℕ}
use mathlib.Core.Path.{◌≡◌, sym, ◌∙◌}
use mathlib.Core.Bool.{true, false}
use borrow.Author.Tests.{le-leb, lt-leb}
use Rattle.rules.specs.Tests.{◌or◌}
use Rattle.rules.specs.Refusals.{refuse, ◌then◌}
use Rattle.rules.specs.Lists.{rising, any_of}
use Rattle.rules.specs.TakeAll.{Frame, bad_turnovers, bad_size}
use Rattle.rules.specs.Draw.{bad_lists, bad_random, frame_refusal}
use Rattle.frame.specs.Frame.{frame_of}
use Rattle.frame.proofs.Frame.judge.Goals as goal
use Rattle.frame.proofs.Frame.judge.Goals.{then-bad_randoms-via-then-bad_randoms, then-bad_randoms-via-else-bad_randoms+then-start-ge-RANDOM_RANGE}

-- where 1, 2 and 3 let pass, 4 and 5 decide
past_three : (f : Frame) (z start : ℕ) → bad_lists f ≡ false → rising f.numbers ≡ true → bad_turnovers f.turnovers ≡ false →
    frame_refusal f z start ≡ (refuse (any_of bad_random f.randoms or bad_random start) 4 then refuse (bad_size f.turnovers z) 5)
unfolding frame_refusal refuse ◌then◌
past_three f z start e1 e2 e3 = rw (e1, e2, e3)

pub returns-then-bad_lists : goal.returns-then-bad_lists
unfolding frame_refusal refuse ◌then◌
returns-then-bad_lists c = rw (← c.bad_lists.ensures, c.if-bad_lists.true)

pub returns-then-not-rising : goal.returns-then-not-rising
unfolding frame_refusal refuse ◌then◌
returns-then-not-rising c = rw (← c.bad_lists.ensures, c.if-bad_lists.false, ← c.rising.ensures, c.if-not-rising.true)

pub returns-then-bad_turnovers : goal.returns-then-bad_turnovers
unfolding frame_refusal refuse ◌then◌
returns-then-bad_turnovers c = rw (← c.bad_lists.ensures, c.if-bad_lists.false, ← c.rising.ensures, c.if-not-rising.false, ← c.bad_turnovers.ensures, c.if-bad_turnovers.true)

pub returns-then-bad_randoms : goal.returns-then-bad_randoms
unfolding refuse ◌then◌ ◌or◌ bad_random
returns-then-bad_randoms c =
    let past = past_three (frame_of c.args.self.now) c.args.z c.args.start (sym c.bad_lists.ensures ∙ c.if-bad_lists.false) (sym c.rising.ensures ∙ c.if-not-rising.false) (sym c.bad_turnovers.ensures ∙ c.if-bad_turnovers.false) in
    elim c.then-bad_randoms.branch [
      | then-bad_randoms-via-then-bad_randoms w ↦ rw (past, ← c.bad_randoms.ensures, w.if-bad_randoms.true)
      | then-bad_randoms-via-else-bad_randoms+then-start-ge-RANDOM_RANGE w ↦
          rw (past, ← c.bad_randoms.ensures, w.if-bad_randoms.false, le-leb _ _ w.if-start-ge-RANDOM_RANGE.true)
    ]

pub returns-then-bad_size : goal.returns-then-bad_size
unfolding refuse ◌then◌ ◌or◌ bad_random
returns-then-bad_size c = rw (past_three (frame_of c.args.self.now) c.args.z c.args.start (sym c.bad_lists.ensures ∙ c.if-bad_lists.false) (sym c.rising.ensures ∙ c.if-not-rising.false) (sym c.bad_turnovers.ensures ∙ c.if-bad_turnovers.false), ← c.bad_randoms.ensures, c.if-bad_randoms.false, lt-leb _ _ c.if-start-ge-RANDOM_RANGE.false, ← c.bad_size.ensures, c.if-bad_size.true)

pub returns : goal.returns
unfolding refuse ◌then◌ ◌or◌ bad_random
returns c = rw (past_three (frame_of c.args.self.now) c.args.z c.args.start (sym c.bad_lists.ensures ∙ c.if-bad_lists.false) (sym c.rising.ensures ∙ c.if-not-rising.false) (sym c.bad_turnovers.ensures ∙ c.if-bad_turnovers.false), ← c.bad_randoms.ensures, c.if-bad_randoms.false, lt-leb _ _ c.if-start-ge-RANDOM_RANGE.false, ← c.bad_size.ensures, c.if-bad_size.false)
