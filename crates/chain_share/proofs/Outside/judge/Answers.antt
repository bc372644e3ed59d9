-- `judge` gives 9 for marks of another length, then 9 to 13, then 29.
use mathlib.Core.Path.{◌≡◌, sym, ◌∙◌}
use mathlib.Core.List.{List}
use Prim.Native.Nat.{ℕ}
use lib.ListN.{length}
use borrow.Author.Tests.{eq-eqb, ne_eqb}
use Rattle.std.proofs.lemmas.Result.{err_from_is_err_and}
use Rattle.refusals.specs.Number.{number_of}
use Rattle.refusals.specs.declared.Refusal.{Refusal}
use Rattle.refusals.proofs.Answers.{stops_by_lem}
use Rattle.rules.specs.Refusals.{refuse, ◌then◌}
use Rattle.rules.specs.Chain.{open_input_refusal}
use Rattle.rules.specs.Panel.{bad_outside, outside_input_refusal}
use Rattle.rules.proofs.Chains.{openable}
use Rattle.chain_share.specs.Outsideable.{Marked}
use Rattle.chain_share.proofs.Outside.judge.Goals as goal

-- with marks of the right length 9 to 13 and 29 decide
marked : (domain : ℕ) (ms ws gs rs : List ℕ) (start : ℕ) → length ms ≡ length ws →
    outside_input_refusal domain ms ws gs rs start ≡ (open_input_refusal ws gs rs start then refuse (bad_outside domain ms ws gs) 29)
unfolding outside_input_refusal refuse ◌then◌
marked domain ms ws gs rs start e = rw (eq-eqb _ _ e)

refused : (domain : ℕ) (ms ws gs rs : List ℕ) (start : ℕ) (why : Refusal) → length ms ≡ length ws → number_of why ≡ open_input_refusal ws gs rs start →
    number_of why ≡ outside_input_refusal domain ms ws gs rs start
refused domain ms ws gs rs start why e n = stops_by_lem why _ _ n ∙ sym (marked domain ms ws gs rs start e)

-- 9 to 13 passed
module _ (domain : ℕ) (ms ws gs rs : List ℕ) (start : ℕ) (long : length ms ≡ length ws) (passed : open_input_refusal ws gs rs start ≡ 0) where
  marked_at : Marked ms ws gs
  marked_at = let o = (openable ws gs rs start passed).lists in record { marks = long; shares = o.shares; most = o.most }

  last : outside_input_refusal domain ms ws gs rs start ≡ refuse (bad_outside domain ms ws gs) 29
  unfolding ◌then◌
  last = marked domain ms ws gs rs start long ∙ rw passed

pub returns-then-marks-w : goal.returns-then-marks-w
unfolding outside_input_refusal refuse ◌then◌
returns-then-marks-w c = rw (ne_eqb _ _ c.if-marks-w.true)

pub is_bad-requires : goal.is_bad-requires
is_bad-requires c = marked_at c.args.self.now.domain c.args.self.now.marks.now c.args.lists.now.weights.now c.args.lists.now.shares.now c.args.lists.now.relatives.now c.args.start c.if-marks-w.false (sym c.in_ok-judge_input.ensures)

pub returns-then-is_bad : goal.returns-then-is_bad
unfolding refuse
returns-then-is_bad c = rw (last c.args.self.now.domain c.args.self.now.marks.now c.args.lists.now.weights.now c.args.lists.now.shares.now c.args.lists.now.relatives.now c.args.start c.if-marks-w.false (sym c.in_ok-judge_input.ensures), sym c.is_bad.ensures ∙ c.if-is_bad.true)

pub returns-in_err-judge_input : goal.returns-in_err-judge_input
returns-in_err-judge_input c = let p = err_from_is_err_and c.from_residual.result c.from_residual.ensures.1 in
    rw (p.1, p.2) (refused c.args.self.now.domain _ _ c.args.lists.now.shares.now c.args.lists.now.relatives.now c.args.start _ c.if-marks-w.false c.in_err-judge_input.ensures)

pub returns : goal.returns
unfolding refuse
returns c = rw (last c.args.self.now.domain c.args.self.now.marks.now c.args.lists.now.weights.now c.args.lists.now.shares.now c.args.lists.now.relatives.now c.args.start c.if-marks-w.false (sym c.in_ok-judge_input.ensures), sym c.is_bad.ensures ∙ c.if-is_bad.false)
