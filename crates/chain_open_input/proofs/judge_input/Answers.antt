-- `judge_input` gives 9 to 13 or none as its tests say; once 9 does not apply the lists are short and of one length.
use mathlib.Core.Path.{◌≡◌, sym, ◌∙◌}
use mathlib.Core.Bool.{false}
use mathlib.Core.List.{List}
use Prim.Native.Nat.{ℕ}
use Rattle.std.proofs.Common.{rules}
use Rattle.rules.specs.Refusals.{refuse, ◌then◌}
use Rattle.rules.specs.Lists.{any_pair}
use Rattle.rules.specs.Chain.{bad_open_lists, bad_base, bad_shares, bad_index, bad_relative, open_input_refusal}
use Rattle.chain_sums.proofs.Pairs.{any_two}
use Rattle.chain_open_input.proofs.judge_input.Goals as goal

-- with 9 and 10 passed 11 to 13 decide
rest : (ws gs rs : List ℕ) (start : ℕ) → bad_open_lists ws gs rs ≡ false → bad_base ws ≡ false →
    open_input_refusal ws gs rs start ≡ (refuse (bad_shares gs) 11 then refuse (bad_index start) 12 then refuse (any_pair bad_relative gs rs) 13)
unfolding open_input_refusal refuse ◌then◌
rest ws gs rs start lists base = simp (lists, base)

-- with 11 and 12 passed 13 decides
last : (ws gs rs : List ℕ) (start : ℕ) → bad_open_lists ws gs rs ≡ false → bad_base ws ≡ false → bad_shares gs ≡ false → bad_index start ≡ false →
    open_input_refusal ws gs rs start ≡ refuse (any_pair bad_relative gs rs) 13
unfolding refuse ◌then◌
last ws gs rs start lists base shares index = rw (rest ws gs rs start lists base, shares, index)

pub returns-then-bad_lists : goal.returns-then-bad_lists
unfolding open_input_refusal refuse ◌then◌
returns-then-bad_lists c = simp (sym c.bad_lists.ensures ∙ c.if-bad_lists.true)

pub returns-then-bad_base : goal.returns-then-bad_base
unfolding open_input_refusal refuse ◌then◌
returns-then-bad_base c = simp (sym c.bad_lists.ensures ∙ c.if-bad_lists.false, sym c.bad_base.ensures ∙ c.if-bad_base.true)

pub returns-then-bad_shares : goal.returns-then-bad_shares
unfolding refuse ◌then◌
returns-then-bad_shares c = rw (rest c.args.lists.now.weights.now c.args.lists.now.shares.now c.args.lists.now.relatives.now c.args.start (sym c.bad_lists.ensures ∙ c.if-bad_lists.false) (sym c.bad_base.ensures ∙ c.if-bad_base.false), sym c.bad_shares.ensures ∙ c.if-bad_shares.true)

pub returns-then-bad_index : goal.returns-then-bad_index
unfolding refuse ◌then◌
returns-then-bad_index c = rw (rest c.args.lists.now.weights.now c.args.lists.now.shares.now c.args.lists.now.relatives.now c.args.start (sym c.bad_lists.ensures ∙ c.if-bad_lists.false) (sym c.bad_base.ensures ∙ c.if-bad_base.false), sym c.bad_shares.ensures ∙ c.if-bad_shares.false, sym c.bad_index.ensures ∙ c.if-bad_index.true)

pub returns-then-any : goal.returns-then-any
unfolding refuse
returns-then-any c = let bad = any_two bad_relative c.args.lists.now.shares.now c.args.lists.now.relatives.now c.any.new.self c.any.ensures.ran (search rules) (search rules) (λ x b q k. search rules) in
    rw (last c.args.lists.now.weights.now c.args.lists.now.shares.now c.args.lists.now.relatives.now c.args.start (sym c.bad_lists.ensures ∙ c.if-bad_lists.false) (sym c.bad_base.ensures ∙ c.if-bad_base.false) (sym c.bad_shares.ensures ∙ c.if-bad_shares.false) (sym c.bad_index.ensures ∙ c.if-bad_index.false), sym bad ∙ c.if-any.true)

pub returns : goal.returns
unfolding refuse
returns c = let bad = any_two bad_relative c.args.lists.now.shares.now c.args.lists.now.relatives.now c.any.new.self c.any.ensures.ran (search rules) (search rules) (λ x b q k. search rules) in
    rw (last c.args.lists.now.weights.now c.args.lists.now.shares.now c.args.lists.now.relatives.now c.args.start (sym c.bad_lists.ensures ∙ c.if-bad_lists.false) (sym c.bad_base.ensures ∙ c.if-bad_base.false) (sym c.bad_shares.ensures ∙ c.if-bad_shares.false) (sym c.bad_index.ensures ∙ c.if-bad_index.false), sym bad ∙ c.if-any.false)
