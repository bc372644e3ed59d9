-- `judge_call` gives 19, 9, 13 or none as its tests say; a record that is not broken has places for all its units.
use mathlib.Core.Path.{◌≡◌, sym, ◌∙◌}
use mathlib.Core.Bool.{true, false}
use mathlib.Core.List.{List}
use Prim.Native.Nat.{ℕ}
use lib.Dec.{eqb}
use lib.ListN.{length}
use borrow.Author.Tests.{eq-eqb, ne_eqb}
use Rattle.std.proofs.Common.{rules}
use Rattle.rules.specs.Refusals.{refuse, ◌then◌}
use Rattle.rules.specs.Lists.{any_pair}
use Rattle.rules.specs.Chain.{Chain, held, broken, bad_relative, call_input_refusal}
use Rattle.rules.proofs.Chains.{sound}
use Rattle.chain_sums.proofs.Pairs.{any_two}
use Rattle.chain_record.specs.Record.{lent_record}
use Rattle.chain_figure.proofs.judge_call.Goals as goal

-- with 19 and 9 passed 13 decides
last : (r : Chain) (vs ps : List ℕ) → broken r ≡ false → eqb (length ps) r.units ≡ true → vs ≡ held r → call_input_refusal r ps ≡ refuse (any_pair bad_relative vs ps) 13
unfolding call_input_refusal refuse ◌then◌
last r vs ps whole long same = simp (whole, long, same)

pub returns-then-is_broken : goal.returns-then-is_broken
unfolding call_input_refusal refuse ◌then◌
returns-then-is_broken c = simp (sym c.is_broken.ensures ∙ c.if-is_broken.true)

pub returns-then-p-lent : goal.returns-then-p-lent
unfolding call_input_refusal refuse ◌then◌
returns-then-p-lent c = simp (sym c.is_broken.ensures ∙ c.if-is_broken.false, ne_eqb _ _ c.if-p-lent.true)

pub held-requires : goal.held-requires
held-requires c = (sound (lent_record c.args.lent.now) (sym c.is_broken.ensures ∙ c.if-is_broken.false)).most

pub returns-then-any : goal.returns-then-any
unfolding refuse
returns-then-any c =
    let bad = any_two bad_relative c.held.result.now c.args.p.now c.any.new.self c.any.ensures.ran (search rules) (search rules) (λ x b q k. search rules) in
    rw (last (lent_record c.args.lent.now) _ c.args.p.now (sym c.is_broken.ensures ∙ c.if-is_broken.false) (eq-eqb _ _ c.if-p-lent.false) c.held.ensures.value, sym bad ∙ c.if-any.true)

pub returns : goal.returns
unfolding refuse
returns c =
    let bad = any_two bad_relative c.held.result.now c.args.p.now c.any.new.self c.any.ensures.ran (search rules) (search rules) (λ x b q k. search rules) in
    rw (last (lent_record c.args.lent.now) _ c.args.p.now (sym c.is_broken.ensures ∙ c.if-is_broken.false) (eq-eqb _ _ c.if-p-lent.false) c.held.ensures.value, sym bad ∙ c.if-any.false)
