-- `bad_shares` asks its two tests one after the other; shares that are all 0 have the sum 0, and no others have.
use native.Mathlib.Omega.{arith}
use mathlib.Core.Path.{◌≡◌, refl, sym, ap, ◌∙◌}
use mathlib.Core.Bool.{false}
use mathlib.Core.List.{List, [], ◌∷◌}
use Prim.Native.Nat.{ℕ, zero, suc, ◌+◌}
use lib.Dec.{ltb, eqb}
use borrow.Author.Tests.{ne_eqb}
use Rattle.std.proofs.Common.{rules, zero-add}
use Rattle.std.proofs.lemmas.Iterator.{YieldsList-from_slice}
use Rattle.std.proofs.lemmas.Iterator.Search.{all_from_yields_List}
use Rattle.std.specs.List.{list_all}
use Rattle.rules.specs.Limits.{share_scale}
use Rattle.rules.specs.Lists.{sum}
use Rattle.rules.specs.Chain.{bad_shares}
use Rattle.rules.proofs.Tests.{or_on, or_off}
use Rattle.chain_sums.proofs.Pairs.{any_one}
use Rattle.chain_open_input.proofs.bad_shares.Goals as goal

all_zero : (gs : List ℕ) → list_all (λ x. eqb x 0) gs ≡ eqb (sum gs) 0
unfolding sum
all_zero [] = refl
all_zero (zero ∷ gs) = all_zero gs ∙ ap (λ (n : ℕ). eqb n 0) (sym (zero-add (sum gs)))
all_zero (suc x ∷ gs) = let some : eqb (suc x) 0 ≡ false = ne_eqb (suc x) 0 (λ e. omega arith) in
    rw some (sym (ne_eqb (suc x + sum gs) 0 (λ e. omega arith)))

pub returns-then-any : goal.returns-then-any
unfolding bad_shares
returns-then-any c = let over = any_one (λ x. ltb share_scale x) c.args.g.now c.any.new.self c.any.ensures.ran (search rules) (λ x b q k. search rules) in
    c.if-any.true ∙ sym (or_on _ _ (sym over ∙ c.if-any.true))

pub returns-else-any : goal.returns-else-any
unfolding bad_shares
returns-else-any c = let over = any_one (λ x. ltb share_scale x) c.args.g.now c.any.new.self c.any.ensures.ran (search rules) (λ x b q k. search rules) in
    let none = all_from_yields_List (λ x. eqb x 0) c.all.new.self _ c.all.result c.all.ensures.ran (YieldsList-from_slice c.args.g.now (search rules)) (λ x b q k. search rules) in
    none ∙ all_zero c.args.g.now ∙ sym (or_off _ _ (sym over ∙ c.if-any.false))
