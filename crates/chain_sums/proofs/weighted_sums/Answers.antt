-- `weighted_sums`: what is added up and what is left make the whole sums, which fit.
use native.Mathlib.Omega.{arith}
use mathlib.Core.Path.{◌≡◌, ap₂}
use mathlib.Core.List.{[], ◌∷◌, ◌++◌}
use Prim.Native.Nat.{ℕ, ◌+◌, ◌*◌, min}
use lib.ListN.{length, get_or, drop, length-append}
use Rattle.std.proofs.Common.{rules}
use Rattle.std.proofs.lemmas.Slice.Zip.{zip_turn, zip_end}
use Rattle.rules.specs.Lists.{sum, products}
use Rattle.rules.proofs.Lists.{sum_step, sum_end, products_step, products_end}
use Rattle.chain_sums.specs.declared.Sums.{Sums}
use Rattle.chain_sums.proofs.weighted_sums.Goals as goal

abbrev sums_of : ℕ → ℕ → Sums
sums_of total acc = record { weights = total; products = acc }

pub overflow_add-total : goal.overflow_add-total
overflow_add-total c = let turn = zip_turn c.args.v.now c.args.p.now c.loop-x.yielded c.into_iter-x-iterator.result c.loop-x.x-iterator c.next.new.self c.next.result (search rules) (search rules) c.loop-x.yielded_by (c.in-Some.x, c.in-Some.y) c.in-Some.is c.next.ensures.steps in
    let i = length c.loop-x.yielded in
    omega (arith, turn.2 0, sum_step c.args.v.now i turn.0)

pub overflow_mul-acc : goal.overflow_mul-acc
overflow_mul-acc c = let turn = zip_turn c.args.v.now c.args.p.now c.loop-x.yielded c.into_iter-x-iterator.result c.loop-x.x-iterator c.next.new.self c.next.result (search rules) (search rules) c.loop-x.yielded_by (c.in-Some.x, c.in-Some.y) c.in-Some.is c.next.ensures.steps in
    let i = length c.loop-x.yielded in
    let same : c.from.result ≡ get_or c.args.p.now i 0 = search (rules, turn.3 0) in
    omega (arith, ap₂ (λ (x y : ℕ). x * y) (turn.2 0) same, products_step c.args.v.now c.args.p.now i turn.0 turn.1)

pub overflow_add-acc : goal.overflow_add-acc
overflow_add-acc c = let turn = zip_turn c.args.v.now c.args.p.now c.loop-x.yielded c.into_iter-x-iterator.result c.loop-x.x-iterator c.next.new.self c.next.result (search rules) (search rules) c.loop-x.yielded_by (c.in-Some.x, c.in-Some.y) c.in-Some.is c.next.ensures.steps in
    let i = length c.loop-x.yielded in
    let same : c.from.result ≡ get_or c.args.p.now i 0 = search (rules, turn.3 0) in
    omega (arith, ap₂ (λ (x y : ℕ). x * y) (turn.2 0) same, products_step c.args.v.now c.args.p.now i turn.0 turn.1)

pub loop-x-preserved : goal.loop-x-preserved
loop-x-preserved c = let turn = zip_turn c.args.v.now c.args.p.now c.loop-x.yielded c.into_iter-x-iterator.result c.loop-x.x-iterator c.next.new.self c.next.result (search rules) (search rules) c.loop-x.yielded_by (c.in-Some.x, c.in-Some.y) c.in-Some.is c.next.ensures.steps in
    let i = length c.loop-x.yielded in
    let same : c.from.result ≡ get_or c.args.p.now i 0 = search (rules, turn.3 0) in
    let rest : drop (length (c.loop-x.yielded ++ (c.in-Some.x, c.in-Some.y) ∷ [])) c.args.v.now ≡ drop (i + 1) c.args.v.now = rw length-append in
    let others : drop (length (c.loop-x.yielded ++ (c.in-Some.x, c.in-Some.y) ∷ [])) c.args.p.now ≡ drop (i + 1) c.args.p.now = rw length-append in
    rw (rest, others) (
      omega (arith, turn.2 0, sum_step c.args.v.now i turn.0),
      omega (arith, ap₂ (λ (x y : ℕ). x * y) (turn.2 0) same, products_step c.args.v.now c.args.p.now i turn.0 turn.1),
    )

pub returns : goal.returns
returns c = let all : length c.loop-x.yielded ≡ min (length c.args.v.now) (length c.args.p.now) = zip_end c.args.v.now c.args.p.now c.loop-x.yielded c.into_iter-x-iterator.result c.loop-x.x-iterator c.next.new.self c.next.result (search rules) (search rules) c.loop-x.yielded_by c.in-None.is c.next.ensures.steps in
    let x : c.loop-x.total ≡ sum c.args.v.now = omega (arith, sum_end c.args.v.now (length c.loop-x.yielded) (omega arith)) in
    let y : c.loop-x.acc ≡ sum (products c.args.v.now c.args.p.now) = omega (arith, products_end c.args.v.now c.args.p.now (length c.loop-x.yielded) (omega arith)) in
    ap₂ sums_of x y
