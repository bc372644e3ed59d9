-- `figure` is F from V and N: relatives in range keep N within 400,000 × V, and so L and C × L below 2^64.
use native.Mathlib.Omega.{arith}
use native.Mathlib.Nat.{mul-le-mul}
use mathlib.Core.Path.{◌≡◌, ap}
use mathlib.Core.List.{List}
use Prim.Native.Nat.{ℕ, ◌*◌, ◌≤◌}
use lib.ListN.{length}
use Rattle.rules.specs.Limits.{highest_relative, link_scale}
use Rattle.rules.specs.Lists.{sum, products}
use Rattle.rules.specs.Chain.{Chain, held, link, figure_at, call_input_refusal}
use Rattle.rules.proofs.Chains.{admitted}
use Rattle.chain_sums.specs.declared.Sums.{Sums}
use Rattle.chain_sums.proofs.Relatives.{products_bound}
use Rattle.chain_record.specs.Record.{lent_record}
use Rattle.chain_figure.proofs.Reckoning.{mean_most}
use Rattle.chain_figure.proofs.figure.Goals as goal

-- N of a call that 19, 9 and 13 let pass, and the sums as the code has them
module _ (r : Chain) (vs ps : List ℕ) (none : call_input_refusal r ps ≡ 0) (same : vs ≡ held r) (long : length vs ≡ r.units) where
  products_most : sum (products vs ps) ≤ highest_relative * sum vs
  products_most = let a = admitted r ps none in
      rw same (products_bound (held r) (held r) ps a.relatives (omega (arith, a.long, ap length same)))

pub held-requires : goal.held-requires
held-requires c = (admitted (lent_record c.args.lent.now) c.args.p.now c.requires).sound.most

pub weighted_sums-sums-requires : goal.weighted_sums-sums-requires
weighted_sums-sums-requires c = let r = lent_record c.args.lent.now in
    let a = admitted r c.args.p.now c.requires in
    let v = ap sum c.held.ensures.value in
    (omega (arith, a.long, c.held.ensures.long), omega (arith, a.sound.limit, v), omega (arith, a.sound.limit, v, products_most r _ c.args.p.now c.requires c.held.ensures.value c.held.ensures.long))

pub link-l-requires : goal.link-l-requires
link-l-requires c = let r = lent_record c.args.lent.now in
    let a = admitted r c.args.p.now c.requires in
    let v = ap (λ (x : Sums). x.weights) c.weighted_sums-sums.ensures in
    let n = ap (λ (x : Sums). x.products) c.weighted_sums-sums.ensures in
    omega (arith, v, n, a.sound.present, a.sound.limit, ap sum c.held.ensures.value, products_most r _ c.args.p.now c.requires c.held.ensures.value c.held.ensures.long)

pub overflow_mul-result : goal.overflow_mul-result
overflow_mul-result c = let r = lent_record c.args.lent.now in
    let v = ap (λ (x : Sums). x.weights) c.weighted_sums-sums.ensures in
    let n = ap (λ (x : Sums). x.products) c.weighted_sums-sums.ensures in
    let most = mean_most c.weighted_sums-sums.result.products c.weighted_sums-sums.result.weights highest_relative link_scale (omega (arith, v, n, products_most r _ c.args.p.now c.requires c.held.ensures.value c.held.ensures.long)) in
    let l : c.link-l.result ≤ highest_relative * link_scale = omega (arith, most, c.link-l.ensures) in
    omega (arith, mul-le-mul (admitted r c.args.p.now c.requires).sound.index l)

pub returns : goal.returns
unfolding figure_at link
returns c = rw (c.link-l.ensures, c.weighted_sums-sums.ensures, c.held.ensures.value)
