-- `scale_into`: the places before i hold what is scaled, from i on they are as they came; each product is within the sum of products, which fits.
use native.Mathlib.Omega.{arith}
use native.Mathlib.Numerals.{add-one}
use mathlib.Core.Path.{◌≡◌, sym, ap, ◌∙◌}
use Prim.Native.Nat.{ℕ, ◌*◌}
use lib.ListN.{length, get_or}
use Rattle.std.proofs.Common.{rules}
use Rattle.rules.proofs.Lists.{product_le, scaled_onto, scaled_onto_none, scaled_onto_step, scaled_onto_all}
use Rattle.chain_sums.proofs.scale_into.Goals as goal

pub loop-i-init : goal.loop-i-init
loop-i-init c = sym (scaled_onto_none c.args.scale c.args.v.now c.args.p.now c.args.out.now)

pub overflow_mul-out : goal.overflow_mul-out
overflow_mul-out c = let same : c.from.result ≡ get_or c.args.p.now c.loop-i.i 0 = search rules in
    omega (arith, ap (λ (k : ℕ). get_or c.args.v.now c.loop-i.i 0 * k) same, product_le c.args.v.now c.args.p.now c.loop-i.i)

pub loop-i-preserved : goal.loop-i-preserved
loop-i-preserved c = let same : c.from.result ≡ get_or c.args.p.now c.loop-i.i 0 = search rules in
    rw (same, c.loop-i.invariant, add-one) (scaled_onto_step c.args.scale c.loop-i.i c.args.v.now c.args.p.now c.args.out.now (omega arith) c.requires.0 c.requires.1)

pub returns : goal.returns
returns c = let all : c.loop-i.i ≡ length c.args.p.now = omega arith in
    c.loop-i.invariant
    ∙ ap (λ (i : ℕ). scaled_onto c.args.scale i c.args.v.now c.args.p.now c.args.out.now) all
    ∙ scaled_onto_all c.args.scale c.args.v.now c.args.p.now c.args.out.now c.requires.1
