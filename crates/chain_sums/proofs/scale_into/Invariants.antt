-- `scale_into`: the places before i hold what is scaled, from i on they are as they came; each product is within the sum of products, which fits.
use mathlib.Core.Path.{◌≡◌}
use Rattle.rules.proofs.Lists.{scaled_onto}
use Rattle.chain_sums.proofs.scale_into.Given as goal

abbrev pub invariant-loop-i : goal.invariant-loop-i
invariant-loop-i l = l.out ≡ scaled_onto l.scale l.i l.v l.p l.initial.out
