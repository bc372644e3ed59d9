-- The bound of the sum of products that relatives in range give.
use mathlib.Core.Path.{◌≡◌}
use mathlib.Core.Bool.{false}
use mathlib.Core.List.{List}
use Prim.Native.Nat.{ℕ, zero, suc, ◌*◌, ◌≤◌}
use native.Mathlib.Omega.{arith}
use lib.ListN.{length}
use borrow.Author.Tests.{not-false, eqb-true}
use Rattle.rules.specs.Limits.{lowest_relative, highest_relative}
use Rattle.rules.specs.Lists.{sum, products, any_pair}
use Rattle.rules.specs.Chain.{bad_relative}
use Rattle.rules.proofs.Tests.{within}
use Rattle.rules.proofs.Lists.{pair_within, products_within}

relative_most : (mark p : ℕ) → bad_relative mark p ≡ false → p ≤ highest_relative
unfolding bad_relative
relative_most zero p e = omega (arith, eqb-true p 0 (not-false _ e))
relative_most (suc mark) p e = (within lowest_relative highest_relative p e).1

pub products_bound : (v marks p : List ℕ) → any_pair bad_relative marks p ≡ false → length p ≤ length marks →
    sum (products v p) ≤ highest_relative * sum v
products_bound v marks p e h = products_within highest_relative v p (pair_within bad_relative highest_relative relative_most marks p h e)
