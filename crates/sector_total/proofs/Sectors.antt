-- Shares that add to 1 over indices in range: what refusal 14 leaves, and the bound that keeps the sum of products small.
use mathlib.Core.Path.{◌≡◌}
use mathlib.Core.Bool.{false}
use mathlib.Core.List.{List}
use Prim.Native.Nat.{ℕ, ◌<◌, ◌≤◌, ◌^◌}
use native.Mathlib.Omega.{arith}
use lib.ListN.{length, get_or}
use borrow.Author.Tests.{eqb-true, not-false}
use Rattle.rules.specs.Limits.{sector_scale, lowest_index, highest_index}
use Rattle.rules.specs.Lists.{sum, products}
use Rattle.rules.specs.Chain.{bad_index}
use Rattle.rules.specs.Total.{bad_sectors}
use Rattle.rules.proofs.Tests.{or_false, within}
use Rattle.rules.proofs.Lists.{any_within, products_within}

index_most : (c : ℕ) → bad_index c ≡ false → c ≤ highest_index
unfolding bad_index
index_most c e = (within lowest_index highest_index c e).1

-- what sectors that are not refused have
pub record Sound (shares indices : List ℕ) : Type 0 where
  pub long : length indices ≡ length shares
  pub fit : sum (products shares indices) < 2 ^ 64

pub sound : (shares indices : List ℕ) → bad_sectors shares indices ≡ false → Sound shares indices
unfolding bad_sectors
sound shares indices e =
    let index : _ = or_false _ _ e in
    let whole : _ = or_false _ _ index.0 in
    let some : _ = or_false _ _ (or_false _ _ whole.0).0 in
    let scale : sum shares ≡ sector_scale = eqb-true _ _ (not-false _ whole.1) in
    let most : (i : ℕ) → get_or indices i 0 ≤ highest_index = any_within bad_index highest_index index_most indices index.1 in
    record { long = eqb-true _ _ (not-false _ some.0); fit = omega (arith, products_within highest_index shares indices most) }
