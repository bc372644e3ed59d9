-- `share_into`: n, X and T are counted, and the u are laid from the inner floor that they give.
use native.Mathlib.Omega.{arith}
use native.Mathlib.Nat.{mul-le-mul_left}
use mathlib.Core.Path.{◌≡◌, refl, sym, ap₂, ◌∙◌}
use mathlib.Core.List.{List}
use Prim.Native.Nat.{ℕ, ◌*◌, ◌/◌, ◌<◌, ◌^◌}
use Rattle.rules.specs.Limits.{share_scale}
use Rattle.rules.specs.Panel.{sampled_size, sampled_base, sampled_shares, outside_whole, inner_floor, each_unit, shared_unit, outside_shared}
use Rattle.rules.proofs.Lists.{product_le, products_within}
use Rattle.rules.proofs.Panels.{some_sampled}
use Rattle.chain_share.specs.Outsideable.{Layable, Outsideable}
use Rattle.chain_share.proofs.Bounds.{counted_size, counted_shares, Small, small, inner_small, shares_positive}
use Rattle.chain_sampled.specs.declared.Tally.{Tally}
use Rattle.chain_sampled.specs.Tally.{tally_of}
use Rattle.chain_share.proofs.Outside.share_into.Goals as goal

module _ (domain : ℕ) (ms ws gs us : List ℕ) (o : Outsideable domain ms ws gs us) where
  small_at : Small domain ms ws
  small_at = small domain ms ws gs _ refl o.limit o.passes

  inner_fits : (n x : ℕ) → n ≡ sampled_size ms ws → x ≡ sampled_base ms ws → (n * x < 2 ^ 64) × (n * x * domain < 2 ^ 64)
  inner_fits n x e h = rw (e, h) (omega (arith, small_at.base), omega (arith, small_at.whole))

  layable : (i t : ℕ) → i ≡ inner_floor domain ms ws → t ≡ sampled_shares ms gs → Layable i t ms ws gs us
  layable i t e h =
      rw (e, h) (record {
        marked = o.marked;
        room = o.room;
        take_all = λ i. omega (arith, o.limit, product_le ws gs i, products_within share_scale ws gs o.small);
        sampled = λ i. omega (arith, inner_small domain ms ws small_at, mul-le-mul_left (inner_floor domain ms ws) (o.small i));
        divides = λ i h some. shares_positive domain ms ws gs _ refl (some_sampled ms ws i h o.marked.marks some) o.passes;
      })

  module _ (t : Tally) (counted : t ≡ tally_of ms gs) where
    size_at : t.size ≡ sampled_size ms ws
    size_at = counted_size ms ws gs o.marked t counted

    shares_at : t.shares ≡ sampled_shares ms gs
    shares_at = counted_shares ms ws gs o.marked t counted

    inner_at : (whole x : ℕ) → x ≡ sampled_base ms ws → whole ≡ t.size * x * domain / share_scale → whole ≡ inner_floor domain ms ws
    unfolding outside_whole
    inner_at whole x base e = e ∙ ap₂ (λ (n x : ℕ). n * x * domain / share_scale) size_at base

pub count-sampled-requires : goal.count-sampled-requires
count-sampled-requires c = (c.requires.marked.marks ∙ sym c.requires.marked.shares, omega (arith, c.requires.marked.shares, c.requires.marked.most))

pub first-x-requires : goal.first-x-requires
first-x-requires c = c.requires.marked.marks

pub inner-whole-requires : goal.inner-whole-requires
inner-whole-requires c = inner_fits _ _ _ _ _ c.requires _ _ (size_at _ _ _ _ _ c.requires _ c.count-sampled.ensures) c.first-x.ensures

pub lay-requires : goal.lay-requires
lay-requires c = layable _ _ _ _ _ c.requires _ _ (inner_at _ _ _ _ _ c.requires _ c.count-sampled.ensures _ _ c.first-x.ensures c.inner-whole.ensures) (shares_at _ _ _ _ _ c.requires _ c.count-sampled.ensures)

pub returns : goal.returns
unfolding outside_shared
returns c = c.lay.ensures
    ∙ ap₂ (λ (i t : ℕ). each_unit (shared_unit i t) c.args.self.now.marks.now c.args.lists.now.weights.now c.args.lists.now.shares.now) (inner_at _ _ _ _ _ c.requires _ c.count-sampled.ensures _ _ c.first-x.ensures c.inner-whole.ensures) (shares_at _ _ _ _ _ c.requires _ c.count-sampled.ensures)
