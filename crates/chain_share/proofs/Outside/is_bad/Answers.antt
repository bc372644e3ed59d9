-- `is_bad` gives 29's test: nothing is asked where no unit is sampled, else each of its parts in turn.
use native.Mathlib.Omega.{arith}
use Rattle.std.proofs.Common.{rules}
use mathlib.Core.Path.{◌≡◌, refl, sym, ◌∙◌}
use mathlib.Core.Bool.{Bool, not}
use mathlib.Core.List.{List}
use Prim.Native.Nat.{ℕ, zero, suc}
use lib.Dec.{ltb, eqb}
use Rattle.rules.specs.Limits.{share_scale}
use Rattle.rules.specs.Tests.{◌or◌}
use Rattle.rules.specs.Lists.{any_of}
use Rattle.rules.specs.Panel.{of_sampled, sampled_size, sampled_base, sampled_shares, if_sampled, bad_outside}
use Rattle.chain_share.proofs.Bounds.{counted_size, counted_shares}
use Rattle.chain_sampled.specs.declared.Tally.{Tally}
use Rattle.chain_sampled.specs.Tally.{tally_of}
use Rattle.chain_share.specs.Outsideable.{Marked}
use Rattle.chain_share.proofs.Outside.is_bad.Goals as goal

if_some : (n : ℕ) (test : Bool) → (n ≡ 0 → ⊥) → if_sampled n test ≡ test
if_some zero test some = absurd (some refl)
if_some (suc n) test some = refl

module _ (domain : ℕ) (ms ws gs : List ℕ) (m : Marked ms ws gs) (t : Tally) (e : t ≡ tally_of ms gs) where
  -- n and T
  size_at : t.size ≡ sampled_size ms ws
  size_at = counted_size ms ws gs m t e

  shares_at : t.shares ≡ sampled_shares ms gs
  shares_at = counted_shares ms ws gs m t e

  -- with a sampled unit the four parts decide
  tested : (t.size ≡ 0 → ⊥) →
      bad_outside domain ms ws gs
      ≡ (eqb domain 0 or ltb share_scale domain or eqb (sampled_shares ms gs) 0 or any_of (λ w. not (eqb w (sampled_base ms ws))) (of_sampled ms ws))
  unfolding bad_outside
  tested some = if_some _ _ (λ h. some (size_at ∙ h))

pub count-sampled-requires : goal.count-sampled-requires
count-sampled-requires c = (c.requires.marks ∙ sym c.requires.shares, omega (arith, c.requires.shares, c.requires.most))

pub returns-then-sampled-eq0 : goal.returns-then-sampled-eq0
unfolding bad_outside
returns-then-sampled-eq0 c = rw (sym (size_at c.args.self.now.domain c.args.self.now.marks.now c.args.w.now c.args.g.now c.requires _ c.count-sampled.ensures) ∙ c.if-sampled-eq0.true)

pub first-x-requires : goal.first-x-requires
first-x-requires c = c.requires.marks

pub any_other-requires : goal.any_other-requires
any_other-requires c = c.requires.marks

pub returns-then-sampled-eq0-2 : goal.returns-then-sampled-eq0-2
unfolding ◌or◌
returns-then-sampled-eq0-2 c =
    rw (tested c.args.self.now.domain c.args.self.now.marks.now c.args.w.now c.args.g.now c.requires _ c.count-sampled.ensures c.if-sampled-eq0.false, sym (shares_at c.args.self.now.domain c.args.self.now.marks.now c.args.w.now c.args.g.now c.requires _ c.count-sampled.ensures))
    (search rules)

pub returns-else-sampled-eq0-2 : goal.returns-else-sampled-eq0-2
unfolding ◌or◌
returns-else-sampled-eq0-2 c =
    rw (tested c.args.self.now.domain c.args.self.now.marks.now c.args.w.now c.args.g.now c.requires _ c.count-sampled.ensures c.if-sampled-eq0.false, sym (shares_at c.args.self.now.domain c.args.self.now.marks.now c.args.w.now c.args.g.now c.requires _ c.count-sampled.ensures), sym c.first-x.ensures)
    (search rules)
