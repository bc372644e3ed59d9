-- `Keyed::key` meets its contract: the shift and the products of `key_over`, with the gap that is given.
use mathlib.Core.Path.{◌≡◌, ap, ◌∙◌}
use mathlib.Core.List.{List}
use Prim.Native.Nat.{ℕ, ◌*◌, ◌<◌}
use lib.ListN.{get_or, length}
use Rattle.rules.specs.Limits.{random_range}
use Rattle.rules.specs.TakeAll.{turnover}
use Rattle.rules.specs.Draw.{shifted}
use Rattle.draw_fraction.specs.declared.Fraction.{Fraction}
use Rattle.draw_key.specs.declared.Setting.{Setting}
use Rattle.draw_key.specs.Methods.{denominator_by}
use Rattle.draw_key.specs.Units.{num_of, den_of, Units, UnitKey}
use Rattle.draw_key.proofs.Keys.{shifted_low, by_positive}
use Rattle.draw_key.proofs.Keyed.key.Goals as goal

-- what is asked of unit i
module _ {ts rs gs : List ℕ} {s : Setting} (ok : Units ts rs gs s) (i : ℕ) (l : i < length ts) where
  -- r is below its range
  low : shifted s.start (get_or rs i 0) < random_range
  low = shifted_low _ _ (ok.random_low_lem i l)

  -- the key from its products
  key :
      (f : Fraction) (n : ℕ) → n ≡ shifted s.start (get_or rs i 0)
      → (f.num ≡ n * get_or gs i 0) × (f.den ≡ denominator_by s.method (turnover ts i) n)
      → UnitKey ts rs gs s i f
  unfolding num_of den_of
  key f n e k = record {
    num_is = k.0 ∙ ap (λ (m : ℕ). m * get_or gs i 0) e;
    den_is = k.1 ∙ ap (λ (m : ℕ). denominator_by s.method (turnover ts i) m) e;
    den_some = rw (k.1, e) (by_positive s.method (turnover ts i) (shifted s.start (get_or rs i 0)) (ok.positive i l) low);
  }

pub key_over-requires : goal.key_over-requires
key_over-requires c = (
  c.args.self.now.units.within c.args.i c.requires,
  rw c.shift-shifted.ensures (low c.args.self.now.units c.args.i c.requires),
  c.args.self.now.units.gap_low c.args.i c.requires,
)

pub returns : goal.returns
returns c = key c.args.self.now.units c.args.i c.requires c.key_over.result _ c.shift-shifted.ensures c.key_over.ensures
