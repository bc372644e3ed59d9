-- 22 as code asks it, by a sum that is there only within the limit; and what 21 and 22 come to.
use mathlib.Core.Path.{◌≡◌, sym, ap, ◌∙◌}
use mathlib.Core.Bool.{true, false}
use mathlib.Core.List.{List}
use Prim.Native.Nat.{ℕ, ◌<◌, ◌≤◌}
use lib.Dec.{ltb}
use borrow.Author.Tests.{lt-ltb, le-ltb}
use Rattle.std.specs.Prelude.{Option, Some, None}
use Rattle.std.specs.Option.{is_none, unwrap_or}
use Rattle.rules.specs.Limits.{most_weight}
use Rattle.rules.specs.Lists.{sum, any_pair}
use Rattle.rules.specs.Refusals.{refuse, ◌then◌}
use Rattle.rules.specs.Chain.{bad_weight, weight_refusal}
use Rattle.rules.proofs.Tests.{by_order}
use Rattle.chain_sums.specs.Limited.{limited}

pub limited_over : (s : ℕ) → most_weight < s → None ≡ limited s
limited_over s h = rw (lt-ltb most_weight s h)

pub limited_within : (s : ℕ) → s ≤ most_weight → Some s ≡ limited s
limited_within s h = rw (le-ltb most_weight s h)

-- the sum is there exactly where it is within the limit
pub limited_told : (s : ℕ) (o : Option ℕ) → o ≡ limited s → is_none o ≡ ltb most_weight s
limited_told s o e =
    by_order most_weight s
    (λ h. ap is_none (e ∙ sym (limited_over s h)) ∙ sym (lt-ltb most_weight s h))
    (λ h. ap is_none (e ∙ sym (limited_within s h)) ∙ sym (le-ltb most_weight s h))

some_not_none : {k : ℕ} → Some k ≡ None → ⊥
some_not_none e = cc

-- a sum that is there is the whole sum
pub limited_gives : (s k : ℕ) → Some k ≡ limited s → (k ≡ s) × (ltb most_weight s ≡ false)
limited_gives s k e =
    by_order most_weight s
    (λ h. absurd (some_not_none (e ∙ sym (limited_over s h))))
    (λ h. (ap (λ o. unwrap_or o 0) (e ∙ sym (limited_within s h)), le-ltb most_weight s h))

module _ (ms ws : List ℕ) where
  pub weights_low : any_pair bad_weight ms ws ≡ true → 21 ≡ weight_refusal ms ws
  unfolding weight_refusal refuse ◌then◌
  weights_low low = simp low

  pub weights_over : any_pair bad_weight ms ws ≡ false → ltb most_weight (sum ws) ≡ true → 22 ≡ weight_refusal ms ws
  unfolding weight_refusal refuse ◌then◌
  weights_over low over = simp (low, over)

  pub weights_pass : any_pair bad_weight ms ws ≡ false → ltb most_weight (sum ws) ≡ false → 0 ≡ weight_refusal ms ws
  unfolding weight_refusal refuse ◌then◌
  weights_pass low over = simp (low, over)
