-- `Permanent::shift` meets its contract: what is added is the definition's, and the sum stays below 2,000,000.
use mathlib.Core.Path.{◌≡◌, ap, ◌∙◌}
use mathlib.Core.Bool.{Bool, cond}
use Prim.Native.Nat.{ℕ, ◌+◌, ◌-◌, ◌<◌}
use native.Mathlib.Omega.{arith}
use lib.Dec.{ltb}
use Rattle.rules.specs.Limits.{random_range}
use Rattle.rules.specs.Draw.{shifted}
use Rattle.rules.proofs.Tests.{by_test}
use Rattle.draw_key.proofs.Permanent.shift.Goals as goal

-- the random number with what is added, less the start
sum_is : (start random more : ℕ) → start < random_range → more ≡ cond (ltb random start) random_range 0 → random + more - start ≡ shifted start random
unfolding shifted
sum_is start random more low e =
    by_test (ltb random start)
    (λ t. let m : more ≡ random_range = e ∙ ap (λ (b : Bool). cond b random_range 0) t in rw (m, t))
    (λ t. let m : more ≡ 0 = e ∙ ap (λ (b : Bool). cond b random_range 0) t in rw (m, t) (omega arith))

pub returns : goal.returns
returns c = sum_is _ _ _ c.requires.1 c.added-more.ensures
