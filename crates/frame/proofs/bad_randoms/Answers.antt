-- `bad_randoms` meets its contract.
use mathlib.Core.Path.{◌≡◌, refl, ap, ◌∙◌}
use Prim.Native.Nat.{ℕ}
use native.Mathlib.Omega.{arith}
use lib.Dec.{leb}
use Rattle.std.proofs.Common.{rules}
use Rattle.std.proofs.lemmas.Grind.{common_steps}
use Rattle.std.proofs.lemmas.List.Recursion.{max_bounds, max_least}
use Rattle.rules.specs.Limits.{random_range}
use Rattle.rules.specs.Draw.{bad_random}
use Rattle.frame.proofs.Whole.{largest, largest_at}
use Rattle.frame.proofs.bad_randoms.Goals as goal

pub returns : goal.returns
unfolding bad_random
returns c =
    let bounds = max_bounds largest (λ x. x) refl (λ _ _. refl) c.args.randoms.now in
    let least = max_least largest (λ x. x) refl (λ _ _. refl) c.args.randoms.now 0 c.unwrap_or.result (search rules) in
    let most : c.unwrap_or.result ≡ largest c.args.randoms.now = grind (arith, common_steps, bounds, least) in
    ap (λ (n : ℕ). leb random_range n) most ∙ largest_at random_range c.args.randoms.now (omega arith)
