-- `total` meets its contract: the library's sum is the definition's.
use mathlib.Core.Path.{◌≡◌, refl, sym, ◌∙◌}
use mathlib.Core.List.{List}
use Prim.Native.Nat.{ℕ, ◌<◌, ◌^◌}
use native.Mathlib.Omega.{arith}
use Rattle.std.proofs.Common.{rules}
use Rattle.std.proofs.iter.runs.Made.{chains}
use Rattle.std.specs.List.{sum as std_sum}
use Rattle.std.proofs.lemmas.List.Recursion.{is_sum_by}
use Rattle.rules.specs.Lists.{sum}
use Rattle.group_least.proofs.total.Goals as goal

sum_is : (ts : List ℕ) → sum ts ≡ std_sum ts
unfolding sum
sum_is = is_sum_by sum (λ x. x) refl (λ _ _. refl)

pub sum-requires-clause-fits : goal.sum-requires-clause-fits
sum-requires-clause-fits c =
    let low : std_sum c.args.turnovers.now < 2 ^ 64 = omega (arith, sum_is c.args.turnovers.now, c.requires) in
    search (rules, chains)

pub returns : goal.returns
returns c =
    let all : c.sum.result ≡ std_sum c.args.turnovers.now = search (rules, chains) in
    all ∙ sym (sum_is c.args.turnovers.now)
