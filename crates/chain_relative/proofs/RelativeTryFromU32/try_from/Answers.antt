-- `try_from` answers by the test of the range, a number at a limit being within it.
use Prim.Native.Nat.{◌<◌, ◌≤◌}
use Rattle.std.proofs.Common.{rules}
use borrow.Author.Tests.{lt-ltb, le-ltb}
use Rattle.rules.specs.Limits.{lowest_relative, highest_relative}
use Rattle.rules.specs.Tests.{◌or◌, outside}
use Rattle.rules.specs.Refusals.{refuse}
use Rattle.rules.proofs.Tests.{by_order}
use Rattle.chain_relative.proofs.RelativeTryFromU32.try_from.Goals as goal

pub returns-then-contains : goal.returns-then-contains
unfolding refuse outside ◌or◌
returns-then-contains c = let low : lowest_relative ≤ c.args.x = search rules in
    let high : c.args.x ≤ highest_relative = search rules in
    simp (le-ltb _ _ low, le-ltb _ _ high)

pub returns-else-contains : goal.returns-else-contains
unfolding refuse outside ◌or◌
returns-else-contains c = let over : lowest_relative ≤ c.args.x → highest_relative < c.args.x = λ h. search rules in
    by_order c.args.x lowest_relative (λ h. simp (lt-ltb _ _ h)) (λ h. simp (le-ltb _ _ h, lt-ltb _ _ (over h)))
