-- `count`: what was counted and what is left make n and T; a list has few units, so that neither passes 64 bits.
use mathlib.Core.Path.{◌≡◌}
use mathlib.Core.List.{List}
use Rattle.rules.specs.Limits.{most_short}
use Rattle.rules.specs.Lists.{sum}
use Rattle.rules.specs.Panel.{sampled_size, sampled_shares}
use Rattle.chain_sampled.proofs.Turns.{left}
use Prim.Native.Nat.{ℕ, ◌+◌, ◌*◌, ◌≤◌}
use lib.ListN.{length}
use Rattle.chain_sampled.proofs.count.Given as goal

-- n and T are made of what was counted before place i and of what is left
pub record Counted (ms gs : List ℕ) (i size shares : ℕ) : Type 0 where
  pub some : size ≤ i
  pub few : shares ≤ most_short * i
  pub sizes : size + length (left i ms gs) ≡ sampled_size ms gs
  pub totals : shares + sum (left i ms gs) ≡ sampled_shares ms gs

abbrev pub invariant-loop-mark : goal.invariant-loop-mark
invariant-loop-mark l = Counted l.marks l.g (length l.yielded) l.size l.shares
