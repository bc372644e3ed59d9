-- Document 01, "Draw": the panel, for an arbitrary group and an arbitrary order of the units outside it. Exactly n are sampled, exactly z are in
-- the panel, and its numbers rise where the frame's do. The crate `draw` cites these for the take-all group and the order by the keys of either method.
use mathlib.Core.Path.{◌≡◌, refl, ◌∙◌}
use mathlib.Core.Bool.{Bool, true, not}
use mathlib.Core.List.{List, append-nil}
use Prim.Native.Nat.{ℕ, zero, suc, ◌+◌, ◌≤◌}
use native.Mathlib.Omega.{arith}
use lib.ListN.{length, get_or}
use lib.Dec.{ltb}
use Rattle.rules.specs.Tests.{◌or◌}
use Rattle.rules.specs.Lists.{rising}
use Rattle.rules.specs.Selection.{count, rank, firsts, listed}
use Rattle.rules.proofs.Tests.{by_test}
use Rattle.rules.proofs.Lists.{rising_below, rising_snoc}
use Rattle.selection.proofs.Sums.{count_or, count_both}
use Rattle.selection.proofs.Orders.{Order}
use Rattle.selection.proofs.Places.{count_firsts}
use Rattle.selection.proofs.Listed.{listed_under}

-- ---- how many
-- the panel is the group and, apart from it, the sampled units
panel_parts :
    (takes : ℕ → Bool) (before : ℕ → ℕ → Bool) (n k : ℕ)
    → count (λ i. takes i or firsts (λ j. not (takes j)) before n k i) n ≡ count takes n + count (firsts (λ j. not (takes j)) before n k) n
unfolding firsts
panel_parts takes before n k = count_or takes (λ i. ltb (rank (λ j. not (takes j)) before n i) k) n

-- a group, of n units, and k to sample of the others
module _ (takes : ℕ → Bool) (before : ℕ → ℕ → Bool) (n k : ℕ) (few : count takes n + k ≤ n) (o : Order (λ i. not (takes i)) before n) where
  -- EXACTLY k ARE SAMPLED
  pub sampled_count : count (firsts (λ j. not (takes j)) before n k) n ≡ k
  sampled_count = count_firsts o k (omega (arith, few, count_both takes n))

  -- AND ALL OF THE GROUP WITH THEM ARE IN THE PANEL
  pub panel_count : count (λ i. takes i or firsts (λ j. not (takes j)) before n k i) n ≡ count takes n + k
  panel_count = panel_parts takes before n k ∙ omega (arith, sampled_count)

-- ---- the panel's numbers rise where the frame's do, whatever is marked
module _ (mark : ℕ → Bool) (ns : List ℕ) (r : rising ns ≡ true) where
  pub panel_rises : (n : ℕ) → n ≤ length ns → rising (listed mark (λ i. get_or ns i 0) n) ≡ true
  unfolding listed rising
  panel_rises zero l = refl
  panel_rises (suc n) l =
      let before = panel_rises n (omega arith) in
      let above = listed_under mark (λ i. get_or ns i 0) (get_or ns n 0) n (λ i k. rising_below ns r i n k l) in
      by_test (mark n)
      (λ e. rw e (rising_snoc (listed mark (λ i. get_or ns i 0) n) (get_or ns n 0) before above))
      (λ e. rw (e, append-nil) before)
