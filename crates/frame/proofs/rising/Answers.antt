-- `rising` meets its contract. The invariant: where no number fell so far, the places from i on rise from the one before if and only if the whole list rises.
use Prim.Native.Nat.{ℕ, ◌+◌, ◌-◌, ◌<◌, ◌≤◌}
use mathlib.Core.Path.{◌≡◌, refl, sym, ap, ◌∙◌}
use mathlib.Core.Bool.{Bool, true, false}
use mathlib.Core.List.{List}
use native.Mathlib.Omega.{arith}
use lib.ListN.{length, get_or, drop}
use borrow.Author.Rules.{rules}
use Rattle.rules.specs.Tests.{◌and◌}
use Rattle.rules.specs.Lists.{rising, rises_from}
use Rattle.rules.proofs.Lists.{rises_start, rises_next, rises_stop, rises_end}
use Rattle.rules.proofs.Tests.{and_on, and_second}
use Rattle.frame.proofs.rising.Goals as goal
use Rattle.frame.proofs.rising.Goals.{else-numbers-i, then-numbers-i}

-- where nothing is left, what was seen decides
and_true_right : (a b : Bool) → b ≡ true → (a and b) ≡ a
unfolding ◌and◌
and_true_right true b h = h
and_true_right false b h = refl

module _ (l : List ℕ) (i : ℕ) (rises : Bool) (h : i < length l) where
  abbrev Left : Type 0
  Left = (rises and rises_from (get_or l (i - 1) 0) (drop i l)) ≡ rising l

  falls : get_or l i 0 ≤ get_or l (i - 1) 0 → Left → (false and rises_from (get_or l i 0) (drop (i + 1) l)) ≡ rising l
  unfolding ◌and◌
  falls low left = sym (and_second rises _ (rises_stop _ l i h low)) ∙ left

  rises_on : get_or l (i - 1) 0 < get_or l i 0 → Left → (rises and rises_from (get_or l i 0) (drop (i + 1) l)) ≡ rising l
  rises_on high left = ap (λ (rest : Bool). rises and rest) (rises_next _ l i h high) ∙ left

pub loop-i-init : goal.loop-i-init
loop-i-init c = and_on true _ refl ∙ rises_start c.args.numbers.now

pub loop-i-preserved : goal.loop-i-preserved
loop-i-preserved c =
    let at = c.loop-i in
    let here : at.i + 1 - 1 ≡ at.i = omega arith in
    elim c.if-numbers-i.branch [
      | then-numbers-i w ↦ rw (w.rises-is, here) (falls _ at.i at.rises c.loop-i-test.true w.if-numbers-i.true at.invariant)
      | else-numbers-i w ↦ rw (w.rises-is, here) (rises_on _ at.i at.rises c.loop-i-test.true w.if-numbers-i.false at.invariant)
    ]

pub returns : goal.returns
returns c = sym (and_true_right c.loop-i.rises _ (rises_end _ _ c.loop-i.i (search rules))) ∙ c.loop-i.invariant
