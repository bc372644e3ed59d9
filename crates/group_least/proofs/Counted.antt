-- After i turns count and turnover are those of the first i units.
use mathlib.Core.Path.{◌≡◌, refl, sym}
use mathlib.Core.Bool.{Bool, true, false, cond}
use mathlib.Core.List.{List}
use Prim.Native.Nat.{ℕ, ◌+◌, ◌≤◌, ◌<◌}
use native.Mathlib.Omega.{arith}
use borrow.Author.Tests.{le-leb, lt-leb}
use lib.ListN.{length}
use Rattle.rules.specs.Selection.{count, sum_of, every}
use Rattle.rules.specs.TakeAll.{turnover}
use Rattle.selection.proofs.Sums.{sum_le, sum_next, sum_grows, count_zero, count_yes, count_not}
use Rattle.group_least.specs.Size.{has_least}

pub record Counted (ts : List ℕ) (least many all i : ℕ) : Type 0 where
  pub within : i ≤ length ts
  pub many_is : many ≡ count (has_least ts least) i
  pub all_is : all ≡ sum_of (has_least ts least) (turnover ts) i

pub none : (ts : List ℕ) (least : ℕ) → Counted ts least 0 0 0
unfolding sum_of
none ts least = record { within = omega arith; many_is = sym (count_zero (has_least ts least)); all_is = refl }

module _ (ts : List ℕ) (least many all i : ℕ) (k : Counted ts least many all i) (l : i < length ts) where
  has : least ≤ turnover ts i → has_least ts least i ≡ true
  unfolding has_least
  has h = le-leb least (turnover ts i) h

  lacks : turnover ts i < least → has_least ts least i ≡ false
  unfolding has_least
  lacks h = lt-leb least (turnover ts i) h

  pub next : sum_of (has_least ts least) (turnover ts) (i + 1) ≤ sum_of every (turnover ts) (length ts)
  next = omega (arith, sum_le (has_least ts least) every (turnover ts) (i + 1) (λ j m h. refl), sum_grows every (turnover ts) (i + 1) (length ts) (omega arith))

  step : (b : Bool) → has_least ts least i ≡ b
      → sum_of (has_least ts least) (turnover ts) (i + 1) ≡ sum_of (has_least ts least) (turnover ts) i + cond b (turnover ts i) 0
  step b e = rw (← e) (sum_next (has_least ts least) (turnover ts) i)

  pub more : least ≤ turnover ts i → all + turnover ts i ≡ sum_of (has_least ts least) (turnover ts) (i + 1)
  more h = omega (arith, step true (has h), k.all_is)

  pub taken : least ≤ turnover ts i → Counted ts least (many + 1) (all + turnover ts i) (i + 1)
  taken h = record { within = omega arith; many_is = omega (arith, count_yes (has_least ts least) i (has h), k.many_is); all_is = more h }

  pub left : turnover ts i < least → Counted ts least many all (i + 1)
  left h = record {
    within = omega arith;
    many_is = omega (arith, count_not (has_least ts least) i (lacks h), k.many_is);
    all_is = omega (arith, step false (lacks h), k.all_is);
  }
