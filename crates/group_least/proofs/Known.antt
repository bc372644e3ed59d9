-- What is known between two passes, and after one (proofs/Passes).
use mathlib.Core.Path.{◌≡◌, subst}
use mathlib.Core.List.{List}
use Prim.Native.Nat.{ℕ, ◌+◌, ◌-◌, ◌*◌, ◌≤◌, ◌<◌}
use native.Mathlib.Omega.{arith}
use lib.ListN.{length}
use lib.Dec.{leb}
use Rattle.rules.specs.Lists.{sum}
use Rattle.rules.specs.Selection.{sum_of, count}
use Rattle.rules.specs.TakeAll.{turnover}
use Rattle.selection.proofs.Sums.{sum_both, sum_list}
use Rattle.group_least.specs.Size.{Sized, has_least}
use Rattle.group_least.proofs.Passes.{Grown, grown_none, grown_next}

pub record Known (ts : List ℕ) (z total q rest least : ℕ) : Type 0 where
  pub grown : Grown ts z q rest least
  pub rest_low : rest ≤ total

pub known_none : (ts : List ℕ) (z total : ℕ) → Sized ts z → total ≡ sum ts → Known ts z total 0 total (total + 1)
known_none ts z total w all = record { grown = rw all (grown_none ts z w); rest_low = omega arith }

module _ (ts : List ℕ) (total at turned : ℕ) (all : total ≡ sum ts) (turned_is : turned ≡ sum_of (has_least ts at) (turnover ts) (length ts)) where
  pub part : turned ≤ total
  part = omega (arith, all, turned_is, sum_both (has_least ts at) (turnover ts) (length ts), sum_list ts)

  pub known_next :
      (z : ℕ) → Sized ts z → {q rest least : ℕ} → Grown ts z q rest least → q < z → (m : ℕ) → ((t : ℕ) → leb rest ((z - q) * t) ≡ leb at t)
      → m ≡ count (has_least ts at) (length ts) → Known ts z total m (total - turned) at
  known_next z w g l m reaching many =
      let left : sum ts - sum_of (has_least ts at) (turnover ts) (length ts) ≡ total - turned = omega (arith, all, turned_is) in
      record { grown = subst (λ (x : ℕ). Grown ts z m x at) left (grown_next ts z w g l at m reaching many); rest_low = omega arith }
