-- After k passes the rest of them from the marks at hand is the whole (proofs/Settling.antt).
use mathlib.Core.Path.{◌≡◌}
use mathlib.Core.List.{List}
use Rattle.rules.specs.Limits.{most_sectors}
use Rattle.sector_passes.specs.Marks.{still_in}
use Prim.Native.Nat.{ℕ, ◌-◌, ◌≤◌}
use lib.ListN.{length}
use Rattle.rules.specs.Allocation.{Sharing, sectors, passes, stayed}
use Rattle.sector_judge.specs.Sharing.{sharing_of}
use Rattle.sector_passes.proofs.settle.Given as goal

pub record Going (a : Sharing) (gone : List ℕ) (k : ℕ) : Type 0 where
  pub most : k ≤ sectors a
  pub full : length gone ≡ most_sectors
  pub rest : stayed a ≡ passes (sectors a - k) a (still_in gone)

abbrev pub invariant-loop-k : goal.invariant-loop-k
invariant-loop-k l = Going (sharing_of l.sharing) l.gone l._k
