-- After i turns the first i sectors stand in the three lists (`Laid`).
use mathlib.Core.List.{List}
use Prim.Native.Nat.{ℕ, ◌≤◌}
use Rattle.rules.specs.Allocation.{Sharing, sectors}
use Rattle.sector_judge.specs.Sharing.{sharing_of}
use Rattle.sector_divide.specs.Quotas.{count_by, whole_by, remainder_by, Dividable}
use Rattle.sector_divide.proofs.Laid.{Laid}
use Rattle.sector_divide.proofs.divide.Given as goal

pub record Divided (rest total : ℕ) (a : Sharing) (gone counts wholes remainders : List ℕ) (i : ℕ) : Type 0 where
  pub most : i ≤ sectors a
  pub asked : Dividable rest total a gone
  pub count : Laid (sectors a) (count_by rest total a gone) i counts
  pub whole : Laid (sectors a) (whole_by rest total a gone) i wholes
  pub remainder : Laid (sectors a) (remainder_by rest total a gone) i remainders

abbrev pub invariant-loop-i : goal.invariant-loop-i
invariant-loop-i l = Divided l.left.rest l.left.total (sharing_of l.sharing) l.gone l.counts l.wholes l.remainders l.i
