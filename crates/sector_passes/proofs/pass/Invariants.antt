-- Each turn leaves the marks as the pass says (`Passed`); the two products of a turn fit.
use mathlib.Core.Path.{◌≡◌}
use mathlib.Core.List.{List}
use Rattle.rules.specs.Allocation.{Sharing, sectors}
use Rattle.sector_judge.specs.Sharing.{sharing_of}
use Rattle.sector_passes.specs.Marks.{still_in, is_below}
use Rattle.sector_passes.proofs.Passed.{Passed}
use Prim.Native.Nat.{ℕ, ◌≤◌}
use lib.ListN.{length}
use Rattle.sector_passes.proofs.pass.Given as goal

pub record Turned (rest total : ℕ) (a : Sharing) (gone₀ gone : List ℕ) (leave i : ℕ) : Type 0 where
  pub most : i ≤ sectors a
  pub few : leave ≤ i
  pub same : length gone ≡ length gone₀
  pub marks : Passed (still_in gone₀) (is_below rest total a) gone i leave

abbrev pub invariant-loop-i : goal.invariant-loop-i
invariant-loop-i l = Turned l.left.rest l.left.total (sharing_of l.sharing) l.initial.gone l.gone l.leave l.i
