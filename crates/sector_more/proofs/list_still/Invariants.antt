-- After i turns the list holds those of the first i sectors that are still there (`Held`).
use mathlib.Core.Path.{◌≡◌}
use mathlib.Core.List.{List}
use Prim.Native.Nat.{ℕ, ◌≤◌}
use lib.ListN.{length}
use Rattle.selection.specs.Held.{Held}
use Rattle.sector_passes.specs.Marks.{still_in}
use Rattle.sector_more.proofs.list_still.Given as goal

pub record Listed (gone : List ℕ) (n : ℕ) (places₀ places : List ℕ) (many i : ℕ) : Type 0 where
  pub most : i ≤ n
  pub few : many ≤ i
  pub same : length places ≡ length places₀
  pub held : Held (still_in gone) (λ i. i) i places many

abbrev pub invariant-loop-i : goal.invariant-loop-i
invariant-loop-i l = Listed l.gone l.sectors l.initial.places l.places l.many l.i
