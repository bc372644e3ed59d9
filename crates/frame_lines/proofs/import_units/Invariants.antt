-- After i turns the first i units are stored, and the stores that are left give the list that all of them give (`stored`).
use mathlib.Core.Path.{◌≡◌}
use mathlib.Core.List.{List}
use Prim.Native.Nat.{ℕ, ◌-◌}
use lib.ListN.{length}
use Rattle.frame_lines.specs.declared.Unit.{Unit}
use Rattle.frame_lines.proofs.Filled.{stored}
use Rattle.frame_lines.proofs.import_units.Given as goal

-- of n lines of the text t into the list ys: i units are stored, the next line begins at `at`, and the list is l
pub record Turn (t : List ℕ) (ys : List Unit) (n at i : ℕ) (l : List Unit) : Type 0 where
  pub same : length l ≡ length ys
  pub goes : stored (n - i) t at i l ≡ stored n t 0 0 ys

abbrev pub invariant-loop-i : goal.invariant-loop-i
invariant-loop-i l = Turn l.text l.initial.list l.n l.at l.i l.list
