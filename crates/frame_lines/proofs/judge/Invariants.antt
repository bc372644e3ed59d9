-- The answer from the next line on (`scanned`) stays the answer of the whole text. Each line is a byte at least, so their count fits.
use mathlib.Core.Path.{◌≡◌}
use mathlib.Core.List.{List}
use Prim.Native.Nat.{ℕ, ◌-◌, ◌≤◌}
use lib.ListN.{length}
use Rattle.rules.specs.Register.{scanned, imported}
use Rattle.frame_lines.proofs.judge.Given as goal

-- the answer at an offset, after some lines, is that of the whole text
pub record Scanned (t : List ℕ) (places at lines : ℕ) : Type 0 where
  pub few : lines ≤ at
  pub most : ℕ
  pub left : length t - at ≤ most
  pub same : scanned most t at lines places ≡ imported t places

abbrev pub invariant-loop-at : goal.invariant-loop-at
invariant-loop-at l = Scanned l.t l.places l.at l.lines

abbrev pub decreases-loop-at : goal.decreases-loop-at
decreases-loop-at l = length l.t - l.at
