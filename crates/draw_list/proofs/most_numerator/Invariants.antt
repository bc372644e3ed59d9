-- No numerator seen so far is above the one that is kept.
use Prim.Native.Nat.{ℕ, ◌≤◌, ◌<◌}
use lib.ListN.{get_or}
use Rattle.draw_key.specs.Units.{num_of}
use Rattle.draw_list.proofs.most_numerator.Given as goal

abbrev pub invariant-units : goal.invariant-units
invariant-units l = (0 < l.most) × ((k : ℕ) → k < l.i-index → num_of l.keyed.randoms.now l.keyed.gaps.now l.keyed.setting (get_or l.units k 0) ≤ l.most)
