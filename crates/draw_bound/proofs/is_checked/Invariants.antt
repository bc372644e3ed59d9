-- Of the listed units looked at so far, those that pass are counted, and each of the bound's own part is on its side.
use Prim.Native.Nat.{ℕ, ◌≤◌, ◌<◌}
use mathlib.Core.Path.{◌≡◌}
use lib.ListN.{length, get_or}
use Rattle.rules.specs.Selection.{count}
use Rattle.draw_key.specs.Keyed.{over}
use Rattle.draw_bound.specs.Bound.{passes, Apart}
use Rattle.draw_bound.proofs.is_checked.Given as goal

abbrev pub invariant-listed : goal.invariant-listed
invariant-listed l = (l.many ≤ length l.yielded)
    × (l.many ≡ count (λ k. passes l.b (get_or l.parts k 0) (get_or l.units k 0)) (length l.yielded))
    × ((k : ℕ) → k < length l.yielded → get_or l.parts k 0 ≡ l.b.part → over Apart l.keyed l.b (get_or l.units k 0))
