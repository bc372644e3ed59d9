-- A count of places, which does not wrap.
use Prim.Native.Nat.{◌≤◌}
use Rattle.draw_search.proofs.tally.Given as goal

abbrev pub invariant-parts : goal.invariant-parts
invariant-parts l = l.many ≤ l.part-index
