-- `Seek::meets` meets its contract: what stands at the place that the search reached is the number or not, and where it is the next search goes on behind it.
use mathlib.Core.Path.{◌≡◌, refl, sym}
use mathlib.Core.Bool.{Bool, true, false}
use mathlib.Core.List.{List}
use Prim.Native.Nat.{ℕ, ◌+◌}
use native.Mathlib.Omega.{arith}
use mir.Val.{bool_byte}
use Rattle.std.proofs.Common.{rules}
use Rattle.rules.specs.Tests.{◌and◌}
use Rattle.rotation_seek.specs.Passed.{stands, behind}
use Rattle.rotation_seek.proofs.Passing.{behind_one, behind_none}
use Rattle.rotation_seek.proofs.Seek.meets.Goals as goal

-- a place further where the number stands
further : (list : List ℕ) (r x : ℕ) (b : Bool) → b ≡ stands list r x → r + bool_byte b ≡ behind list r x
further list r x true e = sym (behind_one list r x (sym e))
further list r x false e = omega (arith, behind_none list r x (sym e))

pub returns : goal.returns
unfolding stands ◌and◌
returns c = record {
  same = refl;
  place = c.first_from-place.result;
  reached = c.first_from-place.ensures;
  told = search (rules);
  onward = rw c.from.ensures (further _ _ _ _ (search (rules)));
}
