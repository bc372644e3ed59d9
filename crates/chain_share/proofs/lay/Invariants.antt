-- `lay`: the places before i hold the u, the others are as they came.
use mathlib.Core.Path.{◌≡◌}
use mathlib.Core.List.{List}
use Prim.Native.Nat.{ℕ}
use Rattle.rules.specs.Panel.{each_unit, shared_unit}
use Rattle.rules.proofs.Lists.{written_to}
use Rattle.chain_share.proofs.lay.Given as goal

abbrev pub news : ℕ → ℕ → List ℕ → List ℕ → List ℕ → List ℕ
news inner t ms ws gs = each_unit (shared_unit inner t) ms ws gs

abbrev pub invariant-loop-i : goal.invariant-loop-i
invariant-loop-i l = l.u ≡ written_to l.i (news l.inner l.t l.marks l.w l.g) l.initial.u
