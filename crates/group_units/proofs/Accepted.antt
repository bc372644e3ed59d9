-- What a call that no refusal stops knows: refusals 1, 2, 3, 5, 6 and 30 do not apply.
use mathlib.Core.Path.{◌≡◌}
use mathlib.Core.List.{List}
use Prim.Native.Nat.{ℕ, ◌≤◌}
use lib.ListN.{length}
use borrow.Author.Tests.{ltb-false, eqb-true, not-false}
use Rattle.rules.specs.Kept.{Keeping, take_all_units_refusal}
use Rattle.rules.proofs.Tests.{or_false}
use Rattle.rules.proofs.Refusals.{refuse_none, then_none}
use Rattle.frame.proofs.Accepted.{Units, units}
use Rattle.group_kept.specs.Kept.{Enlargeable}
use Rattle.group_kept.proofs.Accepted.{enlargeable}

pub record Accepted (ns ts : List ℕ) (z : ℕ) (p : Keeping) (buffer : List ℕ) : Type 0 where
  pub same : length ns ≡ length ts
  pub units : Units ts z
  pub room : z ≤ length buffer
  pub ready : Enlargeable ns ts z p

pub accepted : (ns ts : List ℕ) (z : ℕ) (p : Keeping) (buffer : List ℕ) → take_all_units_refusal ns ts z p buffer ≡ 0 → Accepted ns ts z p buffer
unfolding take_all_units_refusal
accepted ns ts z p buffer e =
    let n1 = then_none _ _ e in
    let n2 = then_none _ _ n1.1 in
    let n3 = then_none _ _ n2.1 in
    let n5 = then_none _ _ n3.1 in
    let n6 = then_none _ _ n5.1 in
    let lists = or_false _ _ (refuse_none _ 0 n1.0) in
    let same : length ns ≡ length ts = eqb-true _ _ (not-false _ lists.0) in
    let known = units ts z lists.1 (refuse_none _ 2 n3.0) (refuse_none _ 4 n5.0) in
    record {
      same = same;
      units = known;
      room = ltb-false _ _ (refuse_none _ 5 n6.0);
      ready = enlargeable known same (not-false _ (refuse_none _ 1 n2.0)) n6.1;
    }
