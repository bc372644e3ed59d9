-- What a call of take-all that no refusal stops knows: refusals 1, 3, 5 and 6 do not apply.
use mathlib.Core.Path.{◌≡◌}
use mathlib.Core.List.{List}
use Prim.Native.Nat.{ℕ, ◌≤◌}
use lib.ListN.{length}
use borrow.Author.Tests.{ltb-false}
use Rattle.rules.specs.TakeAll.{take_all_refusal}
use Rattle.rules.proofs.Refusals.{refuse_none, then_none}
use Rattle.frame.proofs.Accepted.{Units, units}

pub record Accepted (ts : List ℕ) (z : ℕ) (marks : List ℕ) : Type 0 where
  pub units : Units ts z
  pub room : length ts ≤ length marks

pub accepted : (ts : List ℕ) (z : ℕ) (marks : List ℕ) → take_all_refusal ts z marks ≡ 0 → Accepted ts z marks
unfolding take_all_refusal
accepted ts z marks e =
    let n1 = then_none _ _ e in
    let n3 = then_none _ _ n1.1 in
    let n5 = then_none _ _ n3.1 in
    record {
      units = units ts z (refuse_none _ 0 n1.0) (refuse_none _ 2 n3.0) (refuse_none _ 4 n5.0);
      room = ltb-false _ _ (refuse_none _ 5 n5.1);
    }
