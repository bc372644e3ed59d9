-- The group of an accepted frame: what its search asks for, that marks which are written tell who is in it, and what it then has.
use mathlib.Core.Path.{◌≡◌, ap, ◌∙◌}
use mathlib.Core.Bool.{Bool, cond}
use mathlib.Core.List.{List}
use Prim.Native.Nat.{ℕ, ◌≤◌, ◌<◌}
use native.Mathlib.Omega.{arith}
use lib.ListN.{length, get_or, drop, get_or-append}
use Rattle.rules.specs.Refusals.{written}
use Rattle.rules.specs.Selection.{every}
use Rattle.rules.specs.TakeAll.{take_all_size, take_all_group}
use Rattle.rules.proofs.Tests.{by_test}
use Rattle.frame.proofs.Accepted.{Units}
use Rattle.selection.proofs.Sums.{count_every, listed_length}
use Rattle.selection.proofs.Listed.{every_at}
use Rattle.selection.proofs.TakeAll.{size_le, rest_le, group_size, outside_below}
use Rattle.group_least.specs.Size.{Sized}
use Rattle.group.specs.Group.{marks_of, marked, Sound}

-- what `find_group` asks of an accepted frame
pub sized : (ts : List ℕ) (z : ℕ) → Units ts z → Sized ts z
sized ts z u = record { some = u.size_some; most = u.size_few; within = u.size_within; total = u.total; positive = u.positive }

-- marks that are written tell who is taken
module _ (takes : ℕ → Bool) (n : ℕ) (old marks : List ℕ) (e : marks ≡ written 0 (marks_of takes n) old) where
  pub mark_at : (i : ℕ) → i < n → get_or marks i 0 ≡ cond (takes i) 1 0
  mark_at i l =
      let room : i < length (marks_of takes n) = omega (arith, listed_length every (λ j. cond (takes j) 1 0) n, count_every n) in
      ap (λ (xs : List ℕ). get_or xs i 0) e
      ∙ get_or-append (marks_of takes n) (drop (length (marks_of takes n)) old) 0 i room
      ∙ every_at (λ j. cond (takes j) 1 0) n i l

  pub marks_tell : (i : ℕ) → i < n → marked marks i ≡ takes i
  unfolding marked
  marks_tell i l = by_test (takes i) (λ h. rw (mark_at i l, h)) (λ h. rw (mark_at i l, h))

-- the take-all group of the rules is sound
pub sound : (ts : List ℕ) (z : ℕ) → z ≤ length ts → Sound ts z (take_all_group ts z)
unfolding take_all_group
sound ts z within = record {
  parts = omega (arith, group_size ts z within (take_all_size ts z) (size_le ts z), size_le ts z);
  below = λ some i li out. outside_below ts z within (omega arith) i li out;
  rest_low = rest_le ts z;
}
