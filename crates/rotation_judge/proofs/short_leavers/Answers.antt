-- `short_leavers` meets its contract: what the old panel leaves of the buffer is short of the births exactly where the buffer is short of both.
use mathlib.Core.Path.{◌≡◌, refl, sym, ◌∙◌}
use mathlib.Core.Bool.{Bool}
use Prim.Native.Nat.{ℕ, ◌+◌, ◌-◌, ◌≤◌}
use native.Mathlib.Omega.{arith}
use lib.Dec.{ltb}
use borrow.Author.Tests.{lt-ltb, le-ltb}
use Rattle.std.specs.Prelude.{Option, Some, None, MatchOption}
use Rattle.std.specs.Option.{SomeIff}
use Rattle.std.specs.Bool.{IsTrue}
use Rattle.std.proofs.Common.{rules}
use Rattle.std.proofs.lemmas.Option.{MatchOption-at_some, MatchOption-at_none}
use Rattle.rules.specs.Rotation.{short_leavers}
use Rattle.rules.proofs.Tests.{by_order}
use Rattle.rotation_judge.proofs.short_leavers.Goals as goal

-- b − p is below n exactly where b is below p + n
left_over : (b p n left : ℕ) → p ≤ b → left ≡ b - p → ltb left n ≡ ltb b (p + n)
left_over b p n left h e =
    by_order b (p + n)
    (λ l. lt-ltb left n (omega arith) ∙ sym (lt-ltb b (p + n) l))
    (λ l. le-ltb left n (omega arith) ∙ sym (le-ltb b (p + n) l))

-- whatever the difference is, where there is one
short_by :
    (b p n : ℕ) (rest : Option ℕ) (r : Bool) (At : ℕ → Type 0) → SomeIff rest (p ≤ b) (b - p) → MatchOption rest (IsTrue r) At → ((k : ℕ) → At k → r ≡ ltb k n)
    → r ≡ ltb b (p + n)
short_by b p n (Some left) r At e m at = at left (MatchOption-at_some (IsTrue r) At left refl m) ∙ left_over b p n left e.0 e.1
short_by b p n None r At e m at =
    MatchOption-at_none (IsTrue r) At refl m ∙ sym (lt-ltb b (p + n) (by_order b p (λ l. omega (arith, l)) (λ l. absurd (e l))))

pub returns : goal.returns
unfolding short_leavers
returns c = short_by _ _ _ _ _ _ c.checked_sub.ensures c.is_none_or.ensures (λ k told. search rules)
