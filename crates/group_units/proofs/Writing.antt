-- A turn of the pass: after i turns the numbers of the marked units below i are written.
use mathlib.Core.Path.{◌≡◌, refl, sym, ap, ◌∙◌}
use mathlib.Core.Bool.{true, false}
use mathlib.Core.List.{List}
use Prim.Native.Nat.{ℕ, ◌+◌, ◌≤◌, ◌<◌}
use native.Mathlib.Omega.{arith}
use lib.ListN.{length, get_or, set, length-set}
use borrow.Author.Tests.{eq-eqb, ne_eqb}
use Rattle.rules.specs.Refusals.{written}
use Rattle.rules.specs.Selection.{count, listed}
use Rattle.selection.proofs.Sums.{count_yes, count_not, has_room, listed_not, written_store}
use Rattle.group.specs.Group.{marked}

-- where a turn stands
pub record At (ns marks before units : List ℕ) (many i : ℕ) : Type 0 where
  pub within : i ≤ length ns
  pub many_is : many ≡ count (marked marks) i
  pub long : length units ≡ length before
  pub whole : units ≡ written 0 (listed (marked marks) (λ k. get_or ns k 0) i) before

module _ (ns marks before units : List ℕ) (many i : ℕ) (at : At ns marks before units many i) (l : i < length ns) where
  pub at_not : (get_or marks i 0 ≡ 1 → ⊥) → At ns marks before units many (i + 1)
  unfolding marked
  at_not ne =
      let no : marked marks i ≡ false = ne_eqb _ 1 ne in
      record {
        within = omega arith;
        many_is = at.many_is ∙ sym (count_not (marked marks) i no);
        long = at.long;
        whole = at.whole ∙ ap (λ (xs : List ℕ). written 0 xs before) (sym (listed_not (marked marks) (λ k. get_or ns k 0) i no));
      }

  pub at_more : get_or marks i 0 ≡ 1 → many < length before → At ns marks before (set units many (get_or ns i 0)) (many + 1) (i + 1)
  unfolding marked
  at_more e room =
      let yes : marked marks i ≡ true = eq-eqb _ 1 e in
      record {
        within = omega arith;
        many_is = ap (λ (k : ℕ). k + 1) at.many_is ∙ sym (count_yes (marked marks) i yes);
        long = simp length-set at.long;
        whole = written_store (marked marks) (λ k. get_or ns k 0) before units i many (get_or ns i 0) yes refl at.whole at.many_is room;
      }

  pub room_for : get_or marks i 0 ≡ 1 → count (marked marks) (length ns) ≤ length before → many < length before
  unfolding marked
  room_for e r = omega (arith, at.many_is, has_room (marked marks) (length ns) i l (eq-eqb _ 1 e))
