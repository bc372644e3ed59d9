-- One more for the sector at place k: it was none of the first k, and is one of the first k + 1.
use mathlib.Core.Path.{◌≡◌, refl, ap, ◌∙◌}
use mathlib.Core.Bool.{Bool, cond}
use mathlib.Core.List.{List}
use Prim.Native.Nat.{ℕ, suc, ◌+◌, ◌≤◌, ◌<◌}
use native.Mathlib.Numerals.{add-one}
use native.Mathlib.Omega.{arith}
use lib.ListN.{length, get_or, set, length-set}
use lib.Seq.{get_or-set_same, get_or-set_other}
use lib.Dec.{eqb}
use borrow.Author.Tests.{eqb-true, eqb-false}
use Rattle.rules.specs.Selection.{firsts}
use Rattle.rules.proofs.Tests.{by_test}
use Rattle.selection.specs.Ranked.{Ranked}
use Rattle.selection.proofs.Orders.{Order, firsts_zero}
use Rattle.selection.proofs.Places.{first_not, first_now, first_others}
use Rattle.sector_more.specs.Given.{Given}

pub given_none : (still : ℕ → Bool) (before : ℕ → ℕ → Bool) (n : ℕ) (old : List ℕ) → Given still before n 0 old old
given_none still before n old = record {
  same = refl;
  at = λ i l. rw (firsts_zero still before n i) (omega arith);
  beyond = λ i l. refl;
}

module _ {still : ℕ → Bool} {before : ℕ → ℕ → Bool} {n len : ℕ} {top : List ℕ} (o : Order still before n) (r : Ranked still before n top len)
    (k : ℕ) (l : k < len) (old new : List ℕ) (w : Given still before n k old new) where
  -- the count at place k is as it was
  pub given_here : get_or new (get_or top k 0) 0 ≡ get_or old (get_or top k 0) 0
  given_here = w.at (get_or top k 0) (r.low k l) ∙ rw (first_not o r k l) (omega arith)

  pub given_more : (v : ℕ) → v ≡ get_or new (get_or top k 0) 0 + 1 → n ≤ length new → Given still before n (k + 1) old (set new (get_or top k 0) v)
  given_more v more room = rw (more, add-one k) (record {
    same = simp length-set w.same;
    at = λ i li.
        by_test (eqb i (get_or top k 0))
        (λ e. here i (eqb-true _ _ e))
        (λ e.
        let ne = eqb-false i (get_or top k 0) e in
        get_or-set_other new (get_or top k 0) i _ 0 ne ∙ w.at i li ∙ ap (λ (b : Bool). get_or old i 0 + cond b 1 0) (first_others o r k l i li ne));
    beyond = λ i li. get_or-set_other new (get_or top k 0) i _ 0 (λ e. omega (arith, e, r.low k l)) ∙ w.beyond i li;
  })
    where
      here : (i : ℕ) → i ≡ get_or top k 0 → get_or (set new (get_or top k 0) (get_or new (get_or top k 0) 0 + 1)) i 0 ≡ get_or old i 0 + cond (firsts still before n (suc k) i) 1 0
      here i e =
          rw (e, first_now o r k l)
          (get_or-set_same new (get_or top k 0) _ 0 (omega (arith, r.low k l)) ∙ ap (λ (x : ℕ). x + 1) given_here)
