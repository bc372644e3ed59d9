-- The candidates of two lists: of none, of one in either place, and gathered units in order.
use mathlib.Core.Path.{◌≡◌, refl, sym, ap, ◌∙◌}
use mathlib.Core.Bool.{Bool, false}
use mathlib.Core.List.{List, [], ◌++◌}
use Prim.Native.Nat.{ℕ, ◌<◌}
use native.Mathlib.Nat.{not-suc-le-zero}
use native.Mathlib.Omega.{arith}
use lib.Dec.{eqb}
use lib.ListN.{length, get_or, length-append, get_or-append}
use Rattle.rules.specs.Tests.{◌or◌, ◌and◌}
use Rattle.rules.specs.Lists.{elem, any_of}
use Rattle.rules.specs.Selection.{count, rank}
use Rattle.rules.specs.TakeAll.{Group, larger}
use Rattle.rules.specs.Kept.{Keeping, keeping, in_previous, near_border, candidate}
use Rattle.rules.proofs.Tests.{and_off, and_second, or_none}
use Rattle.selection.proofs.Sums.{sum_same}
use Rattle.order.specs.InOrder.{InOrder}
use Rattle.order.proofs.Ranks.{elem_count}
use Rattle.group_border.specs.Border.{Gathered, Candidates}

-- with no lists nobody is a candidate
pub gathered_none : (ns ts : List ℕ) (threshold : ℕ) (g : Group) → Gathered ns ts (keeping threshold [] []) g []
unfolding candidate in_previous elem any_of ◌or◌
gathered_none ns ts threshold g = record {
  low = record { at = λ k l. absurd (not-suc-le-zero l) };
  distinct = record { one = λ j k l m. absurd (not-suc-le-zero m) };
  all = λ i l. sym (and_off _ _ (and_second _ _ refl));
}

-- one list, whichever of the two it is
pub gathered_turned : (ns ts list : List ℕ) (threshold : ℕ) (g : Group) (units : List ℕ) → Gathered ns ts (keeping threshold [] list) g units → Gathered ns ts (keeping threshold list []) g units
gathered_turned ns ts list threshold g units w = record { low = w.low; distinct = w.distinct; all = λ i l. w.all i l ∙ turned i }
  where
    turned : (i : ℕ) → candidate ns ts (keeping threshold [] list) g i ≡ candidate ns ts (keeping threshold list []) g i
    turned i = unfold candidate in_previous near_border elem any_of ◌or◌ in rw (or_none (any_of (eqb (get_or ns i 0)) list) false refl)

module _ (ns ts : List ℕ) (p : Keeping) (g : Group) (units new rest : List ℕ) (w : Gathered ns ts p g units) (o : InOrder ts units new) where
  rank_same : (i : ℕ) → rank (λ j. elem j units) (larger ts) (length ts) i ≡ rank (candidate ns ts p g) (larger ts) (length ts) i
  unfolding rank count
  rank_same i = sum_same _ _ (λ j. 1) (length ts) (λ j l. ap (λ (b : Bool). b and larger ts j i) (w.all j l))

  pub many_is : length units ≡ count (candidate ns ts p g) (length ts)
  unfolding count
  many_is = sym (elem_count (length ts) units w.low w.distinct) ∙ sum_same _ _ (λ j. 1) (length ts) (λ j l. w.all j l)

  pub in_order_lem : length new ≡ length units → Candidates ns ts p g (new ++ rest) (length units)
  in_order_lem long =
      let r = o.ranked w.distinct in
      let at : (k : ℕ) → k < length units → get_or (new ++ rest) k 0 ≡ get_or new k 0 = λ k l. get_or-append new rest 0 k (omega arith) in
      record {
        within = simp length-append (omega arith);
        many = many_is;
        ranked = record {
          low = λ k l. rw (at k l) (r.low k l);
          mark = λ k l. rw (at k l) (sym (w.all _ (r.low k l)) ∙ r.mark k l);
          at = λ k l. rw (at k l) (sym (rank_same _) ∙ r.at k l);
        };
      }
