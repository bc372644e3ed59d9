-- The sectors that are still there can be ordered (crate `order`), and place k then holds the one of rank k.
use mathlib.Core.Path.{◌≡◌, sym, ap, ◌∙◌, subst}
use mathlib.Core.Bool.{Bool}
use mathlib.Core.List.{List, ◌++◌}
use Prim.Native.Nat.{ℕ, ◌≤◌, ◌<◌}
use native.Mathlib.Omega.{arith}
use lib.ListN.{length, get_or, take, get_or-append}
use lib.Seq.{get_or-take}
use Rattle.rules.specs.Selection.{count, listed}
use Rattle.rules.specs.Order.{ordered}
use Rattle.rules.specs.TakeAll.{larger}
use Rattle.selection.specs.Ranked.{Ranked}
use Rattle.selection.specs.Held.{Held}
use Rattle.selection.proofs.Sums.{count_le, listed_length}
use Rattle.selection.proofs.TakeAll.{larger_order}
use Rattle.order.specs.InOrder.{Orderable, InOrder}
use Rattle.order.proofs.Merged.{ordered_length}
use Rattle.order.proofs.Marked.{listed_below, listed_ranked}

-- what stands behind the ranked units does not matter
ranked_front :
    (among : ℕ → Bool) (before : ℕ → ℕ → Bool) (n len : ℕ) (top rest : List ℕ) → len ≤ length top
    → Ranked among before n top len → Ranked among before n (top ++ rest) len
ranked_front among before n len top rest long r = record {
  low = λ k l. rw (front k l) (r.low k l);
  mark = λ k l. rw (front k l) (r.mark k l);
  at = λ k l. rw (front k l) (r.at k l);
}
  where
    front : (k : ℕ) → k < len → get_or (top ++ rest) k 0 ≡ get_or top k 0
    front k l = get_or-append top rest 0 k (omega arith)

-- the first of the ranked units
pub ranked_first :
    (among : ℕ → Bool) (before : ℕ → ℕ → Bool) (n len : ℕ) (top : List ℕ) (m : ℕ) → m ≤ len
    → Ranked among before n top len → Ranked among before n (take m top) m
ranked_first among before n len top m few r = record {
  low = λ k l. rw (get_or-take m top k 0 l) (r.low k (omega arith));
  mark = λ k l. rw (get_or-take m top k 0 l) (r.mark k (omega arith));
  at = λ k l. rw (get_or-take m top k 0 l) (r.at k (omega arith));
}

module _ (still : ℕ → Bool) (keys places : List ℕ) (n many : ℕ) (h : Held still (λ i. i) n places many) where
  held_length : length (take many places) ≡ count still n
  held_length = ap length h.units_are ∙ listed_length still (λ i. i) n

  pub held_few : many ≤ n
  held_few = omega (arith, h.many, count_le still n)

  pub held_orderable : (buffer : List ℕ) → n ≤ length keys → n ≤ length buffer → Orderable keys (take many places) buffer
  held_orderable buffer k b = record {
    low = record { at = λ j l. omega (arith, k, below j l) };
    room = omega (arith, held_length, count_le still n);
  }
    where
      below : (j : ℕ) → j < length (take many places) → get_or (take many places) j 0 < n
      below = subst (λ (xs : List ℕ). (j : ℕ) → j < length xs → get_or xs j 0 < n) (sym h.units_are) (listed_below still n).at

  pub held_ranked : (new rest : List ℕ) → InOrder keys (take many places) new → Ranked still (larger keys) n (new ++ rest) (count still n)
  held_ranked new rest o =
      let all : new ≡ ordered (larger keys) (listed still (λ i. i) n) = o.all ∙ ap (ordered (larger keys)) h.units_are in
      let long : length new ≡ count still n = ap length all ∙ ordered_length (larger keys) _ ∙ listed_length still (λ i. i) n in
      let ranked = listed_ranked still (larger keys) (larger_order keys) n in
      ranked_front still (larger keys) n (count still n) new rest (omega (arith, long))
      (subst (λ (xs : List ℕ). Ranked still (larger keys) n xs (count still n)) (sym all) ranked)
