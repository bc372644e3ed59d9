-- Marks written one unit after the other; where the units are the first ones of an order, the marks tell who is one of the first.
use mathlib.Core.Path.{◌≡◌, refl, sym, ap, ◌∙◌}
use mathlib.Core.Bool.{Bool, cond}
use mathlib.Core.List.{List}
use Prim.Native.Nat.{ℕ, ◌+◌, ◌<◌}
use native.Mathlib.Omega.{arith}
use lib.ListN.{length, get_or, set}
use lib.Seq.{get_or-set_same, get_or-set_other}
use lib.Dec.{eqb}
use borrow.Author.Count.{below_none, below_more}
use borrow.Author.Tests.{eqb-true, eqb-false}
use Rattle.rules.specs.Selection.{firsts}
use Rattle.rules.proofs.Tests.{by_test, not_both}
use Rattle.selection.specs.Ranked.{Ranked}
use Rattle.selection.specs.Marked.{Marked}
use Rattle.selection.proofs.Orders.{Order}
use Rattle.selection.proofs.Places.{held_first, first_held}

pub marked_none : {units : List ℕ} {v : ℕ} {marks : List ℕ} → Marked units 0 v marks marks
marked_none = record { here = below_none _; others = λ i h. refl }

-- a place that is written has the mark, and one that has it keeps it
keeps : (l : List ℕ) (i j v : ℕ) → i < length l → get_or l j 0 ≡ v → get_or (set l i v) j 0 ≡ v
keeps l i j v room h =
    by_test (eqb j i)
    (λ e. ap (λ (k : ℕ). get_or (set l i v) k 0) (eqb-true j i e) ∙ get_or-set_same l i v 0 room)
    (λ e. get_or-set_other l i j v 0 (eqb-false j i e) ∙ h)

pub marked_more :
    {units : List ℕ} {k v : ℕ} {old new : List ℕ} → get_or units k 0 < length new → Marked units k v old new
    → Marked units (k + 1) v old (set new (get_or units k 0) v)
marked_more {units} {k} {v} {old} {new} room m = record {
  here = below_more (λ j. get_or (set new (get_or units k 0) v) (get_or units j 0) 0 ≡ v) k
      (λ j l. keeps new (get_or units k 0) (get_or units j 0) v room (m.here j l))
      (get_or-set_same new (get_or units k 0) v 0 room);
  others = λ i h. get_or-set_other new (get_or units k 0) i v 0 (λ e. h k (omega arith) (sym e)) ∙ m.others i (λ j l. h j (omega arith));
}

-- THE MARKS: v for one of the first, what was there for another
pub marks_first :
    {among : ℕ → Bool} {before : ℕ → ℕ → Bool} {n len v : ℕ} {top old new : List ℕ} → Order among before n → Ranked among before n top len
    → Marked top len v old new → (i : ℕ) → i < n → get_or new i 0 ≡ cond (firsts among before n len i) v (get_or old i 0)
marks_first {among} {before} {n} {len} {v} {top} {old} {new} o r m i li =
    by_test (firsts among before n len i)
    (λ e. let w = first_held o r i li e in rw e (ap (λ (u : ℕ). get_or new u 0) (sym w.2) ∙ m.here w.0 w.1))
    (λ e. rw e (m.others i (λ j l g. not_both (firsts among before n len i) (ap (firsts among before n len) (sym g) ∙ held_first o r j l) e)))
