-- One pass over the sectors, a turn at a time: who was looked at is marked as the pass marks it, the others as before.
use mathlib.Core.Path.{◌≡◌, refl, sym, ap, ◌∙◌, subst}
use mathlib.Core.Bool.{Bool, true, false, not}
use mathlib.Core.List.{List}
use Prim.Native.Nat.{ℕ, ◌+◌, ◌≤◌, ◌<◌}
use native.Mathlib.Omega.{arith}
use lib.ListN.{length, get_or, set}
use lib.Seq.{get_or-set_same}
use Rattle.rules.specs.Tests.{◌and◌}
use Rattle.rules.specs.Selection.{count}
use Rattle.rules.proofs.Tests.{and_on, and_off, by_order}
use Rattle.selection.proofs.Sums.{count_zero, count_yes, count_not}
use Rattle.sector_passes.specs.Marks.{still_in}
use Rattle.sector_passes.proofs.Marked.{still_on, still_off, still_other}

-- `below` says who leaves of those that `still` marks
pub record Passed (still below : ℕ → Bool) (gone : List ℕ) (i leave : ℕ) : Type 0 where
  pub seen : (k : ℕ) → k < i → still_in gone k ≡ (still k and not (below k))
  pub ahead : (k : ℕ) → i ≤ k → still_in gone k ≡ still k
  pub many : leave ≡ count (λ k. still k and below k) i

pub passed_none : (gone : List ℕ) (below : ℕ → Bool) → Passed (still_in gone) below gone 0 0
passed_none gone below = record { seen = λ k l. absurd (omega arith); ahead = λ k l. refl; many = sym (count_zero _) }

module _ (still below : ℕ → Bool) (gone : List ℕ) (i leave : ℕ) (w : Passed still below gone i leave) where
  marked : (b : Bool) → still_in gone i ≡ b → still i ≡ b
  marked b e = sym (w.ahead i (omega arith)) ∙ e

  -- the mark at i stays as it is
  same_turn : still_in gone i ≡ (still i and not (below i)) → (still i and below i) ≡ false → Passed still below gone (i + 1) leave
  same_turn e d = record {
    seen = λ k l. by_order k i (w.seen k)
        (λ m. let q : i ≡ k = omega arith in subst (λ (j : ℕ). still_in gone j ≡ (still j and not (below j))) q e);
    ahead = λ k l. w.ahead k (omega arith);
    many = w.many ∙ sym (count_not (λ k. still k and below k) i d);
  }

  pub turn_gone : (get_or gone i 0 ≡ 0 → ⊥) → Passed still below gone (i + 1) leave
  turn_gone h =
      let off = still_off gone i h in
      let f = marked false off in
      same_turn (off ∙ sym (and_off (still i) (not (below i)) f)) (and_off (still i) (below i) f)

  pub turn_stays : get_or gone i 0 ≡ 0 → below i ≡ false → Passed still below gone (i + 1) leave
  turn_stays h q =
      let on = still_on gone i h in
      let t = marked true on in
      same_turn (on ∙ sym (and_on (still i) (not (below i)) t ∙ ap not q)) (and_on (still i) (below i) t ∙ q)

  pub turn_leaves : get_or gone i 0 ≡ 0 → below i ≡ true → i < length gone → Passed still below (set gone i 1) (i + 1) (leave + 1)
  turn_leaves h q l =
      let t = marked true (still_on gone i h) in
      let out : still_in (set gone i 1) i ≡ false = still_off (set gone i 1) i (λ z. omega (arith, z, get_or-set_same gone i 1 0 l)) in
      let here : still_in (set gone i 1) i ≡ (still i and not (below i)) = out ∙ sym (and_on (still i) (not (below i)) t ∙ ap not q) in
      record {
        seen = λ k m. by_order k i (λ b. still_other gone i 1 k (λ e. omega arith) ∙ w.seen k b)
            (λ b. let e : i ≡ k = omega arith in subst (λ (j : ℕ). still_in (set gone i 1) j ≡ (still j and not (below j))) e here);
        ahead = λ k m. still_other gone i 1 k (λ e. omega arith) ∙ w.ahead k (omega arith);
        many = omega (arith, w.many, count_yes (λ k. still k and below k) i (and_on (still i) (below i) t ∙ q));
      }

-- the same marks under other names
pub passed_same :
    (still below : ℕ → Bool) (gone new : List ℕ) (i leave more : ℕ) → new ≡ gone → more ≡ leave
    → Passed still below gone i leave → Passed still below new i more
passed_same still below gone new i leave more e d w = rw (e, d) w

-- at the end: beyond the sectors nobody is below
pub passed_all :
    (still below : ℕ → Bool) (gone : List ℕ) (n leave : ℕ) → ((k : ℕ) → n ≤ k → below k ≡ false) → Passed still below gone n leave
    → (k : ℕ) → still_in gone k ≡ (still k and not (below k))
unfolding ◌and◌
passed_all still below gone n leave beyond w k = by_order k n (w.seen k) (λ l. w.ahead k l ∙ none (still k) (beyond k l))
  where
    none : (b : Bool) → below k ≡ false → b ≡ (b and not (below k))
    none true e = rw e
    none false e = refl
