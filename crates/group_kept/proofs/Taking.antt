-- Document 02, [9]: the kept units held in a list, their turnover, and what the marks, n and X then are: the enlarged group.
use mathlib.Core.Path.{◌≡◌, refl, sym, ap, ap₂, ◌∙◌, subst}
use mathlib.Core.Bool.{Bool, true, false, cond}
use mathlib.Core.List.{List, [], ◌∷◌, ◌++◌}
use Prim.Native.Nat.{ℕ, zero, suc, ◌+◌, ◌-◌, ◌≤◌, ◌<◌, min}
use native.Mathlib.Nat.{le_refl}
use native.Mathlib.Omega.{arith}
use lib.ListN.{length, get_or, take}
use lib.Seq.{take-suc, get_or-take, length-take-le}
use lib.Dec.{ltb}
use borrow.Author.Tests.{lt-ltb, le-ltb}
use Rattle.rules.specs.Tests.{◌and◌}
use Rattle.rules.specs.Lists.{sum}
use Rattle.rules.specs.Selection.{sum_of, count, rank, firsts}
use Rattle.rules.specs.TakeAll.{turnover, larger, take_all_group, Group as RulesGroup}
use Rattle.rules.specs.Kept.{Keeping, near_border, candidate, kept, forced, enlarged_group}
use Rattle.rules.proofs.Tests.{and_left, and_on, or_on, or_off, by_test, by_order}
use Rattle.selection.specs.Ranked.{Ranked}
use Rattle.selection.specs.Marked.{Marked}
use Rattle.selection.proofs.Sums.{sum_same, sum_less, sum_none}
use Rattle.selection.proofs.Orders.{Order, order_among, firsts_same, firsts_zero}
use Rattle.selection.proofs.Places.{ranked_short, firsts_step, count_held}
use Rattle.selection.proofs.Marking.{marks_first}
use Rattle.selection.proofs.TakeAll.{larger_order, size_le}
use Rattle.group.specs.declared.Group.{Group}
use Rattle.group.specs.Group.{marked, rules_group, IsGroup}
use Rattle.group_border.specs.Border.{Candidates}
use Rattle.group_kept.specs.Reckoned.{Reckoned}
use Rattle.group_kept.specs.Kept.{IsEnlarged, turnover_of, Outside}
use Rattle.group_kept.proofs.Enlarged.{base_reckoned, kept_group, kept_outside, enlarged_is, kept_fits}
use Rattle.group_kept.proofs.Parts.{count_parted}

-- the ranked units alone
ranked_front :
    {among : ℕ → Bool} {before : ℕ → ℕ → Bool} {n len : ℕ} {top : List ℕ} → Ranked among before n top len → Ranked among before n (take len top) len
ranked_front {among} {before} {n} {len} {top} r = record {
  low = λ k l. rw (get_or-take len top k 0 l) (r.low k l);
  mark = λ k l. rw (get_or-take len top k 0 l) (r.mark k l);
  at = λ k l. rw (get_or-take len top k 0 l) (r.at k l);
}

-- the turnover of one unit more
of_last : (ts xs : List ℕ) (x : ℕ) → turnover_of ts (xs ++ (x ∷ [])) ≡ turnover_of ts xs + turnover ts x
unfolding turnover_of sum
of_last ts [] x = omega arith
of_last ts (y ∷ ys) x = omega (arith, of_last ts ys x)

-- the turnover of the first k units of a ranked list
of_firsts :
    {among : ℕ → Bool} (ts : List ℕ) {top : List ℕ} {len : ℕ} → Order among (larger ts) (length ts) → Ranked among (larger ts) (length ts) top len → len ≤ length top → (k : ℕ) → k ≤ len
    → turnover_of ts (take k top) ≡ sum_of (firsts among (larger ts) (length ts) k) (turnover ts) (length ts)
unfolding turnover_of sum
of_firsts {among} ts {top} {len} o r room zero l =
    sym (sum_none (firsts among (larger ts) (length ts) 0) (turnover ts) (length ts) (λ i m. firsts_zero among (larger ts) (length ts) i))
of_firsts {among} ts {top} {len} o r room (suc k) l =
    ap (turnover_of ts) (take-suc top k 0 (omega arith))
    ∙ of_last ts (take k top) (get_or top k 0)
    ∙ ap (λ (x : ℕ). x + turnover ts (get_or top k 0)) (of_firsts ts o r room k (omega arith))
    ∙ sym (firsts_step o r (turnover ts) k l)

-- a unit's rank is below the count
rank_below : (among : ℕ → Bool) (before : ℕ → ℕ → Bool) (n : ℕ) → Order among before n → (i : ℕ) → i < n → among i ≡ true → rank among before n i < count among n
unfolding rank count
rank_below among before n o i l a =
    let out : (among i and before i i) ≡ false = and_on _ _ a ∙ o.irr i l a in
    let less : sum_of (λ j. among j and before j i) (λ j. 1) n + 1 ≤ sum_of among (λ j. 1) n =
    sum_less (λ j. among j and before j i) among (λ j. 1) i out a n (λ j m h. and_left (among j) (before j i) h) l in
    omega arith

-- the first n are the first min n many, of many in all
firsts_min :
    (among : ℕ → Bool) (before : ℕ → ℕ → Bool) (n : ℕ) → Order among before n → (k i : ℕ) → i < n
    → firsts among before n k i ≡ firsts among before n (min k (count among n)) i
unfolding firsts ◌and◌
firsts_min among before n o k i l =
    by_test (among i)
    (λ a. rw a (by_order (rank among before n i) k
    (λ h. lt-ltb _ _ h ∙ sym (lt-ltb (rank among before n i) (min k (count among n)) (omega (arith, rank_below among before n o i l a))))
    (λ h. le-ltb _ _ h ∙ sym (le-ltb (rank among before n i) (min k (count among n)) (omega arith)))))
    (λ a. rw a)

module _ (ns ts : List ℕ) (z : ℕ) (p : Keeping) (marks : List ℕ) (g : Group) (within : z ≤ length ts) (is : IsGroup ts z marks g) where
  abbrev base : RulesGroup
  base = take_all_group ts z

  abbrev found : ℕ → Bool
  found = candidate ns ts p (rules_group marks g.n g.rest)

  reckoned : Reckoned ts z base
  reckoned = base_reckoned ts z within

  order : Order found (larger ts) (length ts)
  order = order_among found (larger ts) (length ts) (larger_order ts (length ts))

  -- candidates by the marks are candidates
  candidate_is : (i : ℕ) → i < length ts → candidate ns ts p base i ≡ found i
  unfolding candidate near_border
  candidate_is i l = rw (is.agrees.takes i l, is.agrees.size_is, is.agrees.rest_is)

  -- the candidates in order, of which the first are kept
  module _ (units : List ℕ) (many k : ℕ) (w : Candidates ns ts p (rules_group marks g.n g.rest) units many) (few : k ≡ min g.n many) where
    kept_is : (i : ℕ) → i < length ts → kept ns ts p base i ≡ firsts found (larger ts) (length ts) k i
    unfolding kept
    kept_is i l =
        firsts_same base.sample_size candidate_is (λ a b m o h e. refl) i l
        ∙ ap (λ (m : ℕ). firsts found (larger ts) (length ts) m i) (sym is.agrees.size_is)
        ∙ firsts_min found (larger ts) (length ts) order g.n i l
        ∙ ap (λ (m : ℕ). firsts found (larger ts) (length ts) m i) (ap (λ (m : ℕ). min g.n m) (sym w.many) ∙ sym few)

    pub ranked : Ranked found (larger ts) (length ts) (take k units) k
    ranked = ranked_front (ranked_short found (larger ts) (length ts) many k units (omega arith) w.ranked)

    room : k ≤ length units
    room = omega (arith, w.within)

    kept_many : count (kept ns ts p base) (length ts) ≡ k
    unfolding count
    kept_many = sum_same _ _ (λ i. 1) (length ts) kept_is ∙ count_held order ranked k (le_refl k)

    kept_turnover_lem : sum_of (kept ns ts p base) (turnover ts) (length ts) ≡ turnover_of ts (take k units)
    kept_turnover_lem = sum_same _ _ (turnover ts) (length ts) kept_is ∙ sym (of_firsts ts order w.ranked w.within k (omega arith))

    -- they are units of the frame outside the group, and X holds them
    pub outside : k < g.n → Outside ts (take k units) g.rest
    outside l = record {
      low = λ j h. ranked.low j (omega (arith, length-take-le k units room));
      fits = omega (arith, kept_turnover_lem, kept_fits ns ts p z base reckoned (omega (arith, is.agrees.size_is)), is.agrees.rest_is);
    }

    -- with their marks written
    module _ (new : List ℕ) (m : Marked (take k units) (length (take k units)) 1 marks new) where
      takes_is : (i : ℕ) → (enlarged_group ns ts z p).takes_all i ≡ forced ns ts p base i
      unfolding kept_group
      takes_is i = ap (λ (h : RulesGroup). h.takes_all i) (enlarged_is ns ts z within p)

      mark_at : (i : ℕ) → i < length ts → get_or new i 0 ≡ cond ((enlarged_group ns ts z p).takes_all i) 1 0
      unfolding forced
      mark_at i l =
          let written = marks_first order (subst (Ranked found (larger ts) (length ts) (take k units)) (sym (length-take-le k units room)) ranked) m i l in
          let same = ap (λ (h : ℕ). firsts found (larger ts) (length ts) h i) (length-take-le k units room) in
          written
          ∙ rw (same, sym (kept_is i l), is.mark_is i l, takes_is i)
          (by_test (base.takes_all i)
          (λ a. rw (a, or_on true (kept ns ts p base i) refl) (by_test (kept ns ts p base i) (λ b. rw b) (λ b. rw b)))
          (λ a. rw (a, or_off false (kept ns ts p base i) refl)))

      size_is : g.q + k ≡ count (enlarged_group ns ts z p).takes_all (length ts)
      unfolding forced count take_all_group
      size_is =
          let both = sum_same _ _ (λ i. 1) (length ts) (λ i l. takes_is i) in
          let parted = count_parted base.takes_all (kept ns ts p base) (length ts) (λ i li h. kept_outside ns ts p base i h) in
          omega (arith, both, parted, kept_many, reckoned.parts, is.size, size_le ts z)

      tells : (i : ℕ) → i < length ts → marked new i ≡ (enlarged_group ns ts z p).takes_all i
      unfolding marked
      tells i l = by_test ((enlarged_group ns ts z p).takes_all i) (λ h. rw (mark_at i l, h)) (λ h. rw (mark_at i l, h))

      left_is : (enlarged_group ns ts z p).sample_size ≡ g.n - k
      unfolding kept_group
      left_is = ap (λ (h : RulesGroup). h.sample_size) (enlarged_is ns ts z within p) ∙ ap₂ (λ (a b : ℕ). a - b) (sym is.agrees.size_is) kept_many

      rest_is : (enlarged_group ns ts z p).rest ≡ cond (ltb k g.n) (g.rest - turnover_of ts (take k units)) 0
      unfolding kept_group
      rest_is =
          ap (λ (h : RulesGroup). h.rest) (enlarged_is ns ts z within p)
          ∙ rw (kept_many, kept_turnover_lem, sym is.agrees.size_is, sym is.agrees.rest_is)

      pub all_kept : g.n ≤ k → IsEnlarged ns ts z p new (record { q = g.q + k; n = 0; rest = 0 })
      all_kept l = record {
        size = size_is;
        mark_is = mark_at;
        agrees = record { takes = tells; size_is = omega (arith, left_is); rest_is = sym (rest_is ∙ rw (le-ltb k g.n l)) };
      }

      pub some_left : k < g.n → (x : ℕ) → x ≡ g.rest - turnover_of ts (take k units) → IsEnlarged ns ts z p new (record { q = g.q + k; n = g.n - k; rest = x })
      some_left l x e = record {
        size = size_is;
        mark_is = mark_at;
        agrees = record { takes = tells; size_is = sym left_is; rest_is = e ∙ sym (rest_is ∙ rw (lt-ltb k g.n l)) };
      }
