-- Document 02, [9]: the candidates of a list, gathered one number after the other. One number more in the list makes a candidate of the unit that has it, if that
-- is eligible, and of nobody else.
use mathlib.Core.Path.{◌≡◌, refl, sym, ap, ◌∙◌}
use mathlib.Core.Bool.{Bool, true, false, not}
use mathlib.Core.List.{List, [], ◌∷◌, ◌++◌}
use Prim.Native.Nat.{ℕ, ◌+◌, ◌*◌, ◌<◌}
use native.Mathlib.Omega.{arith}
use native.Mathlib.Numerals.{add-one}
use lib.Dec.{leb, eqb}
use lib.ListN.{length, get_or, take, length-take}
use lib.Seq.{take-suc, get_or-take}
use borrow.Author.Tests.{lt-ltb, eq-eqb, ne_eqb, eqb-true, eqb-false}
use Rattle.rules.specs.Limits.{threshold_scale}
use Rattle.rules.specs.Tests.{◌or◌, ◌and◌}
use Rattle.rules.specs.Lists.{rising, elem}
use Rattle.rules.specs.TakeAll.{turnover, Group}
use Rattle.rules.specs.Kept.{Keeping, keeping, in_previous, near_border, candidate}
use Rattle.rules.proofs.Tests.{and_on, and_off, and_second, or_on, or_off, or_second, or_none, by_test, by_order, not_both}
use Rattle.rules.proofs.Lists.{rising_below, elem_place, elem_nowhere, elem_last}
use Rattle.order.proofs.Each.{Each, each_append, each_one}
use Rattle.order.proofs.Marked.{distinct_last}
use Rattle.group.specs.Group.{marked, rules_group}
use Rattle.group_border.specs.Border.{Numbered, eligible, Gathered}

-- in a rising list a number stands at one place
one_place : (l : List ℕ) → rising l ≡ true → (j k : ℕ) → j < length l → k < length l → get_or l j 0 ≡ get_or l k 0 → j ≡ k
one_place l up j k lj lk e =
    by_order j k
    (λ a. absurd (omega (arith, rising_below l up j k a lk)))
    (λ a. by_order k j (λ b. absurd (omega (arith, rising_below l up k j b lj))) (λ b. omega arith))

module _ (ns ts marks skip list units : List ℕ) (threshold n rest j : ℕ) (numbered : Numbered ns ts) (up : rising list ≡ true) (l : j < length list)
    (at : Gathered ns ts (keeping threshold skip (take j list)) (rules_group marks n rest) units) where
  abbrev x : ℕ
  x = get_or list j 0

  abbrev g : Group
  g = rules_group marks n rest

  abbrev before : ℕ → Bool
  before = candidate ns ts (keeping threshold skip (take j list)) g

  abbrev after : ℕ → Bool
  after = candidate ns ts (keeping threshold skip (take (j + 1) list)) g

  -- one number more
  elem_more : (y : ℕ) → elem y (take (j + 1) list) ≡ (elem y (take j list) or eqb y x)
  elem_more y = rw (add-one j, take-suc list j 0 l) (elem_last y x (take j list))

  -- of another unit nothing changes
  others_same : (k : ℕ) → (get_or ns k 0 ≡ x → ⊥) → before k ≡ after k
  unfolding candidate in_previous near_border
  others_same k ne = rw (elem_more (get_or ns k 0), ne_eqb (get_or ns k 0) x ne, or_none (elem (get_or ns k 0) (take j list)) false refl)

  -- x did not stand in the list before
  new : elem x (take j list) ≡ false
  new = elem_nowhere x (take j list) (λ k h e.
      let m = simp length-take at h in
      omega (arith, e, get_or-take j list k 0 (omega arith), rising_below list up k j (omega arith) l))

  -- a unit that is not eligible is no candidate
  out : (p : Keeping) → p.threshold ≡ threshold → (k : ℕ) → k < length ts → eligible ts marks threshold n rest k ≡ false → candidate ns ts p g k ≡ false
  unfolding eligible candidate near_border
  out p same k lk e =
      by_test (marked marks k)
      (λ t. and_off _ _ (and_off _ _ (ap not t)))
      (λ t. rw same (and_second _ _
      (sym (and_on _ _ (and_on _ _ (lt-ltb k (length ts) lk) ∙ ap not t)) ∙ e)))

  -- no unit has number x
  pub turn_none : elem x ns ≡ false → Gathered ns ts (keeping threshold skip (take (j + 1) list)) g units
  turn_none absent = record {
    low = at.low;
    distinct = at.distinct;
    all = λ k lk. at.all k lk
        ∙ others_same k (λ here. not_both (elem x ns) (ap (λ (y : ℕ). elem y ns) (sym here) ∙ elem_place ns k (omega (arith, numbered.same))) absent);
  }

  -- the unit that has it
  module _ (i : ℕ) (fits : i < length ts) (number_is : get_or ns i 0 ≡ x) where
    there : (k : ℕ) → k < length ts → get_or ns k 0 ≡ x → k ≡ i
    there k lk e = one_place ns numbered.rises k i (omega (arith, numbered.same)) (omega (arith, numbered.same)) (e ∙ sym number_is)

    -- it is not eligible
    pub turn_out : eligible ts marks threshold n rest i ≡ false → Gathered ns ts (keeping threshold skip (take (j + 1) list)) g units
    turn_out e = record {
      low = at.low;
      distinct = at.distinct;
      all = λ k lk. at.all k lk
          ∙ by_test (eqb (get_or ns k 0) x)
          (λ q.
          let no : eligible ts marks threshold n rest k ≡ false = ap (eligible ts marks threshold n rest) (there k lk (eqb-true (get_or ns k 0) x q)) ∙ e in
          out (keeping threshold skip (take j list)) refl k lk no ∙ sym (out (keeping threshold skip (take (j + 1) list)) refl k lk no))
          (λ q. others_same k (eqb-false (get_or ns k 0) x q));
    }

    -- it stood in the other list
    skipped_same : elem x skip ≡ true → (k : ℕ) → get_or ns k 0 ≡ x → before k ≡ after k
    unfolding candidate in_previous near_border
    skipped_same s k e =
        let in-skip : elem (get_or ns k 0) skip ≡ true = ap (λ (y : ℕ). elem y skip) e ∙ s in
        rw (or_on (elem (get_or ns k 0) skip) (elem (get_or ns k 0) (take j list)) in-skip, or_on (elem (get_or ns k 0) skip) (elem (get_or ns k 0) (take (j + 1) list)) in-skip)

    pub turn_skip : elem x skip ≡ true → Gathered ns ts (keeping threshold skip (take (j + 1) list)) g units
    turn_skip s = record {
      low = at.low;
      distinct = at.distinct;
      all = λ k lk. at.all k lk
          ∙ by_test (eqb (get_or ns k 0) x) (λ q. skipped_same s k (eqb-true (get_or ns k 0) x q)) (λ q. others_same k (eqb-false (get_or ns k 0) x q));
    }

    -- it is a candidate
    module _ (e : eligible ts marks threshold n rest i ≡ true) (s : elem x skip ≡ false) where
      now_is : after i ≡ true
      unfolding candidate in_previous eligible near_border
      now_is =
          let listed : (elem x skip or elem x (take (j + 1) list)) ≡ true =
          or_second _ _ (elem_more x ∙ or_second _ _ (eq-eqb x x refl)) in
          rw (number_is, listed)
          (ap (λ (b : Bool). b and leb (threshold * rest) (threshold_scale * (n * turnover ts i))) (true_last (not (marked marks i)) ∙ sym (and_on _ _ (lt-ltb i (length ts) fits))) ∙ e)
        where
          true_last : (b : Bool) → (b and true) ≡ b
          true_last b = by_test b (λ t. and_on b true t ∙ sym t) (λ t. and_off b true t ∙ sym t)

      was_not : before i ≡ false
      unfolding candidate in_previous
      was_not = rw (number_is, s, or_off false (elem x (take j list)) refl, new) (and_off _ _ (and_second _ _ refl))

      not_held : Each (λ u. u ≡ i → ⊥) units
      not_held k h same =
          not_both (elem i units) (ap (λ (u : ℕ). elem u units) (sym same) ∙ elem_place units k h) (at.all i fits ∙ was_not)

      pub turn_more : Gathered ns ts (keeping threshold skip (take (j + 1) list)) g (units ++ (i ∷ []))
      turn_more = record {
        low = record { at = each_append (λ u. u < length ts) units (i ∷ []) at.low.at (each_one (λ u. u < length ts) i fits) };
        distinct = distinct_last units i not_held at.distinct;
        all = λ k lk. elem_last k i units
            ∙ by_test (eqb k i)
            (λ q. or_second _ _ q ∙ sym (ap after (eqb-true k i q) ∙ now_is))
            (λ q. or_none _ _ q ∙ at.all k lk ∙ others_same k (λ here. eqb-false k i q (there k lk here)));
      }
