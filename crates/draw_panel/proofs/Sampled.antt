-- The marks once the sampled units have theirs: whoever has any mark is drawn, and a W by them is what it was.
use mathlib.Core.Path.{◌≡◌, refl, sym, ap, ◌∙◌, subst}
use mathlib.Core.Bool.{Bool, true, not, cond}
use mathlib.Core.List.{List}
use Prim.Native.Nat.{ℕ, ◌≤◌, ◌<◌}
use native.Mathlib.Omega.{arith}
use lib.ListN.{length, get_or, take}
use lib.Seq.{length-take-le, get_or-take}
use lib.Dec.{eqb, ltb}
use Rattle.rules.specs.Tests.{◌or◌}
use Rattle.rules.specs.Selection.{count, rank, firsts, listed}
use Rattle.rules.specs.TakeAll.{base_weight}
use Rattle.rules.proofs.Tests.{and_left, by_test, by_order}
use Rattle.selection.specs.Ranked.{Ranked}
use Rattle.selection.specs.Marked.{Marked}
use Rattle.selection.proofs.Sums.{sum_same}
use Rattle.selection.proofs.Listed.{listed_both}
use Rattle.selection.proofs.Marking.{marks_first}
use Rattle.group.specs.Group.{marked}
use Rattle.draw_key.specs.declared.Setting.{Setting}
use Rattle.draw_key.specs.Units.{has_key, key_order, sampled_of, Units}
use Rattle.draw_key.proofs.Keys.{key_is_order}
use Rattle.draw_order.specs.Sampling.{InKeyOrder}
use Rattle.draw_panel.specs.Panel.{Markable, weight_by, any_mark, drawn_of}

-- a mark of 0 or 1, or 2 for a sampled unit
any_is : (m : ℕ) (b : Bool) → m ≤ 1 → not (eqb (cond b 2 m) 0) ≡ (eqb m 1 or b)
unfolding ◌or◌
any_is m b l =
    by_order 0 m
    (λ h. let e : m ≡ 1 = omega arith in by_test b (λ t. rw (e, t)) (λ t. rw (e, t)))
    (λ h. let e : m ≡ 0 = omega arith in by_test b (λ t. rw (e, t)) (λ t. rw (e, t)))

still : (m : ℕ) (b : Bool) → (b ≡ true → m ≡ 0) → eqb (cond b 2 m) 1 ≡ eqb m 1
still m b h = by_test b (λ t. rw (t, h t)) (λ t. rw t)

-- the ranked units alone
pub ranked_take :
    {among : ℕ → Bool} {before : ℕ → ℕ → Bool} {n len : ℕ} {top : List ℕ} → len ≤ length top → Ranked among before n top len
    → Ranked among before n (take len top) (length (take len top))
ranked_take {among} {before} {n} {len} {top} room r =
    subst (Ranked among before n (take len top)) (sym (length-take-le len top room))
    (record {
      low = λ k l. rw (get_or-take len top k 0 l) (r.low k l);
      mark = λ k l. rw (get_or-take len top k 0 l) (r.mark k l);
      at = λ k l. rw (get_or-take len top k 0 l) (r.at k l);
    })

module _ {ts rs gs old new : List ℕ} {s : Setting} {units : List ℕ} (ok : Units ts rs gs s) (marks : Markable ts gs old) (size : length units ≡ s.n)
    (ranked : InKeyOrder ts rs gs s (length ts) units (length units)) (m : Marked units (length units) 2 old new) where
  mark_at : (i : ℕ) → i < length ts → get_or new i 0 ≡ cond (sampled_of ts rs gs s i) 2 (get_or old i 0)
  unfolding sampled_of
  mark_at i l =
      marks_first (key_is_order ok) ranked m i l
      ∙ ap (λ (n : ℕ). cond (firsts (has_key gs) (key_order ts rs gs s) (length ts) n i) 2 (get_or old i 0)) size

  -- a sampled unit has a key, and so no mark before
  was_none : (i : ℕ) → i < length ts → sampled_of ts rs gs s i ≡ true → get_or old i 0 ≡ 0
  unfolding sampled_of firsts
  was_none i l h = marks.keyed i l (and_left (has_key gs i) (ltb (rank (has_key gs) (key_order ts rs gs s) (length ts) i) s.n) h)

  drawn_is : (i : ℕ) → i < length ts → any_mark new i ≡ drawn_of ts rs gs old s i
  unfolding marked
  drawn_is i l = ap (λ (k : ℕ). not (eqb k 0)) (mark_at i l) ∙ any_is (get_or old i 0) (sampled_of ts rs gs s i) (marks.low i l)

  same_weight : (i : ℕ) → i < length ts → weight_by ts new s i ≡ weight_by ts old s i
  unfolding base_weight marked
  same_weight i l = rw (ap (λ (k : ℕ). eqb k 1) (mark_at i l) ∙ still (get_or old i 0) (sampled_of ts rs gs s i) (was_none i l))

  pub drawn_count : count (any_mark new) (length ts) ≡ count (drawn_of ts rs gs old s) (length ts)
  unfolding count
  drawn_count = sum_same (any_mark new) (drawn_of ts rs gs old s) (λ i. 1) (length ts) drawn_is

  pub drawn_values : (f : ℕ → ℕ) → listed (any_mark new) f (length ts) ≡ listed (drawn_of ts rs gs old s) f (length ts)
  drawn_values f = listed_both (any_mark new) (drawn_of ts rs gs old s) f f (length ts) drawn_is (λ i l. refl)

  pub drawn_weights_lem : listed (any_mark new) (weight_by ts new s) (length ts) ≡ listed (drawn_of ts rs gs old s) (weight_by ts old s) (length ts)
  drawn_weights_lem = listed_both (any_mark new) (drawn_of ts rs gs old s) (weight_by ts new s) (weight_by ts old s) (length ts) drawn_is same_weight
