-- What is checked of the short list holds of the frame: exactly z units are within the bound, and each of them comes before all the others.
use Rattle.std.proofs.lemmas.Bool.{true_from_ne_false}
use Prim.Native.Nat.{ℕ, ◌*◌, ◌/◌, ◌≤◌, ◌<◌}
use mathlib.Core.Bool.{Bool, true, false}
use mathlib.Core.Logic.{◌⊎◌, inl, inr, ⊎_elim}
use mathlib.Core.Path.{◌≡◌, sym, ap, ◌∙◌, subst}
use mathlib.Core.List.{List}
use native.Mathlib.Omega.{arith}
use native.Mathlib.Nat.{mul-le-mul_right, mul-lt-mul_of_pos_right}
use lib.ListN.{length, get_or, take, length-take}
use lib.Seq.{get_or-take}
use lib.Dec.{ltb, leb, eqb}
use borrow.Author.Tests.{lt-ltb, le-ltb, ltb-true, ltb-false, leb-true, leb-false, eq-eqb, eqb-true}
use Rattle.rules.proofs.Tests.{and_left, and_right, and_on, or_off, or_false, by_test, by_order}
use Rattle.rules.specs.Tests.{◌and◌}
use Rattle.rules.specs.Selection.{count}
use Rattle.rules.specs.Draw.{fraction_below}
use Rattle.draw_fraction.proofs.Cross.{whole_less}
use Rattle.draw_fraction.proofs.Order.{not_below_transitive}
use Rattle.selection.specs.Held.{Held}
use Rattle.selection.proofs.Sums.{sum_same}
use Rattle.selection.proofs.Held.{held_room, held_place, held_count}
use Rattle.draw_key.specs.declared.Setting.{Setting}
use Rattle.draw_key.specs.Units.{num_of, den_of, key_less}
use Rattle.draw_bound.specs.declared.Bound.{Bound}
use Rattle.draw_bound.specs.Bound.{reach_of, near, part_of, passes, within, most_word, Apart, Checked}
use Rattle.draw_list.specs.Found.{Scaled, Parts, Bounds}

-- a lower part is a lower key: key × scale has a lower whole part
part_less : (a b c d scale : ℕ) → 0 < b → 0 < d → a * scale / b < c * scale / d → fraction_below a b c d ≡ true
unfolding fraction_below
part_less a b c d scale hb hd h =
    let whole = whole_less (a * scale) b (c * scale) d (λ z. omega (arith, z, hb)) (λ z. omega (arith, z, hd)) h in
    let more : a * scale * d < c * scale * b = ltb-true (a * scale * d) (c * scale * b) whole in
    true_from_ne_false (ltb (a * d) (c * b)) (λ e. omega (arith, more, mul-le-mul_right scale (ltb-false (a * d) (c * b) e)))

-- a key of at most `reach` is below one that is not
reach_less : (a b c d reach : ℕ) → 0 < b → 0 < d → a ≤ reach * b → reach * d < c → fraction_below a b c d ≡ true
unfolding fraction_below
reach_less a b c d reach hb hd h k =
    lt-ltb (a * d) (c * b) (omega (arith, mul-le-mul_right d h, mul-lt-mul_of_pos_right k hb))

-- the cases of a unit that passes, and of one that does not
module _ (b : Bound) (part i : ℕ) where
  passes_cases : passes b part i ≡ true → (part < b.part) ⊎ ((part ≡ b.part) × (i ≤ b.last))
  unfolding passes
  passes_cases h =
      by_order part b.part (λ l. inl l)
      (λ l.
      let both = sym (or_off (ltb part b.part) (eqb part b.part and leb i b.last) (le-ltb part b.part l)) ∙ h in
      inr (eqb-true _ _ (and_left (eqb part b.part) (leb i b.last) both), leb-true _ _ (and_right (eqb part b.part) (leb i b.last) both)))

  not_passes : passes b part i ≡ false → (b.part < part) ⊎ ((part ≡ b.part) × (b.last < i))
  unfolding passes
  not_passes h =
      let none = or_false (ltb part b.part) (eqb part b.part and leb i b.last) h in
      by_order b.part part (λ l. inl l)
      (λ l.
      let same : part ≡ b.part = omega (arith, ltb-false part b.part none.0) in
      inr (same, leb-false _ _ (sym (and_on (eqb part b.part) (leb i b.last) (eq-eqb _ _ same)) ∙ none.1)))

module _ (ts rs gs : List ℕ) (s : Setting) (z : ℕ) (b : Bound) (positive : (i : ℕ) → i < length ts → 0 < den_of ts rs s i) where
  -- on the short list, and the part there
  abbrev close : ℕ → Bool
  close = near ts rs gs s

  abbrev part : ℕ → ℕ
  part = part_of ts rs gs s b.scale

  -- THE BOUND PARTS THE KEYS: who is within it comes before who is not
  pub bound_parts :
      Bounds ts rs gs s z b → (i j : ℕ) → i < length ts → j < length ts → within ts rs gs s b i ≡ true → within ts rs gs s b j ≡ false
      → (key_less ts rs gs s i j ≡ true) ⊎ ((key_less ts rs gs s j i ≡ false) × (i < j))
  unfolding within near part_of key_less
  bound_parts h i j li lj wi wj =
      let near-i = and_left (close i) (passes b (part i) i) wi in
      let side-i = passes_cases b (part i) i (and_right (close i) (passes b (part i) i) wi) in
      by_test (close j)
      (λ near-j. ⊎_elim
      (λ l. inl (lower (⊎_elim (λ k. omega (arith, k, l)) (λ k. omega (arith, k.0, l)) side-i)))
      (λ l. ⊎_elim
      (λ k. inl (lower (omega (arith, k, l.0))))
      (λ k. inr (h.apart i j li lj near-i near-j k.0 l.0 k.1 l.1, omega (arith, k.1, l.1)))
      side-i)
      (not_passes b (part j) j (sym (and_on (close j) (passes b (part j) j) near-j) ∙ wj)))
      (λ far. inl (reach_less _ _ _ _ (reach_of s.n) (positive i li) (positive j lj) (leb-true _ _ near-i) (leb-false _ _ far)))
    where
      lower : part i < part j → key_less ts rs gs s i j ≡ true
      lower l = part_less _ _ _ _ b.scale (positive i li) (positive j lj) l

  -- what is checked of the first n listed units holds of the frame
  module _ (units parts : List ℕ) (n : ℕ) (holds : Held close (λ i. i) (length ts) units n)
      (laid : Parts ts rs gs s b.scale (take n units) parts) (fit : Scaled rs gs s (take n units) b.scale)
      (ok : Checked ts rs gs s (take n units) parts b z) where
    long : length (take n units) ≡ n
    long = omega (arith, length-take n units, held_room holds)

    -- a unit of the short list has a place on it
    place : (i : ℕ) → i < length ts → close i ≡ true → (j : ℕ) × (j < length (take n units)) × (get_or (take n units) j 0 ≡ i)
    place i li h = let p = held_place holds i li h in (p.0, omega (arith, long, p.1), get_or-take n units p.0 0 p.1 ∙ p.2)

    on_side : (i : ℕ) → i < length ts → close i ≡ true → part i ≡ b.part → Apart ts rs gs s b i
    on_side i li h e =
        let p = place i li h in
        subst (λ (k : ℕ). Apart ts rs gs s b k) p.2 (ok.apart p.0 p.1 (laid.at p.0 p.1 ∙ ap part p.2 ∙ e))

    same : (j : ℕ) → j < length (take n units) → passes b (part (get_or units j 0)) (get_or units j 0) ≡ passes b (get_or parts j 0) (get_or (take n units) j 0)
    same j l =
        ap (λ (k : ℕ). passes b (part k) k) (sym (get_or-take n units j 0 (omega (arith, long))))
        ∙ ap (λ (p : ℕ). passes b p (get_or (take n units) j 0)) (sym (laid.at j l))

    all : count (within ts rs gs s b) (length ts) ≡ z
    unfolding within count
    all =
        sym (held_count holds (λ i. passes b (part i) i))
        ∙ ap (count (λ j. passes b (part (get_or units j 0)) (get_or units j 0))) (sym long)
        ∙ sum_same _ _ (λ i. 1) (length (take n units)) same
        ∙ ok.exactly

    pub checked_bounds : Bounds ts rs gs s z b
    unfolding key_less
    checked_bounds = record {
      exactly = all;
      some = ok.some;
      fits = λ i li h.
          let p = place i li h in
          subst (λ (k : ℕ). num_of rs gs s k * b.scale ≤ most_word) p.2 (fit.low p.0 p.1);
      apart = λ i j li lj ni nj ei ej l k.
          not_below_transitive _ _ _ _ _ _ (positive j lj) (positive b.last ok.last_low) (positive i li)
          ((on_side j lj nj ej).behind k) ((on_side i li ni ei).before l);
    }
