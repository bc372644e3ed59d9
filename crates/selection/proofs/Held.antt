-- Units held in an array: none yet, units that lack the mark, one more at the end; what stands at a place; and the second look, at the held units
-- alone, which lists of them what a look at the whole frame for both marks would list.
use mathlib.Core.Path.{◌≡◌, refl, sym, ap, ◌∙◌, subst}
use mathlib.Core.Bool.{Bool, true, false}
use mathlib.Core.List.{List, [], ◌∷◌, ◌++◌}
use Prim.Native.Nat.{ℕ, ◌+◌, ◌≤◌, ◌<◌}
use native.Mathlib.Omega.{arith}
use native.Mathlib.Numerals.{add-one}
use lib.ListN.{length, get_or, take, set, length-take}
use lib.Seq.{take-suc-set, get_or-take}
use Rattle.rules.specs.Tests.{◌and◌}
use Rattle.rules.specs.Selection.{count, listed, sum_of}
use Rattle.selection.specs.Held.{Held}
use Rattle.selection.proofs.Sums.{count_yes, count_not, count_skip, has_room, listed_not, listed_skip, listed_length}
use Rattle.selection.proofs.Listed.{listed_low, listed_has, listed_again}

pub held_none : {mark : ℕ → Bool} {f : ℕ → ℕ} {xs : List ℕ} → Held mark f 0 xs 0
unfolding count sum_of listed
held_none = record { many = refl; units_are = refl }

module _ {mark : ℕ → Bool} {f : ℕ → ℕ} {i n : ℕ} {xs : List ℕ} where
  -- units without the mark change nothing
  pub held_skip : (k : ℕ) → i ≤ k → ((j : ℕ) → i ≤ j → j < k → mark j ≡ false) → Held mark f i xs n → Held mark f k xs n
  held_skip k l none h = record {
    many = h.many ∙ sym (count_skip mark i k l none);
    units_are = h.units_are ∙ sym (listed_skip mark f i k l none);
  }

  pub held_not : mark i ≡ false → Held mark f i xs n → Held mark f (i + 1) xs n
  held_not unmarked h = record {
    many = h.many ∙ sym (count_not mark i unmarked);
    units_are = h.units_are ∙ sym (listed_not mark f i unmarked);
  }

  -- one with the mark is stored behind those that are there
  pub held_more : mark i ≡ true → n < length xs → Held mark f i xs n → Held mark f (i + 1) (set xs n (f i)) (n + 1)
  unfolding listed
  held_more marked l h = record {
    many = ap (λ (k : ℕ). k + 1) h.many ∙ sym (count_yes mark i marked);
    units_are = rw (add-one n, add-one i, marked) (take-suc-set xs n (f i) l ∙ ap (λ (ys : List ℕ). ys ++ (f i ∷ [])) h.units_are);
  }

-- the same under other names
pub held_same : {mark : ℕ → Bool} {f : ℕ → ℕ} {i n m : ℕ} {xs ys : List ℕ} → xs ≡ ys → n ≡ m → Held mark f i ys m → Held mark f i xs n
held_same {mark} {f} {i} {n} {m} {xs} {ys} e g h = rw (e, g) h

-- there is room for what is held
pub held_room : {mark : ℕ → Bool} {f : ℕ → ℕ} {i n : ℕ} {xs : List ℕ} → Held mark f i xs n → n ≤ length xs
held_room {mark} {f} {i} {n} {xs} h = omega (arith, ap length h.units_are, length-take n xs, listed_length mark f i, h.many)

-- Units that are held themselves, as places of a frame of m.
module _ {mark : ℕ → Bool} {m n : ℕ} {xs : List ℕ} (h : Held mark (λ i. i) m xs n) where
  -- each place holds one of the frame, and each marked unit stands at one
  pub held_low : (j : ℕ) → j < n → get_or xs j 0 < m
  held_low j l = rw (sym (get_or-take n xs j 0 l), h.units_are) (listed_low mark m j (omega (arith, listed_length mark (λ i. i) m, h.many)))

  pub held_place : (i : ℕ) → i < m → mark i ≡ true → (j : ℕ) × (j < n) × (get_or xs j 0 ≡ i)
  held_place i l e =
      let room : count mark i < n = omega (arith, h.many, has_room mark m i l e) in
      (count mark i, room, sym (get_or-take n xs (count mark i) 0 room) ∙ ap (λ (ys : List ℕ). get_or ys (count mark i) 0) h.units_are ∙ listed_has mark m i l e)

  -- those of the held units that have a second mark, as a list and as a number
  module _ (second : ℕ → Bool) where
    pub held_again : (f : ℕ → ℕ) → listed (λ j. second (get_or xs j 0)) (λ j. f (get_or xs j 0)) n ≡ listed (λ i. mark i and second i) f m
    held_again f =
        ap (listed (λ j. second (get_or xs j 0)) (λ j. f (get_or xs j 0))) h.many
        ∙ listed_again mark second xs f m (subst (λ (k : ℕ). take k xs ≡ listed mark (λ i. i) m) h.many h.units_are)

    pub held_count : count (λ j. second (get_or xs j 0)) n ≡ count (λ i. mark i and second i) m
    held_count = sym (listed_length _ (λ j. get_or xs j 0) n) ∙ ap length (held_again (λ i. i)) ∙ listed_length _ (λ i. i) m
