-- A lent list that a pass fills from its front: nothing yet, a unit without the mark, one with it stored behind the others; what is then held, and that
-- the list keeps its length.
use mathlib.Core.Path.{◌≡◌, refl, sym, ap, ◌∙◌}
use mathlib.Core.Bool.{Bool, true, false}
use mathlib.Core.List.{List}
use Prim.Native.Nat.{ℕ, ◌+◌, ◌≤◌, ◌<◌}
use native.Mathlib.Omega.{arith}
use lib.ListN.{length, set, drop, length-append, length-drop}
use lib.Seq.{take_at}
use Rattle.rules.specs.Refusals.{written}
use Rattle.rules.specs.Selection.{count, sum_of, listed}
use Rattle.selection.specs.Held.{Held}
use Rattle.selection.proofs.Sums.{count_le, count_yes, count_not, listed_length, listed_not, written_store}
use Rattle.rotation_members.specs.Filled.{Filled}

pub fill_none : {mark : ℕ → Bool} {f : ℕ → ℕ} {before : List ℕ} → Filled mark f 0 before before 0
unfolding count sum_of listed
fill_none = record { many = refl; whole = refl }

module _ {mark : ℕ → Bool} {f : ℕ → ℕ} {i n : ℕ} {before after : List ℕ} (h : Filled mark f i before after n) where
  pub fill_not : mark i ≡ false → Filled mark f (i + 1) before after n
  fill_not unmarked = record {
    many = h.many ∙ sym (count_not mark i unmarked);
    whole = h.whole ∙ ap (λ (l : List ℕ). written 0 l before) (sym (listed_not mark f i unmarked));
  }

  pub fill_more : (v : ℕ) → mark i ≡ true → v ≡ f i → n < length before → Filled mark f (i + 1) before (set after n v) (n + 1)
  fill_more v marked e room = record {
    many = ap (λ (k : ℕ). k + 1) h.many ∙ sym (count_yes mark i marked);
    whole = written_store mark f before after i n v marked e h.whole h.many room;
  }

  -- no more than the units that were looked at
  pub fill_few : n ≤ i
  fill_few = omega (arith, h.many, count_le mark i)

  pub fill_length : n ≤ length before → length after ≡ length before
  fill_length room =
      let long = listed_length mark f i in
      rw h.whole (simp (length-append, length-drop) (omega (arith, h.many)))

  pub fill_held : Held mark f i after n
  fill_held = record {
    many = h.many;
    units_are = rw h.whole (take_at (listed mark f i) (drop (length (listed mark f i)) before) n (listed_length mark f i ∙ sym h.many));
  }

-- the same under other names
pub fill_same : {mark : ℕ → Bool} {f : ℕ → ℕ} {i n m : ℕ} {before xs ys : List ℕ} → xs ≡ ys → n ≡ m → Filled mark f i before ys m → Filled mark f i before xs n
fill_same {mark} {f} {i} {n} {m} {before} {xs} {ys} e g h = rw (e, g) h
