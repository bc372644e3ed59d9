-- Two buffers that a loop writes side by side: after i units f and g of the marked ones stand in their first k places, and the rest is as it was.
use mathlib.Core.Path.{◌≡◌, refl, sym, ap, ◌∙◌}
use mathlib.Core.Bool.{Bool, true, false}
use mathlib.Core.List.{List}
use Prim.Native.Nat.{ℕ, ◌+◌, ◌≤◌, ◌<◌}
use native.Mathlib.Omega.{arith}
use lib.ListN.{length, set, length-set}
use Rattle.rules.specs.Refusals.{written}
use Rattle.rules.specs.Selection.{sum_of, count, listed}
use Rattle.selection.proofs.Sums.{count_yes, count_skip, listed_skip, written_store, has_room}

pub record Writing (p : ℕ → Bool) (f g : ℕ → ℕ) (panel₀ weights₀ panel weights : List ℕ) (i k : ℕ) : Type 0 where
  pub many : k ≡ count p i
  pub panel_is : panel ≡ written 0 (listed p f i) panel₀
  pub panel_room : length panel ≡ length panel₀
  pub weights_is : weights ≡ written 0 (listed p g i) weights₀
  pub weights_room : length weights ≡ length weights₀

pub writing_none : {p : ℕ → Bool} {f g : ℕ → ℕ} {panel weights : List ℕ} → Writing p f g panel weights panel weights 0 0
unfolding sum_of count listed
writing_none = record { many = refl; panel_is = refl; panel_room = refl; weights_is = refl; weights_room = refl }

module _ {p : ℕ → Bool} {f g : ℕ → ℕ} {panel₀ weights₀ panel weights : List ℕ} {i k : ℕ} (w : Writing p f g panel₀ weights₀ panel weights i k) where
  -- units without the mark change nothing
  pub writing_skip : (j : ℕ) → i ≤ j → ((m : ℕ) → i ≤ m → m < j → p m ≡ false) → Writing p f g panel₀ weights₀ panel weights j k
  writing_skip j l none = record {
    many = w.many ∙ sym (count_skip p i j l none);
    panel_is = w.panel_is ∙ ap (λ (xs : List ℕ). written 0 xs panel₀) (sym (listed_skip p f i j l none));
    panel_room = w.panel_room;
    weights_is = w.weights_is ∙ ap (λ (xs : List ℕ). written 0 xs weights₀) (sym (listed_skip p g i j l none));
    weights_room = w.weights_room;
  }

  pub writing_not : p i ≡ false → Writing p f g panel₀ weights₀ panel weights (i + 1) k
  writing_not h = writing_skip (i + 1) (omega arith) (λ m a b. let e : m ≡ i = omega arith in rw e h)

  -- one with the mark has its place in both
  pub places : (n : ℕ) → i < n → p i ≡ true → count p n ≤ length panel₀ → count p n ≤ length weights₀ → (k < length panel₀) × (k < length weights₀)
  places n l h a b =
      let room = has_room p n i l h in
      (omega (arith, w.many, room, a), omega (arith, w.many, room, b))

  -- one with the mark is written to both
  pub writing_more :
      {v x : ℕ} → p i ≡ true → k < length panel₀ → k < length weights₀ → v ≡ f i → x ≡ g i
      → Writing p f g panel₀ weights₀ (set panel k v) (set weights k x) (i + 1) (k + 1)
  writing_more {v} {x} h room room' e e' = record {
    many = ap (λ (n : ℕ). n + 1) w.many ∙ sym (count_yes p i h);
    panel_is = written_store p f panel₀ panel i k v h e w.panel_is w.many room;
    panel_room = length-set panel k v ∙ w.panel_room;
    weights_is = written_store p g weights₀ weights i k x h e' w.weights_is w.many room';
    weights_room = length-set weights k x ∙ w.weights_room;
  }

-- the same under other names
pub writing_same :
    {p : ℕ → Bool} {f g : ℕ → ℕ} {panel₀ weights₀ panel weights panel' weights' : List ℕ} {i k k' : ℕ}
    → panel' ≡ panel → weights' ≡ weights → k' ≡ k → Writing p f g panel₀ weights₀ panel weights i k → Writing p f g panel₀ weights₀ panel' weights' i k'
writing_same a b c w = rw (a, b, c) w
