-- A list of 64 places (`in_places`): its length, its front, what stands at a place, and beyond the sectors 0.
use mathlib.Core.Path.{◌≡◌, ap, ◌∙◌}
use mathlib.Core.List.{List}
use Prim.Native.Nat.{ℕ, ◌+◌, ◌-◌, ◌≤◌, ◌<◌}
use native.Mathlib.Omega.{arith}
use lib.ListN.{length, get_or, take, replicate, length-append, length-replicate, get_or-append}
use lib.Seq.{take_at, get_or-append-add}
use Rattle.rules.specs.Limits.{most_sectors}
use Rattle.rules.specs.Selection.{listed, every}
use Rattle.rules.specs.Allocation.{in_places}
use Rattle.selection.proofs.Terms.{length_terms, term_at}
use Rattle.sector_passes.proofs.Settling.{zeros_at}

module _ (n : ℕ) (f : ℕ → ℕ) where
  abbrev behind : List ℕ
  behind = replicate (most_sectors - n) 0

  pub places_length : n ≤ most_sectors → length (in_places n f) ≡ most_sectors
  places_length few = simp length-append (omega (arith, length_terms f n, length-replicate {A = ℕ} (most_sectors - n) 0))

  pub places_front : take n (in_places n f) ≡ listed every f n
  places_front = take_at (listed every f n) behind n (length_terms f n)

  pub places_at : (i : ℕ) → i < n → get_or (in_places n f) i 0 ≡ f i
  places_at i l = get_or-append (listed every f n) behind 0 i (omega (arith, length_terms f n)) ∙ term_at f n i l

  pub places_beyond : (i : ℕ) → n ≤ i → get_or (in_places n f) i 0 ≡ 0
  places_beyond i l =
      let at : i ≡ length (listed every f n) + (i - n) = omega (arith, length_terms f n) in
      ap (λ (k : ℕ). get_or (in_places n f) k 0) at ∙ get_or-append-add (listed every f n) behind (i - n) 0 ∙ zeros_at (most_sectors - n) (i - n)
