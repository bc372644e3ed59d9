-- A list of 64 places that is laid place by place: after i turns the first i values of f stand in it (`written_to` over 0 in every place).
use Rattle.std.proofs.lemmas.List.{drop-replicate}
use mathlib.Core.Path.{◌≡◌, sym, ap, ◌∙◌}
use mathlib.Core.List.{List, ◌++◌}
use Prim.Native.Nat.{ℕ, ◌+◌, ◌-◌, ◌≤◌, ◌<◌}
use native.Mathlib.Numerals.{add-one}
use native.Mathlib.Omega.{arith}
use lib.ListN.{length, get_or, drop, set, replicate, length-replicate}
use Rattle.rules.specs.Limits.{most_sectors}
use Rattle.rules.specs.Selection.{listed, every}
use Rattle.rules.specs.Allocation.{no_places, in_places}
use Rattle.rules.proofs.Lists.{written_to, written_to_next, written_to_all}
use Rattle.selection.proofs.Terms.{length_terms, term_at}

pub record Laid (n : ℕ) (f : ℕ → ℕ) (i : ℕ) (l : List ℕ) : Type 0 where
  pub is : l ≡ written_to i (listed every f n) no_places

module _ (n : ℕ) (f : ℕ → ℕ) where
  pub laid_none : (l : List ℕ) → l ≡ no_places → Laid n f 0 l
  laid_none l e = record { is = e }

  module _ (few : n ≤ most_sectors) (i : ℕ) (l : List ℕ) (w : Laid n f i l) where
    pub laid_more : (v : ℕ) → i < n → v ≡ f i → Laid n f (i + 1) (set l i v)
    laid_more v h e =
        let value : v ≡ get_or (listed every f n) i 0 = e ∙ sym (term_at f n i h) in
        record {
          is = rw (w.is, value, add-one i)
              (written_to_next i (listed every f n) no_places (omega (arith, length_terms f n)) (omega (arith, length_terms f n, length-replicate {A = ℕ} most_sectors 0)));
        }

    pub laid_all : i ≤ n → n ≤ i → l ≡ in_places n f
    laid_all h k =
        let long = length_terms f n in
        let end : i ≡ length (listed every f n) = omega arith in
        let rest : drop (length (listed every f n)) no_places ≡ replicate (most_sectors - n) 0 = ap (λ (m : ℕ). drop m no_places) long ∙ drop-replicate n most_sectors 0 in
        w.is ∙ ap (λ (m : ℕ). written_to m (listed every f n) no_places) end ∙ written_to_all (listed every f n) no_places ∙ ap (λ (r : List ℕ). listed every f n ++ r) rest
