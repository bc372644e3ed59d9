-- A command byte and its kind: where no kind has it, it is out of range; where one has it, it is in range.
use Prim.Native.Nat.{ℕ, ◌+◌}
use mathlib.Core.Path.{◌≡◌, refl, sym, ap, ◌∙◌}
use mathlib.Core.Bool.{true, false}
use mathlib.Core.List.{List, []}
use native.Mathlib.Omega.{arith}
use borrow.Author.Tests.{lt-ltb, ne_eqb}
use Rattle.rules.specs.Tests.{outside, ◌or◌}
use Rattle.rules.specs.Stream.{Column, bytes_of, operands_of, width_of}
use Rattle.rules.proofs.Tests.{or_on, or_second, by_order, not_both}
use Rattle.stream_read.specs.declared.Kind.{Kind}
use Rattle.stream_read.specs.Value.{byte_of, Reads}
use Rattle.std.proofs.Common.{Result, Ok, Err}
use Rattle.std.specs.Result.{is_err}
use Rattle.refusals.specs.declared.Refusal.{Refusal}

pub out_of_range :
    (k : ℕ) → (k ≡ 1 → ⊥) → (k ≡ 2 → ⊥) → (k ≡ 3 → ⊥) → (k ≡ 4 → ⊥) → (k ≡ 5 → ⊥) → (k ≡ 6 → ⊥) → (k ≡ 7 → ⊥) → outside 1 7 k ≡ true
unfolding outside
out_of_range k a b c d e f g = by_order k 1 (λ l. or_on _ _ (lt-ltb k 1 l)) (λ l. or_second _ _ (lt-ltb 7 k (omega arith)))

-- a kind's command byte is in range
pub in_range : (kind : Kind) (k : ℕ) → byte_of kind ≡ k → outside 1 7 k ≡ false
unfolding outside ◌or◌
in_range Kind.Unit k e = ap (outside 1 7) (sym e) ∙ refl
in_range Kind.Draw k e = ap (outside 1 7) (sym e) ∙ refl
in_range Kind.Share k e = ap (outside 1 7) (sym e) ∙ refl
in_range Kind.Relative k e = ap (outside 1 7) (sym e) ∙ refl
in_range Kind.Open k e = ap (outside 1 7) (sym e) ∙ refl
in_range Kind.Quarter k e = ap (outside 1 7) (sym e) ∙ refl
in_range Kind.Close k e = ap (outside 1 7) (sym e) ∙ refl

-- a byte out of range has no operands
pub bare : (k : ℕ) → outside 1 7 k ≡ true → operands_of k ≡ []
unfolding operands_of outside ◌or◌
bare k e = simp (ne_eqb k 1 (never 1 refl), ne_eqb k 2 (never 2 refl), ne_eqb k 3 (never 3 refl), ne_eqb k 4 (never 4 refl), ne_eqb k 5 (never 5 refl))
  where
    never : (m : ℕ) → outside 1 7 m ≡ false → k ≡ m → ⊥
    never m f q = not_both (outside 1 7 k) e (ap (outside 1 7) q ∙ f)

-- it stands alone
pub alone : (k : ℕ) → outside 1 7 k ≡ true → width_of k ≡ 1
unfolding width_of
alone k e = ap (λ (cs : List Column). 1 + bytes_of cs) (bare k e)

-- a byte that is read as no kind is out of range, and only such a one
pub unknown_told : (k : ℕ) (r : Result Kind Refusal) → Reads k r → is_err r ≡ outside 1 7 k
unknown_told k (Ok kind) e = sym (in_range kind k e)
unknown_told k (Err why) e = sym e.1
