-- The lines of a panel, one unit after the other, until one of the lists ends.
use Prim.Native.Nat.{ℕ}
use mathlib.Core.Path.{◌≡◌, refl, sym, ◌∙◌}
use mathlib.Core.Logic.{◌⊎◌, ⊎_elim}
use mathlib.Core.List.{List, [], ◌∷◌, ◌++◌, append_assoc, append-nil}
use lib.ListN.{length}
use native.Mathlib.Omega.{arith}
use Rattle.rules.specs.Lines.{line_of2, panel_lines}

none_left : (ns ws : List ℕ) → (length ns ≡ 0) ⊎ (length ws ≡ 0) → panel_lines ns ws ≡ []
unfolding panel_lines
none_left [] ws h = refl
none_left (n ∷ ns) [] h = refl
none_left (n ∷ ns) (w ∷ ws) h = let no : ⊥ = ⊎_elim (λ e. omega arith) (λ e. omega arith) h in absurd no

-- a text that with the lines to come is all of them
module _ (ns ws text all : List ℕ) (e : text ++ panel_lines ns ws ≡ all) where
  pub next_line : (n w : ℕ) (ms vs : List ℕ) → ns ≡ n ∷ ms → ws ≡ w ∷ vs → (text ++ line_of2 80 n w) ++ panel_lines ms vs ≡ all
  unfolding panel_lines
  next_line n w ms vs h g = append_assoc text (line_of2 80 n w) (panel_lines ms vs) ∙ (rw (h, g) at e)

  pub no_line : (length ns ≡ 0) ⊎ (length ws ≡ 0) → text ≡ all
  no_line h = sym (append-nil text) ∙ (rw (none_left ns ws h) at e)
