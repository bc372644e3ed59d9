-- A lent list that a pass fills from its front.
use Rattle.std.specs.Prelude.{◌≡◌, Bool, List, ℕ}
use Rattle.rules.specs.Refusals.{written}
use Rattle.rules.specs.Selection.{count, listed}

-- the first n places hold f of the marked units below i, in the units' order; the others are as they were
pub record Filled (mark : ℕ → Bool) (f : ℕ → ℕ) (i : ℕ) (before after : List ℕ) (n : ℕ) : Type 0 where
  pub many : n ≡ count mark i
  pub whole : after ≡ written 0 (listed mark f i) before
