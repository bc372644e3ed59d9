-- "That the n smallest are taken, ties by number" (document 02, [8]), for an arbitrary key: `below j i` says that unit j's key is below unit i's.
use Rattle.std.specs.Prelude.{◌≡◌, Bool, true, false, ℕ, ◌<◌}
use Rattle.rules.specs.Selection.{count}

-- Of the units below n that take part, those that are taken: exactly k, none with a larger key than one that is left, and of equal keys the lower number.
pub record Smallest (among : ℕ → Bool) (below : ℕ → ℕ → Bool) (n k : ℕ) (taken : ℕ → Bool) : Type 0 where
  pub exactly : count taken n ≡ k
  pub takes_part : (i : ℕ) → i < n → taken i ≡ true → among i ≡ true
  pub no_smaller : (i j : ℕ) → i < n → j < n → taken i ≡ true → among j ≡ true → taken j ≡ false → below j i ≡ false
  pub by_number : (i j : ℕ) → i < n → j < n → taken i ≡ true → among j ≡ true → taken j ≡ false → below i j ≡ false → i < j
