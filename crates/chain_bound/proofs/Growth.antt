-- An index that grows: F is C × A / B but for small losses on either side. Such steps multiply and their losses add, so one set of laws follows the
-- floors of a figure, the figures of a panel, and panels one after the other.
use mathlib.Core.Path.{◌≡◌}
use Prim.Native.Nat.{ℕ, ◌+◌, ◌*◌, ◌/◌, ◌≤◌, ◌<◌}
use native.Mathlib.Nat.{mul-le-mul_left, mul-le-mul_right, le_of_mul-le-mul_right, div-mul-le_self, mul-pos}
use native.Mathlib.Omega.{arith}
use Rattle.chain_bound.proofs.Near.{Near, exactly, weaken, times, cancel, joined, floor, drops, rises}

-- F is at most `up` parts above C × A / B and `down` parts below it.
pub record Grown (h up down A B C F : ℕ) : Type 0 where
  pub above : Near h up (F * B) (C * A)
  pub below : Near h down (C * A) (F * B)

-- nothing lost
pub whole_grown : {h A B C F : ℕ} → F * B ≡ C * A → Grown h 0 0 A B C F
whole_grown {h} e = record { above = exactly h (omega (arith, e)); below = exactly h (omega (arith, e)) }

-- the same fraction, written otherwise
pub written_as : {h up down A B A' B' C F : ℕ} → Grown h up down A B C F → A ≡ A' → B ≡ B' → Grown h up down A' B' C F
written_as g a b = rw (← a, ← b) g

pub reduced : {h up down A B C F : ℕ} (k : ℕ) → 0 < k → Grown h up down (A * k) (B * k) C F → Grown h up down A B C F
reduced {A = A} {B = B} {C = C} {F = F} k p g =
    record { above = cancel (F * B) (C * A) k p (omega (arith, g.above)); below = cancel (C * A) (F * B) k p (omega (arith, g.below)) }

pub expanded : {h up down A B C F : ℕ} (k : ℕ) → Grown h up down A B C F → Grown h up down (A * k) (B * k) C F
expanded k g = record { above = omega (arith, times k g.above); below = omega (arith, times k g.below) }

module _ {h up down A B C F : ℕ} (g : Grown h up down A B C F) where
  pub looser : {up' down' : ℕ} → up ≤ up' → down ≤ down' → Grown h up' down' A B C F
  looser u d = record { above = weaken u g.above; below = weaken d g.below }

  -- one step after the other: the fractions multiply, the losses add
  pub multiplied : {up' down' A' B' G : ℕ} → up ≤ h → down' ≤ h → Grown h up' down' A' B' F G → Grown h (up + up') (down + down') (A * A') (B * B') C G
  multiplied {up'} {down'} {A'} {B'} {G} up_few down_few next =
      record { above = omega (arith, joined up_few a₁ a₂); below = omega (arith, joined down_few b₁ b₂) }
    where
      a₁ : Near h up' (G * B' * B) (F * A' * B)
      a₁ = times B next.above

      a₂ : Near h up (F * A' * B) (C * A * A')
      a₂ = omega (arith, times A' g.above)

      b₁ : Near h down (C * A * A') (F * B * A')
      b₁ = times A' g.below

      b₂ : Near h down' (F * B * A') (G * B' * B)
      b₂ = omega (arith, times B next.below)

  -- beside a smaller numerator, which loses w parts of A
  pub less : {w : ℕ} (A' : ℕ) → down ≤ h → w ≤ h → A' ≤ A → Near h w A A' → Grown h (up + w) down A' B C F
  less A' down_few few most near =
      record { above = joined few g.above (omega (arith, times C near)); below = drops down_few (mul-le-mul_left C most) g.below }

  -- beside a larger one, of which A loses w parts
  pub more : {w : ℕ} (A' : ℕ) → down ≤ h → A ≤ A' → Near h w A' A → Grown h up (w + down) A' B C F
  more A' down_few most near =
      record { above = rises (mul-le-mul_left C most) g.above; below = joined down_few (omega (arith, times C near)) g.below }

-- ---- one figure
-- L = floor(N × k / S), F = floor(C × L / (k × s)), where S is the sum of the weights (document 01's V) and N that of weight × relative
abbrev pub figure_by : ℕ → ℕ → ℕ → ℕ → ℕ → ℕ
figure_by k s C S N = C * (N * k / S) / (k * s)

-- From C to F the index grows by N / (s × S), less what the two floors lose: l parts where L is at least `link`, i parts where F is at least `index`.
pub figure_grown : (h link l index i k s C S N : ℕ) → 0 < k → 0 < s → 0 < S → i ≤ h →
    h ≤ l * link → link ≤ N * k / S → h ≤ i * index → index ≤ figure_by k s C S N →
    Grown h 0 (l + i) N (s * S) C (figure_by k s C S N)
figure_grown h link l index i k s C S N pk ps pS few linkEnough linkLeft indexEnough indexLeft =
    record { above = exactly h (le_of_mul-le-mul_right {k = k} most pk); below = cancel (C * N) (F * (s * S)) k pk (omega (arith, joined few first second)) }
  where
    L : ℕ
    L = N * k / S

    F : ℕ
    F = figure_by k s C S N

    most : F * (s * S) * k ≤ C * N * k
    most = omega (arith, mul-le-mul_right S (div-mul-le_self (C * L) (k * s)), mul-le-mul_left C (div-mul-le_self (N * k) S))

    first : Near h l (C * (N * k)) (C * L * S)
    first = omega (arith, times C (floor h l link (N * k) S pS linkEnough linkLeft))

    second : Near h i (C * L * S) (F * (k * s) * S)
    second = times S (floor h i index (C * L) (k * s) (mul-pos pk ps) indexEnough indexLeft)

-- ---- a figure of a panel
-- A panel began at the index C₀ with the exact total E₀ / q₀. Since then the index has grown with the sum of the weights, by S / (E₀ / q₀); from C to F it
-- grows by N / (s × S). The sum S stands in both and cancels.
module _ {h up down r E₀ C₀ C F : ℕ} (q₀ s S N : ℕ) (pS : 0 < S) (up_few : up ≤ h) (down_few : down + r ≤ h)
    (index : Grown h up down (q₀ * S) E₀ C₀ C) (figure : Grown h 0 r N (s * S) C F) where
  since : Grown h up (down + r) (q₀ * N) (E₀ * s) C₀ F
  since = reduced S pS (written_as (looser (multiplied index up_few (omega arith) figure) (omega arith) (omega arith)) (omega arith) (omega arith))

  -- beside the exact sum P / q of e × p, of which N loses w parts
  pub figure_exact : {w : ℕ} (P q : ℕ) → N * q ≤ P → Near h w P (N * q) → Grown h up (w + (down + r)) (P * q₀) (q * s * E₀) C₀ F
  figure_exact P q most near =
      let larger : q₀ * N * q ≤ P * q₀ = omega (arith, mul-le-mul_left q₀ most) in
      written_as (more (expanded q since) (P * q₀) down_few larger (omega (arith, times q₀ near))) (omega arith) (omega arith)

  -- A close: the new sum S' × s is at most N and loses w parts of it.
  pub close_grown : {w : ℕ} (S' : ℕ) → 0 < s → w ≤ h → S' * s ≤ N → Near h w N (S' * s) → Grown h (up + w) (down + r) (q₀ * S') E₀ C₀ F
  close_grown S' ps wFew most near =
      let smaller : q₀ * S' * s ≤ q₀ * N = omega (arith, mul-le-mul_left q₀ most) in
      reduced s ps (less since (q₀ * S' * s) down_few wFew smaller (omega (arith, times q₀ near)))
