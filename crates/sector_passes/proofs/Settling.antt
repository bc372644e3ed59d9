-- The passes as the code runs them: what each function is lent is as it asks, a pass is the definition's, and after k passes the rest of them from the
-- marks at hand is the whole.
use mathlib.Core.Path.{◌≡◌, refl, sym, ap, ap₂, ◌∙◌, fun_ext}
use mathlib.Core.Bool.{Bool, true, false, not}
use mathlib.Core.List.{List}
use Prim.Native.Nat.{ℕ, zero, suc, ◌+◌, ◌-◌, ◌*◌, ◌≤◌, ◌<◌, zero-le}
use native.Mathlib.Nat.{zero-mul, mul-le-mul_right}
use native.Mathlib.Omega.{arith}
use lib.ListN.{length, get_or, replicate, get_or-eq_default}
use borrow.Author.Tests.{eq-eqb, ne_eqb, le-ltb}
use Rattle.rules.specs.Limits.{most_sectors, highest_strength}
use Rattle.rules.specs.Tests.{◌and◌}
use Rattle.rules.specs.Selection.{sum_of, count, every}
use Rattle.rules.specs.Allocation.{Sharing, sectors, strength, minimum, remaining, strengths_left, quota_below, leaving, staying, passes, stayed}
use Rattle.rules.proofs.Tests.{and_on, and_off, by_test, by_order}
use Rattle.selection.proofs.Sums.{count_zero, count_rest}
use Rattle.selection.proofs.Terms.{sum_every, sum_most}
use Rattle.sector_quota.specs.Accepted.{Accepted}
use Rattle.sector_quota.proofs.Accepted.{minimum_fits}
use Rattle.sector_passes.specs.Marks.{still_in, is_below, Summable, Passable}
use Rattle.sector_passes.proofs.Marked.{still_on}

-- a minimum that is not there is 0, and no quota is below it
pub beyond_below : (rest total : ℕ) (a : Sharing) (k : ℕ) → length a.minima ≤ k → is_below rest total a k ≡ false
beyond_below rest total a k l =
    le-ltb (rest * strength a k) (minimum a k * total) (rw (get_or-eq_default a.minima 0 {n = k} l, zero-mul total) zero-le)

pub zeros_at : (n i : ℕ) → ◌≡◌ {A = ℕ} (get_or (replicate n 0) i 0) 0
zeros_at zero i = refl
zeros_at (suc n) zero = refl
zeros_at (suc n) (suc i) = zeros_at n i

none_gone : (n : ℕ) → still_in (replicate n 0) ≡ every
none_gone n = fun_ext (λ i. still_on (replicate n 0) i (zeros_at n i))

module _ (a : Sharing) (ok : Accepted a) (gone : List ℕ) (full : length gone ≡ most_sectors) where
  -- ---- what is lent
  strengths_low : (still : ℕ → Bool) → strengths_left a still ≤ most_sectors * highest_strength
  unfolding strengths_left
  strengths_low still =
      omega (arith, sum_most still (strength a) highest_strength (sectors a) (λ i l h. (ok.strong i l).1), mul-le-mul_right highest_strength ok.few)

  pub strengths_summable : Summable a.strengths gone
  unfolding strengths_left
  strengths_summable = record { room = omega (arith, full, ok.few); low = strengths_low every }

  minima_same : (mark : ℕ → Bool) → sum_of mark (minimum a) (length a.minima) ≡ sum_of mark (minimum a) (sectors a)
  minima_same mark = ap (sum_of mark (minimum a)) ok.same

  pub minima_summable : Summable a.minima gone
  minima_summable = record { room = omega (arith, full, ok.few, ok.same); low = omega (arith, minima_same every, ok.fits, ok.most) }

  -- ---- T' and the strengths left
  module _ (given : ℕ) (e : given ≡ sum_of (λ i. not (still_in gone i)) (minimum a) (length a.minima)) where
    pub given_low : given ≤ a.interviews
    given_low = omega (arith, e, minima_same (λ i. not (still_in gone i)), sum_every (λ i. not (still_in gone i)) (minimum a) (sectors a), ok.fits)

    pub rest_is : a.interviews - given ≡ remaining a (still_in gone)
    unfolding remaining
    rest_is = ap (λ (k : ℕ). a.interviews - k) (e ∙ minima_same (λ i. not (still_in gone i)))

  module _ (rest total : ℕ) (rest_is : rest ≡ remaining a (still_in gone)) (total_is : total ≡ strengths_left a (still_in gone)) where
    pub rest_low : rest ≤ a.interviews
    unfolding remaining
    rest_low = omega (arith, rest_is)

    pub pass_asks : Passable rest total a gone
    pass_asks = record {
      same = ok.same;
      room = omega (arith, full, ok.few);
      strong = λ i l. (ok.strong i l).1;
      least = λ i l. omega (arith, minimum_fits a ok i l, ok.most);
      few = omega (arith, rest_low, ok.most);
      low = omega (arith, total_is, strengths_low (still_in gone));
    }

    abbrev low : ℕ → Bool
    low = is_below rest total a

    -- so a pass is the definition's
    pub leaves_are : (leave : ℕ) → leave ≡ count (λ i. still_in gone i and low i) (sectors a) → leave ≡ count (leaving a (still_in gone)) (sectors a)
    unfolding leaving quota_below
    leaves_are leave m =
        m ∙ ap₂ (λ (r t : ℕ). count (λ i. still_in gone i and is_below r t a i) (sectors a)) rest_is total_is

    pub stays_are : (new : List ℕ) → ((i : ℕ) → still_in new i ≡ (still_in gone i and not (low i))) → still_in new ≡ staying a (still_in gone)
    unfolding staying quota_below
    stays_are new h =
        fun_ext h ∙ ap₂ {C = ℕ → Bool} (λ (r t : ℕ). λ i. still_in gone i and not (is_below r t a i)) rest_is total_is

-- ---- the passes
module _ (a : Sharing) (ok : Accepted a) where
  -- where none leaves the marks stay
  none_leaves : (still : ℕ → Bool) → count (leaving a still) (sectors a) ≡ 0 → staying a still ≡ still
  unfolding leaving staying quota_below
  none_leaves still e = fun_ext (λ i. by_test (still i) (λ h. and_on (still i) _ h ∙ ap not (none i h) ∙ sym h) (λ h. and_off (still i) _ h ∙ sym h))
    where
      none : (i : ℕ) → still i ≡ true → quota_below a still i ≡ false
      none i h =
          by_order i (sectors a)
          (λ l. sym (and_on (still i) (quota_below a still i) h) ∙ count_rest (leaving a still) 0 (sectors a) (count_zero _ ∙ sym e) i zero-le l)
          (λ l. beyond_below (remaining a still) (strengths_left a still) a i (omega (arith, ok.same)))

  pub passes_start : stayed a ≡ passes (sectors a - 0) a (still_in (replicate most_sectors 0))
  unfolding stayed
  passes_start = let s : sectors a - 0 ≡ sectors a = omega arith in rw (s, none_gone most_sectors)

  module _ (gone : List ℕ) (k : ℕ) (done : stayed a ≡ passes (sectors a - k) a (still_in gone)) where
    pub passes_end : sectors a ≤ k → still_in gone ≡ stayed a
    unfolding passes
    passes_end l = let s : sectors a - k ≡ 0 = omega arith in sym (rw s at done)

    module _ (new : List ℕ) (next : still_in new ≡ staying a (still_in gone)) (l : k < sectors a) where
      one_less : sectors a - k ≡ suc (sectors a - (k + 1))
      one_less = omega arith

      pub passes_stop : count (leaving a (still_in gone)) (sectors a) ≡ 0 → still_in new ≡ stayed a
      unfolding passes
      passes_stop e = next ∙ none_leaves (still_in gone) e ∙ sym ((rw one_less at done) ∙ rw (eq-eqb _ 0 e))

      pub passes_on : (count (leaving a (still_in gone)) (sectors a) ≡ 0 → ⊥) → stayed a ≡ passes (sectors a - (k + 1)) a (still_in new)
      unfolding passes
      passes_on e = (rw one_less at done) ∙ rw (ne_eqb _ 0 e) (ap (passes (sectors a - (k + 1)) a) (sym next))
