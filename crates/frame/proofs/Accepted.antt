-- What is known of a frame that no test refuses, as facts on numbers: `Units` of the turnovers and z alone (take-all reads no more),
-- `Accepted` of the whole frame and the start.
use Prim.Native.Nat.{ℕ, zero, suc, ◌≤◌, ◌<◌}
use mathlib.Core.Bool.{true, false}
use mathlib.Core.Path.{◌≡◌}
use mathlib.Core.List.{List, [], ◌∷◌}
use native.Mathlib.Omega.{arith}
use lib.Dec.{eqb}
use lib.ListN.{length, get_or}
use borrow.Author.Tests.{ltb-false, leb-false, eqb-true, eqb-false, not-false}
use Rattle.rules.specs.Limits.{most_frame, most_turnover, random_range, most_panel}
use Rattle.rules.specs.Lists.{sum, rising}
use Rattle.rules.specs.TakeAll.{Frame, turnover, bad_count, bad_turnovers, bad_size}
use Rattle.rules.specs.Draw.{bad_lists, bad_random, frame_refusal}
use Rattle.rules.proofs.Tests.{or_false}
use Rattle.rules.proofs.Refusals.{refuse_none, then_none}
use Rattle.rules.proofs.Lists.{any_none}

-- turnovers and a panel size that refusals 1, 3 and 5 let pass
pub record Units (ts : List ℕ) (z : ℕ) : Type 0 where
  pub few : length ts ≤ most_frame
  pub positive : (i : ℕ) → i < length ts → 0 < turnover ts i
  pub total : sum ts ≤ most_turnover
  pub within : (i : ℕ) → turnover ts i ≤ most_turnover
  pub size_some : 1 ≤ z
  pub size_few : z ≤ most_panel
  pub size_within : z ≤ length ts

-- a frame, a panel size and a start that refusals 1 to 5 let pass
pub record Accepted (f : Frame) (z start : ℕ) : Type 0 where
  pub numbers_length : length f.numbers ≡ length f.turnovers
  pub randoms_length : length f.randoms ≡ length f.turnovers
  pub units : Units f.turnovers z
  pub rises : rising f.numbers ≡ true
  pub random_low : (i : ℕ) → i < length f.turnovers → get_or f.randoms i 0 < random_range
  pub start_low : start < random_range

-- a place of a list is at most the list's sum
pub place_within : (l : List ℕ) (i : ℕ) → get_or l i 0 ≤ sum l
unfolding sum
place_within [] i = omega arith
place_within (x ∷ xs) zero = omega arith
place_within (x ∷ xs) (suc i) = omega (arith, place_within xs i)

positive_of : (t : ℕ) → eqb t 0 ≡ false → 0 < t
positive_of t e = omega (arith, eqb-false t 0 e)

low_of : (r : ℕ) → bad_random r ≡ false → r < random_range
unfolding bad_random
low_of r e = leb-false random_range r e

pub units : (ts : List ℕ) (z : ℕ) → bad_count ts ≡ false → bad_turnovers ts ≡ false → bad_size ts z ≡ false → Units ts z
unfolding bad_count bad_turnovers bad_size
units ts z count turnovers size =
    let t = or_false _ _ turnovers in
    let s = or_false _ _ size in
    let s0 = or_false _ _ s.0 in
    let most : sum ts ≤ most_turnover = ltb-false _ _ t.1 in
    record {
      few = ltb-false _ _ (or_false _ _ count).1;
      positive = λ i h. positive_of (turnover ts i) (any_none (λ x. eqb x 0) ts t.0 i h);
      total = most;
      within = λ i. omega (arith, place_within ts i);
      size_some = positive_of z s0.0;
      size_few = ltb-false _ _ s0.1;
      size_within = ltb-false _ _ s.1;
    }

pub accepted : (f : Frame) (z start : ℕ) → frame_refusal f z start ≡ 0 → Accepted f z start
unfolding frame_refusal bad_lists
accepted f z start e =
    let n1 = then_none _ _ e in
    let n2 = then_none _ _ n1.1 in
    let n3 = then_none _ _ n2.1 in
    let n4 = then_none _ _ n3.1 in
    let l = or_false _ _ (refuse_none _ 0 n1.0) in
    let l0 = or_false _ _ l.0 in
    let r = or_false _ _ (refuse_none _ 3 n4.0) in
    let rs : length f.randoms ≡ length f.turnovers = eqb-true _ _ (not-false _ l0.1) in
    record {
      numbers_length = eqb-true _ _ (not-false _ l0.0);
      randoms_length = rs;
      units = units f.turnovers z l.1 (refuse_none _ 2 n3.0) (refuse_none _ 4 n4.1);
      rises = not-false _ (refuse_none _ 1 n2.0);
      random_low = λ i h. low_of (get_or f.randoms i 0) (any_none bad_random f.randoms r.0 i (omega arith));
      start_low = low_of start r.1;
    }
