-- `write_numbers` meets its contract: the numbers of the first j units stand in front, the rest of the buffer is as it was.
use mathlib.Core.Path.{◌≡◌, refl, ap, ◌∙◌}
use mathlib.Core.List.{List}
use Prim.Native.Nat.{ℕ, ◌+◌, ◌≤◌, ◌<◌}
use native.Mathlib.Omega.{arith}
use native.Mathlib.Numerals.{add-one}
use lib.ListN.{length, get_or, set}
use Rattle.rules.specs.Refusals.{written}
use Rattle.rules.proofs.Lists.{written_to, written_to_next, written_to_all, length_written_to}
use Rattle.rotation_leavers.specs.Leavers.{numbers_of}
use Rattle.rotation_leavers.proofs.Leavers.{numbers_length_lem, number_at}
use Rattle.rotation_leavers.proofs.write_numbers.Goals as goal

-- a turn writes the next number; the buffer keeps its length
module _ (numbers units before now : List ℕ) (j : ℕ) (e : now ≡ written_to j (numbers_of numbers units) before) (fits : length units ≤ length before) where
  next_number : j < length units → set now j (get_or numbers (get_or units j 0) 0) ≡ written_to (j + 1) (numbers_of numbers units) before
  next_number l =
      let n = numbers_length_lem numbers units in
      rw (e, ← number_at numbers units j l, add-one j) (written_to_next j (numbers_of numbers units) before (omega arith) (omega arith))

  kept_length : j ≤ length units → length now ≡ length before
  kept_length l = let n = numbers_length_lem numbers units in rw e (length_written_to j (numbers_of numbers units) before (omega arith) (omega arith))

  all_written : j ≤ length units → length units ≤ j → now ≡ written 0 (numbers_of numbers units) before
  all_written low high =
      let n : j ≡ length (numbers_of numbers units) = omega (arith, numbers_length_lem numbers units) in
      e ∙ ap (λ (k : ℕ). written_to k (numbers_of numbers units) before) n ∙ written_to_all (numbers_of numbers units) before

pub loop-j-init : goal.loop-j-init
loop-j-init c = refl

pub offset_bounds-numbers-i : goal.offset_bounds-numbers-i
offset_bounds-numbers-i c = omega (arith, c.requires.0.at c.loop-j.j c.loop-j-test.true, c.well_formed)

pub bounds-numbers-i : goal.bounds-numbers-i
bounds-numbers-i c = c.requires.0.at c.loop-j.j c.loop-j-test.true

pub bounds-out-j : goal.bounds-out-j
bounds-out-j c =
    let low : c.loop-j.j ≤ length c.args.units.now = omega arith in
    omega (arith, kept_length _ _ _ _ _ c.loop-j.invariant c.requires.1 low, c.requires.1)

pub loop-j-preserved : goal.loop-j-preserved
loop-j-preserved c = next_number _ _ _ _ _ c.loop-j.invariant c.requires.1 c.loop-j-test.true

pub returns : goal.returns
returns c =
    let low : c.loop-j.j ≤ length c.args.units.now = omega arith in
    all_written _ _ _ _ _ c.loop-j.invariant c.requires.1 low c.loop-j-test.false
