-- "The generated frame is always accepted by draw for a size, start and buffers within its limits": the refusal of the draw's definition is 0.
use mathlib.Core.Path.{◌≡◌, refl, ◌∙◌}
use mathlib.Core.Bool.{true, false}
use mathlib.Core.List.{List}
use Prim.Native.Nat.{ℕ, zero, suc, ◌+◌, ◌*◌, ◌%◌, ◌≤◌, ◌<◌}
use native.Mathlib.Nat.{mod-lt}
use native.Mathlib.Omega.{arith}
use lib.ListN.{length}
use lib.Dec.{eqb}
use borrow.Author.Tests.{eq-eqb, ne_eqb, lt-ltb, le-ltb, lt-leb}
use Rattle.rules.specs.Limits.{most_frame, most_turnover, most_panel, random_range, turnover_range}
use Rattle.rules.specs.Tests.{◌or◌, ◌and◌}
use Rattle.rules.specs.Refusals.{refuse, ◌then◌}
use Rattle.rules.specs.Lists.{sum, any_of, rises_from, rising}
use Rattle.rules.specs.TakeAll.{bad_turnovers, bad_size, bad_count}
use Rattle.rules.specs.Draw.{bad_lists, bad_random, frame_refusal, draw_refusal}
use Rattle.rules.specs.Load.{stepped, made_numbers, made_turnovers, made_randoms, made_frame}
use Rattle.rules.proofs.Tests.{or_off}
use Rattle.frame_made.proofs.Made.{length_numbers, length_turnovers, length_randoms}

-- 2: the numbers rise by one
rises : (count from : ℕ) → rises_from from (made_numbers count (suc from)) ≡ true
unfolding rises_from made_numbers ◌and◌
rises zero from = refl
rises (suc count) from = rw (lt-ltb from (suc from) (omega arith)) (rises count (suc from))

rising_numbers : (count : ℕ) → rising (made_numbers count 1) ≡ true
unfolding rising made_numbers
rising_numbers zero = refl
rising_numbers (suc count) = rises count 1

-- 3: each turnover is 1 to 10,000,000
none_zero : (count s : ℕ) → any_of (λ t. eqb t 0) (made_turnovers count s) ≡ false
unfolding any_of made_turnovers
none_zero zero s = refl
none_zero (suc count) s = or_off _ _ (ne_eqb (stepped s % turnover_range + 1) 0 (λ e. omega arith)) ∙ none_zero count (stepped (stepped s))

sum_most : (count s : ℕ) → sum (made_turnovers count s) ≤ turnover_range * count
unfolding sum made_turnovers
sum_most zero s = omega arith
sum_most (suc count) s =
    let positive : 0 < turnover_range = omega arith in
    omega (arith, mod-lt (stepped s) positive, sum_most count (stepped (stepped s)))

-- 4: each random number is below 1,000,000
randoms_low : (count s : ℕ) → any_of bad_random (made_randoms count s) ≡ false
unfolding any_of made_randoms bad_random
randoms_low zero s = refl
randoms_low (suc count) s = or_off _ _ (lt-leb _ _ (mod-lt (stepped (stepped s)) (omega arith))) ∙ randoms_low count (stepped (stepped s))

module _ (start count z first : ℕ) (numbers weights : List ℕ) (some : 0 < z) (within : z ≤ count) (panel : z ≤ most_panel) (frame : count ≤ most_frame) (low : first < random_range)
    (room : z ≤ length numbers) (place : z ≤ length weights) where
  sum_low : sum (made_turnovers count start) ≤ most_turnover
  sum_low = omega (arith, sum_most count start)

  pub load_is_accepted : draw_refusal (made_frame start count) z first numbers weights ≡ 0
  unfolding draw_refusal frame_refusal refuse ◌then◌ bad_lists bad_count bad_turnovers bad_size bad_random ◌or◌
  load_is_accepted =
      simp (
        length_numbers count 1,
        length_turnovers count start,
        length_randoms count start,
        eq-eqb count count refl,
        ne_eqb count 0 (λ e. omega arith),
        le-ltb most_frame count frame,
        rising_numbers count,
        none_zero count start,
        le-ltb most_turnover _ sum_low,
        randoms_low count start,
        lt-leb _ _ low,
        ne_eqb z 0 (λ e. omega arith),
        le-ltb most_panel z panel,
        le-ltb count z within,
        le-ltb (length numbers) z room,
        le-ltb (length weights) z place,
      )
