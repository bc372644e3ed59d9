-- The generated lists place by place: unit i's values come from the state after i units, of two steps each.
use mathlib.Core.Path.{◌≡◌, refl, ap}
use Prim.Native.Nat.{ℕ, zero, suc, ◌+◌, ◌%◌, ◌<◌}
use native.Mathlib.Nat.{not-suc-le-zero, le_of_suc-le-suc}
use native.Mathlib.Omega.{arith}
use lib.ListN.{length, get_or}
use Rattle.rules.specs.Limits.{random_range, turnover_range}
use Rattle.rules.specs.Load.{stepped, made_numbers, made_turnovers, made_randoms}

-- the state after i units
abbrev pub state_at : ℕ → ℕ → ℕ
state_at zero s = s
state_at (suc i) s = state_at i (stepped (stepped s))

pub state_next : (i s : ℕ) → state_at (suc i) s ≡ stepped (stepped (state_at i s))
state_next zero s = refl
state_next (suc i) s = state_next i (stepped (stepped s))

pub turnover_at : (count i s : ℕ) → i < count → get_or (made_turnovers count s) i 0 ≡ stepped (state_at i s) % turnover_range + 1
unfolding made_turnovers
turnover_at zero i s h = absurd (not-suc-le-zero h)
turnover_at (suc count) zero s h = refl
turnover_at (suc count) (suc i) s h = turnover_at count i (stepped (stepped s)) (le_of_suc-le-suc h)

pub random_at : (count i s : ℕ) → i < count → get_or (made_randoms count s) i 0 ≡ stepped (stepped (state_at i s)) % random_range
unfolding made_randoms
random_at zero i s h = absurd (not-suc-le-zero h)
random_at (suc count) zero s h = refl
random_at (suc count) (suc i) s h = random_at count i (stepped (stepped s)) (le_of_suc-le-suc h)

pub number_at : (count i from : ℕ) → i < count → get_or (made_numbers count from) i 0 ≡ from + i
unfolding made_numbers
number_at zero i from h = absurd (not-suc-le-zero h)
number_at (suc count) zero from h = omega arith
number_at (suc count) (suc i) from h = omega (arith, number_at count i (suc from) (le_of_suc-le-suc h))

pub length_turnovers : (count s : ℕ) → length (made_turnovers count s) ≡ count
unfolding made_turnovers
length_turnovers zero s = refl
length_turnovers (suc count) s = ap suc (length_turnovers count (stepped (stepped s)))

pub length_randoms : (count s : ℕ) → length (made_randoms count s) ≡ count
unfolding made_randoms
length_randoms zero s = refl
length_randoms (suc count) s = ap suc (length_randoms count (stepped (stepped s)))

pub length_numbers : (count from : ℕ) → length (made_numbers count from) ≡ count
unfolding made_numbers
length_numbers zero from = refl
length_numbers (suc count) from = ap suc (length_numbers count (suc from))
