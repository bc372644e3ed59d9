-- Document 02, [2], at its borders: a birth that just joins and one that just does not, a birth of the old panel, random numbers shifted by the old start, the
-- order of 25 and 26, and a frame in which 1,000,000 × n' × turnover passes 64 bits.
use mathlib.Core.Path.{◌≡◌, refl}
use mathlib.Core.List.{List, [], ◌∷◌}
use Prim.Native.Nat.{ℕ}
use Rattle.rules.specs.Tests.{◌or◌, ◌and◌}
use Rattle.rules.specs.Refusals.{Judged, refuse, ◌then◌}
use Rattle.rules.specs.Lists.{sum, any_of, rises_from, rising, elem}
use Rattle.rules.specs.Selection.{sum_of, count, by_key, rank, firsts, listed, least_from}
use Rattle.rules.specs.Order.{put, ordered}
use Rattle.rules.specs.TakeAll.{Frame, frame, more_turnover, larger, largest, rest_without, reaches_rest, fits, take_all_size, rest_turnover, take_all_group, bad_turnovers, bad_size, bad_count}
use Rattle.rules.specs.Draw.{shifted, key_numerator, key_denominator, fraction_below, key_below, sampled_by, bad_lists, bad_random, frame_refusal}
use Rattle.rules.specs.Rotation.{Rotated, Births, born, old_member, within_previous, joins, member, members, required, start_at, leaves, suffices, least_step, leavers, short_leavers, bad_old_panel, bad_previous, bad_births, lists_refusal, rotation_refusal, rotation_answer_by, rotation_leavers_by, rotation_answer, rotation_leavers}

-- document 01's frame A, but that units 15 and 13 have the first random numbers and so leave by the first steps: each step is computed
abbrev soon : Frame
soon =
    frame (11 ∷ 12 ∷ 13 ∷ 14 ∷ 15 ∷ []) (70000000 ∷ 10000000 ∷ 8000000 ∷ 7000000 ∷ 5000000 ∷ [])
    (300000 ∷ 500000 ∷ 1000 ∷ 900000 ∷ 0 ∷ [])

-- the buffer
abbrev room : List ℕ
room = 7 ∷ 7 ∷ 7 ∷ []

-- of the old panel 13 and 15, from start 0
abbrev answer_of : ℕ → Births → Judged Rotated
answer_of fraction b = rotation_answer soon 3 0 (13 ∷ 15 ∷ []) fraction b room

abbrev leavers_of : ℕ → Births → List ℕ
leavers_of fraction b = rotation_leavers soon 3 0 (13 ∷ 15 ∷ []) fraction b room

abbrev rotated : ℕ → ℕ → ℕ → Judged Rotated
rotated k start count = Judged.given (record { step = k; start = start; leaving = count })

-- turnovers of 184,467,440,738 and more, which add to 10^12
abbrev wide : Frame
wide =
    frame (1 ∷ 2 ∷ 3 ∷ 4 ∷ 5 ∷ 6 ∷ []) (184467440738 ∷ 170000000000 ∷ 170000000000 ∷ 170000000000 ∷ 170000000000 ∷ 135532559262 ∷ [])
    (999000 ∷ 1000 ∷ 2000 ∷ 3000 ∷ 4000 ∷ 5000 ∷ [])

pub record BirthsTable : Type 0 where
  -- r × X' = 1,000,000 × n' × turnover does not join, one euro less does
  equal_stays_out : answer_of 500 (born 2 40000000 (12 ∷ [])) ≡ rotated 1 1000 1
  equal_leavers : leavers_of 500 (born 2 40000000 (12 ∷ [])) ≡ 15 ∷ 7 ∷ 7 ∷ []
  below_joins : answer_of 500 (born 2 39999999 (12 ∷ [])) ≡ rotated 2 2000 2
  below_leavers : leavers_of 500 (born 2 39999999 (12 ∷ [])) ≡ 13 ∷ 15 ∷ 7 ∷ []
  -- 1,000,000 × 100 × 184,467,440,738 would wrap to 90,448,384
  wide_joins : rotation_answer wide 1 0 (2 ∷ []) 1000 (born 100 1000000000000 (1 ∷ [])) room ≡ rotated 2 2000 2
  wide_leavers : rotation_leavers wide 1 0 (2 ∷ []) 1000 (born 100 1000000000000 (1 ∷ [])) room ≡ 1 ∷ 2 ∷ 7 ∷ []
  -- a birth of the old panel is one member, and is one where the comparison fails too
  once : answer_of 500 (born 2 30000000 (13 ∷ [])) ≡ rotated 1 1000 1
  of_the_panel : leavers_of 1000 (born 1 1000000000000 (13 ∷ [])) ≡ 13 ∷ 15 ∷ 7 ∷ []
  -- a take-all unit joins by no comparison
  take_all_stays_out : answer_of 500 (born 2 30000000 (11 ∷ [])) ≡ rotated 1 1000 1
  -- r of unit 12 is 1,000 from start 499,000; the old panel is 15
  shifted_joins : rotation_answer soon 3 499000 (15 ∷ []) 1000 (born 2 19999999999 (12 ∷ [])) room ≡ rotated 2 501000 2
  shifted_stays_out : rotation_answer soon 3 499000 (15 ∷ []) 1000 (born 2 20000000000 (12 ∷ [])) room ≡ rotated 0 499000 1
  -- 25: n' over 100, X' over 10^12 (10^12 itself is fine, above), or X' of 0 while n' is not; it is judged without births
  over_rest : answer_of 500 (born 1 1000000000001 []) ≡ Judged.refused 25
  no_rest : answer_of 500 (born 1 0 []) ≡ Judged.refused 25
  -- … and before 26; 6 counts both lists, before 25
  no_births : answer_of 500 (born 101 1 []) ≡ Judged.refused 25
  nothing_before : answer_of 500 (born 0 5 []) ≡ rotated 1 1000 1
  both : answer_of 500 (born 101 1 (99 ∷ [])) ≡ Judged.refused 25
  not_in_frame : answer_of 500 (born 100 1 (99 ∷ [])) ≡ Judged.refused 26
  short : answer_of 500 (born 101 1 (12 ∷ 14 ∷ [])) ≡ Judged.refused 6

pub births_table : BirthsTable
unfolding ◌or◌ ◌and◌ refuse ◌then◌ sum any_of rises_from rising elem sum_of count by_key rank firsts listed least_from put ordered
    more_turnover larger largest rest_without reaches_rest fits take_all_size rest_turnover take_all_group bad_turnovers bad_size bad_count
    shifted key_numerator key_denominator fraction_below key_below sampled_by bad_lists bad_random frame_refusal
    old_member within_previous joins member members required start_at leaves suffices least_step leavers short_leavers bad_old_panel bad_previous bad_births lists_refusal
    rotation_refusal rotation_answer_by rotation_leavers_by
births_table =
    record {
      equal_stays_out = refl;
      equal_leavers = refl;
      below_joins = refl;
      below_leavers = refl;
      wide_joins = refl;
      wide_leavers = refl;
      once = refl;
      of_the_panel = refl;
      take_all_stays_out = refl;
      shifted_joins = refl;
      shifted_stays_out = refl;
      over_rest = refl;
      no_rest = refl;
      no_births = refl;
      nothing_before = refl;
      both = refl;
      not_in_frame = refl;
      short = refl;
    }
