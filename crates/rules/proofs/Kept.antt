-- Document 02, [9], by worked cases; and the base search is the search over every unit.
use mathlib.Core.Path.{◌≡◌, refl}
use Prim.Native.Nat.{ℕ}
use mathlib.Core.List.{List, [], ◌∷◌}
use Rattle.rules.specs.Tests.{◌or◌, ◌and◌}
use Rattle.rules.specs.Refusals.{Judged, refuse, ◌then◌}
use Rattle.rules.specs.Lists.{sum, any_of, rises_from, rising, elem}
use Rattle.rules.specs.Selection.{sum_of, count, by_key, rank, firsts, listed, least_from, every}
use Rattle.rules.specs.Order.{put, ordered}
use Rattle.rules.specs.TakeAll.{Frame, frame, Taken, more_turnover, larger, largest, rest_without, reaches_rest, fits, take_all_size, rest_turnover, take_all_group, bad_turnovers, bad_size, bad_count}
use Rattle.rules.specs.Kept.{Keeping, keeping, in_previous, near_border, candidate, kept, forced, largest_among, rest_among, reaches_among, fits_among, size_among, rest_found_among, group_among, further, enlarge, enlarged_group, bad_list, bad_keeping, keeping_refusal, take_all_units_refusal, take_all_units_answer, take_all_units}
use Rattle.rules.specs.Draw.{Method, shifted, key_numerator, key_denominator, fraction_below, key_below, sampled_by, bad_lists, bad_random, frame_refusal}
use Rattle.rules.specs.Rotation.{Rotated, born, old_member, within_previous, joins, member, members, required, start_at, leaves, suffices, least_step, leavers, short_leavers, bad_old_panel, bad_previous, bad_births, kept_lists_refusal, kept_rotation_refusal, kept_rotation_answer, kept_rotation_leavers}

-- THE SAME SEARCH
pub base_is : (ts : List ℕ) (z : ℕ) → take_all_group ts z ≡ group_among every ts z
unfolding take_all_group rest_turnover take_all_size fits reaches_rest rest_without largest group_among rest_found_among size_among fits_among reaches_among rest_among largest_among ◌and◌
base_is ts z = refl

-- document 01's frame A, in millions, and one where the border is 800 thousandths
abbrev turnovers_a_lem : List ℕ
turnovers_a_lem = 70 ∷ 10 ∷ 8 ∷ 7 ∷ 5 ∷ []

abbrev numbers_a : List ℕ
numbers_a = 11 ∷ 12 ∷ 13 ∷ 14 ∷ 15 ∷ []

abbrev turnovers_b : List ℕ
turnovers_b = 12 ∷ 2 ∷ 1 ∷ []

abbrev numbers_b : List ℕ
numbers_b = 1 ∷ 2 ∷ 3 ∷ []

-- a group of n units at most, as the entry gives it
abbrev Shown : Type 0
Shown = Judged Taken × List ℕ

abbrev shown : List ℕ → List ℕ → ℕ → Keeping → List ℕ → Shown
shown ns ts z p buffer = (take_all_units_answer ns ts z p buffer, take_all_units ns ts z p buffer)

abbrev taken : ℕ → ℕ → ℕ → Judged Taken
taken q n x = Judged.given (record { size = q; sample_size = n; rest = x })

pub record KeptTable : Type 0 where
  -- "at least"
  pub keeps : shown numbers_a turnovers_a_lem 3 (keeping 666 (12 ∷ []) []) (0 ∷ 0 ∷ 0 ∷ []) ≡ (taken 2 1 20, 11 ∷ 12 ∷ 0 ∷ [])
  pub not_keeps : shown numbers_a turnovers_a_lem 3 (keeping 667 (12 ∷ []) []) (0 ∷ 0 ∷ 0 ∷ []) ≡ (taken 1 2 30, 11 ∷ 0 ∷ 0 ∷ [])
  -- all n are kept: no place is left
  pub all_kept : shown numbers_a turnovers_a_lem 3 (keeping 533 (12 ∷ []) (13 ∷ [])) (0 ∷ 0 ∷ 0 ∷ []) ≡ (taken 3 0 0, 11 ∷ 12 ∷ 13 ∷ [])
  pub one_kept : shown numbers_a turnovers_a_lem 3 (keeping 534 (13 ∷ []) (12 ∷ [])) (0 ∷ 0 ∷ 0 ∷ []) ≡ (taken 2 1 20, 11 ∷ 12 ∷ 0 ∷ [])
  -- the paper's γ at the border
  pub border : shown numbers_b turnovers_b 1 (keeping 800 (1 ∷ []) []) (9 ∷ []) ≡ (taken 1 0 0, 1 ∷ [])
  pub under : shown numbers_b turnovers_b 1 (keeping 801 (1 ∷ []) []) (9 ∷ []) ≡ (taken 0 1 15, 9 ∷ [])
  -- "At most n are kept, the largest first": the largest that is listed
  pub capped : shown numbers_b turnovers_b 1 (keeping 1 (3 ∷ []) (2 ∷ [])) (9 ∷ 9 ∷ []) ≡ (taken 1 0 0, 2 ∷ 9 ∷ [])
  -- "equal turnovers by lower number"
  pub tied : shown numbers_b (5 ∷ 5 ∷ 5 ∷ []) 1 (keeping 1 (2 ∷ 3 ∷ []) []) (9 ∷ []) ≡ (taken 1 0 0, 2 ∷ [])
  -- no list, a dead unit, and one that is take-all already
  pub no_list : shown numbers_a turnovers_a_lem 3 (keeping 1 [] []) (0 ∷ 0 ∷ 0 ∷ []) ≡ (taken 1 2 30, 11 ∷ 0 ∷ 0 ∷ [])
  pub nobody : shown numbers_a turnovers_a_lem 3 (keeping 1 (9 ∷ 11 ∷ []) (16 ∷ [])) (0 ∷ 0 ∷ 0 ∷ []) ≡ (taken 1 2 30, 11 ∷ 0 ∷ 0 ∷ [])
  -- γ with no lists, and after 6
  pub zero_threshold : shown numbers_a turnovers_a_lem 3 (keeping 0 [] []) (0 ∷ 0 ∷ 0 ∷ []) ≡ (Judged.refused 30, 0 ∷ 0 ∷ 0 ∷ [])
  pub buffer_first : shown numbers_a turnovers_a_lem 3 (keeping 0 [] []) (0 ∷ 0 ∷ []) ≡ (Judged.refused 6, 0 ∷ 0 ∷ [])

pub kept_table : KeptTable
unfolding ◌or◌ ◌and◌ refuse ◌then◌ sum any_of rises_from rising elem sum_of count by_key rank firsts listed least_from
    more_turnover larger largest rest_without reaches_rest fits take_all_size rest_turnover take_all_group bad_turnovers bad_size bad_count
    in_previous near_border candidate kept forced largest_among rest_among reaches_among fits_among size_among rest_found_among group_among further enlarge enlarged_group
    bad_list bad_keeping keeping_refusal take_all_units_refusal take_all_units_answer take_all_units
kept_table = record {
  keeps = refl;
  not_keeps = refl;
  all_kept = refl;
  one_kept = refl;
  border = refl;
  under = refl;
  capped = refl;
  tied = refl;
  no_list = refl;
  nobody = refl;
  zero_threshold = refl;
  buffer_first = refl;
}

-- ---- rotation
-- units 1 to 4 of which 2 and 3 are kept, so that no place is left
abbrev hovering : Frame
hovering = frame (1 ∷ 2 ∷ 3 ∷ 4 ∷ []) (9 ∷ 10 ∷ 10 ∷ 1 ∷ []) (0 ∷ 1 ∷ 2 ∷ 3 ∷ [])

abbrev hover : Method → Keeping → List ℕ → List ℕ → Judged Rotated × List ℕ
hover m p panel buffer =
    (kept_rotation_answer m hovering 2 0 panel 500 (born 0 0 []) p buffer, kept_rotation_leavers m hovering 2 0 panel 500 (born 0 0 []) p buffer)

abbrev both_leave : Judged Rotated × List ℕ
both_leave = (Judged.given (record { step = 0; start = 0; leaving = 2 }), 1 ∷ 4 ∷ 7 ∷ [])

pub record HoverTable : Type 0 where
  -- nobody is sampled, so all members leave at step 0, by either method
  pub all_leave : hover Method.pareto (keeping 500 (2 ∷ 3 ∷ []) []) (1 ∷ 4 ∷ []) (7 ∷ 7 ∷ 7 ∷ []) ≡ both_leave
  pub all_leave_too : hover Method.sequential_poisson (keeping 500 [] (2 ∷ 3 ∷ [])) (1 ∷ 4 ∷ []) (7 ∷ 7 ∷ 7 ∷ []) ≡ both_leave
  -- 30 is before 7, and after 6
  pub lists_first : hover Method.pareto (keeping 0 [] []) (4 ∷ 1 ∷ []) (7 ∷ 7 ∷ []) ≡ (Judged.refused 30, 7 ∷ 7 ∷ [])
  pub short_first : hover Method.pareto (keeping 0 [] []) (4 ∷ 1 ∷ []) (7 ∷ []) ≡ (Judged.refused 6, 7 ∷ [])

pub hover_table : HoverTable
unfolding ◌or◌ ◌and◌ refuse ◌then◌ sum any_of rises_from rising elem sum_of count by_key rank firsts listed least_from put ordered
    more_turnover larger largest rest_without reaches_rest fits take_all_size rest_turnover take_all_group bad_turnovers bad_size bad_count
    in_previous near_border candidate kept forced largest_among rest_among reaches_among fits_among size_among rest_found_among group_among further enlarge enlarged_group
    bad_list bad_keeping keeping_refusal shifted key_numerator key_denominator fraction_below key_below sampled_by bad_lists bad_random frame_refusal
    old_member within_previous joins member members required start_at leaves suffices least_step leavers short_leavers bad_old_panel bad_previous bad_births
    kept_lists_refusal kept_rotation_refusal kept_rotation_answer kept_rotation_leavers
hover_table = record { all_leave = refl; all_leave_too = refl; lists_first = refl; short_first = refl }
