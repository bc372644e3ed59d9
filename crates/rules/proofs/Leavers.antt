-- Document 02, [1]: of six units four are to leave, two of them of one turnover. They are written by falling turnover, the two by lower unit number, and
-- the places beyond them stay. Where one of four must leave, the three that are not sampled are written.
use mathlib.Core.Path.{◌≡◌, refl}
use mathlib.Core.List.{List, [], ◌∷◌}
use Prim.Native.Nat.{ℕ}
use Rattle.rules.specs.Tests.{◌or◌, ◌and◌}
use Rattle.rules.specs.Refusals.{Judged, refuse, ◌then◌}
use Rattle.rules.specs.Lists.{sum, any_of, rises_from, rising, elem}
use Rattle.rules.specs.Selection.{sum_of, count, by_key, rank, firsts, listed, least_from}
use Rattle.rules.specs.Order.{put, ordered}
use Rattle.rules.specs.TakeAll.{Frame, frame, more_turnover, larger, largest, rest_without, reaches_rest, fits, take_all_size, rest_turnover, take_all_group, bad_turnovers, bad_size, bad_count}
use Rattle.rules.specs.Draw.{shifted, key_numerator, key_denominator, fraction_below, key_below, sampled_by, bad_lists, bad_random, frame_refusal}
use Rattle.rules.specs.Rotation.{born, old_member, within_previous, joins, member, members, required, start_at, leaves, suffices, least_step, leavers, short_leavers, bad_old_panel, bad_previous, bad_births, lists_refusal, rotation_refusal, rotation_answer_by, rotation_leavers_by, rotation_answer, rotation_leavers}

abbrev six : Frame
six = frame (1 ∷ 2 ∷ 3 ∷ 4 ∷ 5 ∷ 6 ∷ []) (10 ∷ 30 ∷ 20 ∷ 30 ∷ 25 ∷ 15 ∷ []) (2000 ∷ 1000 ∷ 3000 ∷ 500 ∷ 900000 ∷ 950000 ∷ [])

abbrev room : List ℕ
room = 0 ∷ 0 ∷ 0 ∷ 0 ∷ 0 ∷ 7 ∷ []

pub record InOrder : Type 0 where
  all_leave : rotation_answer six 1 0 (1 ∷ 2 ∷ 3 ∷ 4 ∷ []) 1000 (born 0 0 []) room ≡ Judged.given (record { step = 4; start = 4000; leaving = 4 })
  all_written : rotation_leavers six 1 0 (1 ∷ 2 ∷ 3 ∷ 4 ∷ []) 1000 (born 0 0 []) room ≡ 2 ∷ 4 ∷ 3 ∷ 1 ∷ 0 ∷ 7 ∷ []
  more_than_required : rotation_leavers six 1 0 (1 ∷ 2 ∷ 3 ∷ 4 ∷ []) 250 (born 0 0 []) room ≡ 2 ∷ 3 ∷ 1 ∷ 0 ∷ 0 ∷ 7 ∷ []

pub in_order_lem : InOrder
unfolding ◌or◌ ◌and◌ refuse ◌then◌ sum any_of rises_from rising elem sum_of count by_key rank firsts listed least_from put ordered
    more_turnover larger largest rest_without reaches_rest fits take_all_size rest_turnover take_all_group bad_turnovers bad_size bad_count
    shifted key_numerator key_denominator fraction_below key_below sampled_by bad_lists bad_random frame_refusal
    old_member within_previous joins member members required start_at leaves suffices least_step leavers short_leavers bad_old_panel bad_previous bad_births lists_refusal
    rotation_refusal rotation_answer_by rotation_leavers_by
in_order_lem = record { all_leave = refl; all_written = refl; more_than_required = refl }
