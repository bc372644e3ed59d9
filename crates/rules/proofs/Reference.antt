-- Document 01, "Reference cases": K1 to K11 as one table, proved by computing the definitions.
-- K7 and K8 go through the job on the listing's bytes, since only that reads, draws, opens, closes and prints in one.
use mathlib.Core.Path.{◌≡◌, refl}
use Prim.Native.Nat.{ℕ, ◌*◌}
use mathlib.Core.Bool.{true}
use mathlib.Core.List.{List, [], ◌∷◌}
use lib.Dec.{ltb}
use Rattle.rules.specs.Tests.{◌or◌, ◌and◌, outside}
use Rattle.rules.specs.Refusals.{Judged, refuse, ◌then◌}
use Rattle.rules.specs.Lists.{sum, products, scaled, any_of, any_pair, rises_from, rising, elem}
use Rattle.rules.specs.Selection.{sum_of, count, by_key, rank, firsts, listed, least_from}
use Rattle.rules.specs.TakeAll.{Frame, Taken, frame, more_turnover, larger, largest, rest_without, reaches_rest, fits, take_all_size, rest_turnover, take_all_group, base_weight, bad_turnovers, bad_size, bad_count, take_all_refusal, take_all_answer, take_all_marks}
use Rattle.rules.specs.Draw.{Drawn, shifted, key_numerator, key_denominator, fraction_below, key_below, sampled_by, drawn_by, panel_numbers, panel_weights, bad_lists, bad_random, frame_refusal, draw_refusal, draw_answer, draw_numbers_by, draw_weights_by, draw_numbers, draw_weights}
use Rattle.rules.specs.Order.{put, ordered}
use Rattle.rules.specs.Rotation.{Rotated, born, old_member, within_previous, joins, member, members, required, start_at, leaves, suffices, least_step, leavers, short_leavers, bad_old_panel, bad_previous, bad_births, lists_refusal, rotation_refusal, rotation_answer_by, rotation_leavers_by, rotation_answer, rotation_leavers}
use Rattle.rules.specs.Chain.{Chain, Call, held, bad_index, bad_relative, bad_weight, bad_units, bad_open_lists, bad_base, bad_shares, open_input_refusal, weight_refusal, open_refusal, open_record, link, figure_at, bad_links, broken, call_input_refusal, figure_refusal, call_refusal, call_answer}
use Rattle.rules.specs.Panel.{plain}
use Rattle.rules.specs.Direct.{Direct, exact_open, panel_exact, exact_moved, direct_panel, direct_open, direct_after, numerator, denominator}
use Rattle.rules.specs.Total.{bad_sectors, total_of, total_answer}
use Rattle.rules.specs.Stream.{big_endian, operands_of, width_of, command_of, reading_refusal, reading, rest_of}
use Rattle.rules.specs.Decimal.{digits_on, decimal_on}
use Rattle.rules.specs.Lines.{line_of, line_of2, panel_lines}
use Rattle.rules.specs.Job.{empty_job, with_unit, on_unit, with_panel, on_draw, place_refusal, with_share, on_share, with_relative, on_relative, with_chain, on_open, step, printed, output}

-- "Frame A: units 11 to 15, turnovers 70, 10, 8, 7, 5 million", with the R that K1 and K2 give
abbrev turnovers_a : List ℕ
turnovers_a = 70000000 ∷ 10000000 ∷ 8000000 ∷ 7000000 ∷ 5000000 ∷ []

abbrev frame_a : ℕ → Frame
frame_a lastRandom = frame (11 ∷ 12 ∷ 13 ∷ 14 ∷ 15 ∷ []) turnovers_a (300000 ∷ 500000 ∷ 200000 ∷ 900000 ∷ lastRandom ∷ [])

-- a buffer of four places, and a list of six marks
abbrev buffer : List ℕ
buffer = 9 ∷ 9 ∷ 9 ∷ 8 ∷ []

abbrev marks : List ℕ
marks = 9 ∷ 9 ∷ 9 ∷ 9 ∷ 9 ∷ 9 ∷ []

-- the listing's job stream, command by command
abbrev stream_a : List ℕ
stream_a =
    1 ∷ 0 ∷ 0 ∷ 0 ∷ 11 ∷ 0 ∷ 0 ∷ 0 ∷ 0 ∷ 4 ∷ 44 ∷ 29 ∷ 128 ∷ 0 ∷ 4 ∷ 147 ∷ 224
    ∷ 1 ∷ 0 ∷ 0 ∷ 0 ∷ 12 ∷ 0 ∷ 0 ∷ 0 ∷ 0 ∷ 0 ∷ 152 ∷ 150 ∷ 128 ∷ 0 ∷ 7 ∷ 161 ∷ 32
    ∷ 1 ∷ 0 ∷ 0 ∷ 0 ∷ 13 ∷ 0 ∷ 0 ∷ 0 ∷ 0 ∷ 0 ∷ 122 ∷ 18 ∷ 0 ∷ 0 ∷ 3 ∷ 13 ∷ 64
    ∷ 1 ∷ 0 ∷ 0 ∷ 0 ∷ 14 ∷ 0 ∷ 0 ∷ 0 ∷ 0 ∷ 0 ∷ 106 ∷ 207 ∷ 192 ∷ 0 ∷ 13 ∷ 187 ∷ 160
    ∷ 1 ∷ 0 ∷ 0 ∷ 0 ∷ 15 ∷ 0 ∷ 0 ∷ 0 ∷ 0 ∷ 0 ∷ 76 ∷ 75 ∷ 64 ∷ 0 ∷ 1 ∷ 134 ∷ 160
    ∷ 2 ∷ 3 ∷ 0 ∷ 0 ∷ 0 ∷ 0
    ∷ 4 ∷ 0 ∷ 0 ∷ 1 ∷ 134 ∷ 160 ∷ 4 ∷ 1 ∷ 0 ∷ 1 ∷ 134 ∷ 160 ∷ 4 ∷ 2 ∷ 0 ∷ 1 ∷ 134 ∷ 160
    ∷ 5 ∷ 0 ∷ 0 ∷ 0 ∷ 0 ∷ 59 ∷ 154 ∷ 202 ∷ 0
    ∷ 4 ∷ 0 ∷ 0 ∷ 1 ∷ 154 ∷ 40 ∷ 4 ∷ 1 ∷ 0 ∷ 1 ∷ 126 ∷ 208 ∷ 4 ∷ 2 ∷ 0 ∷ 1 ∷ 212 ∷ 192
    ∷ 7
    ∷ 4 ∷ 0 ∷ 0 ∷ 1 ∷ 134 ∷ 160 ∷ 4 ∷ 1 ∷ 0 ∷ 1 ∷ 134 ∷ 160 ∷ 4 ∷ 2 ∷ 0 ∷ 1 ∷ 138 ∷ 136
    ∷ 6
    ∷ []

-- the five lines that the listing prints
abbrev lines_a : List ℕ
lines_a =
    80 ∷ 32 ∷ 49 ∷ 49 ∷ 32 ∷ 49 ∷ 52 ∷ 48 ∷ 48 ∷ 48 ∷ 48 ∷ 48 ∷ 48 ∷ 48 ∷ 10
    ∷ 80 ∷ 32 ∷ 49 ∷ 51 ∷ 32 ∷ 51 ∷ 48 ∷ 48 ∷ 48 ∷ 48 ∷ 48 ∷ 48 ∷ 48 ∷ 10
    ∷ 80 ∷ 32 ∷ 49 ∷ 53 ∷ 32 ∷ 51 ∷ 48 ∷ 48 ∷ 48 ∷ 48 ∷ 48 ∷ 48 ∷ 48 ∷ 10
    ∷ 67 ∷ 32 ∷ 49 ∷ 48 ∷ 54 ∷ 50 ∷ 48 ∷ 48 ∷ 48 ∷ 48 ∷ 48 ∷ 48 ∷ 10
    ∷ 81 ∷ 32 ∷ 49 ∷ 48 ∷ 54 ∷ 51 ∷ 55 ∷ 57 ∷ 57 ∷ 57 ∷ 57 ∷ 52 ∷ 10
    ∷ []

-- "The listing keeps its figures with each relative written ten times larger" ([5]): 105,000, 98,000, 120,000, close, 100,000, 100,000, 101,000, quarter
abbrev direct_a : Direct
direct_a =
    direct_after (direct_open (plain (140000000 ∷ 30000000 ∷ 30000000 ∷ []) (10000 ∷ 10000 ∷ 10000 ∷ []) (100000 ∷ 100000 ∷ 100000 ∷ [])) 1000000000)
    (Call.close (105000 ∷ 98000 ∷ 120000 ∷ []))

-- a record of one unit, of which a quarter asks one relative
abbrev one_unit : Chain
one_unit = record { weights = 1000000 ∷ []; units = 1; index = 1000000000; closes = 0; links = 0 }

-- an answer that is given: q, n and X of a take-all group; n and X of a draw; k, the new start and the leavers' count of a rotation
abbrev taken : ℕ → ℕ → ℕ → Judged Taken
taken q n x = Judged.given (record { size = q; sample_size = n; rest = x })

abbrev drawn : ℕ → ℕ → Judged Drawn
drawn n x = Judged.given (record { sample_size = n; rest = x })

abbrev rotated : ℕ → ℕ → ℕ → Judged Rotated
rotated k start count = Judged.given (record { step = k; start = start; leaving = count })

-- "units 1 to 3, turnover 10 and R 500,000 each"
abbrev frame_tied : Frame
frame_tied = frame (1 ∷ 2 ∷ 3 ∷ []) (10 ∷ 10 ∷ 10 ∷ []) (500000 ∷ 500000 ∷ 500000 ∷ [])

-- Buffers hold 9 and 8, which no case answers: a refused call would leave them, and so fail its case.
pub record ReferenceTable : Type 0 where
  -- K1: q = 1, n = 2, X = 30 million; drawn 11, 13, 15, with the listing's weights
  k1_group : take_all_answer turnovers_a 3 marks ≡ taken 1 2 30000000
  k1_marks : take_all_marks turnovers_a 3 marks ≡ 1 ∷ 0 ∷ 0 ∷ 0 ∷ 0 ∷ 9 ∷ []
  k1_answer : draw_answer (frame_a 100000) 3 0 buffer buffer ≡ drawn 2 30000000
  k1_numbers : draw_numbers (frame_a 100000) 3 0 buffer buffer ≡ 11 ∷ 13 ∷ 15 ∷ 8 ∷ []
  k1_weights : draw_weights (frame_a 100000) 3 0 buffer buffer ≡ 140000000 ∷ 30000000 ∷ 30000000 ∷ 8 ∷ []
  -- K2: R of 15 set to 220,000
  k2_answer : draw_answer (frame_a 220000) 3 0 buffer buffer ≡ drawn 2 30000000
  k2_numbers : draw_numbers (frame_a 220000) 3 0 buffer buffer ≡ 11 ∷ 12 ∷ 13 ∷ 8 ∷ []
  -- K3: 20, 10, 10, z = 2: the first is take-all
  k3_group : take_all_answer (20 ∷ 10 ∷ 10 ∷ []) 2 marks ≡ taken 1 1 20
  k3_marks : take_all_marks (20 ∷ 10 ∷ 10 ∷ []) 2 marks ≡ 1 ∷ 0 ∷ 0 ∷ 9 ∷ 9 ∷ 9 ∷ []
  -- K4: 19, 11, 10: none is
  k4_group : take_all_answer (19 ∷ 11 ∷ 10 ∷ []) 2 marks ≡ taken 0 2 40
  k4_marks : take_all_marks (19 ∷ 11 ∷ 10 ∷ []) 2 marks ≡ 0 ∷ 0 ∷ 0 ∷ 9 ∷ 9 ∷ 9 ∷ []
  -- K5: one unit, z = 1: cut-off
  k5_group : take_all_answer (5 ∷ []) 1 marks ≡ taken 1 0 0
  k5_marks : take_all_marks (5 ∷ []) 1 marks ≡ 1 ∷ 9 ∷ 9 ∷ 9 ∷ 9 ∷ 9 ∷ []
  k5_weight : draw_weights (frame (7 ∷ []) (5 ∷ []) (0 ∷ [])) 1 0 buffer buffer ≡ 5 ∷ 9 ∷ 9 ∷ 8 ∷ []
  -- K6: old panel 13 and 15, old start 0, f = 500: k = 101, leaver 15, new panel 11, 12, 13; no births, with n' = 0 and X' = 0 and with K1's n and X
  k6_answer : rotation_answer (frame_a 100000) 3 0 (13 ∷ 15 ∷ []) 500 (born 0 0 []) buffer ≡ rotated 101 101000 1
  k6_leavers : rotation_leavers (frame_a 100000) 3 0 (13 ∷ 15 ∷ []) 500 (born 0 0 []) buffer ≡ 15 ∷ 9 ∷ 9 ∷ 8 ∷ []
  k6_previous : rotation_answer (frame_a 100000) 3 0 (13 ∷ 15 ∷ []) 500 (born 2 30000000 []) buffer ≡ rotated 101 101000 1
  k6_panel : draw_numbers (frame_a 100000) 3 101000 buffer buffer ≡ 11 ∷ 12 ∷ 13 ∷ 8 ∷ []
  -- K7, K8: the C and the Q figure of the listing, whose output is exact
  k7_k8 : output stream_a ≡ lines_a
  -- "Here D is 1,063,800,000"; its denominator is not 0
  k8_direct : numerator direct_a (100000 ∷ 100000 ∷ 101000 ∷ []) ≡ 1063800000 * denominator direct_a (100000 ∷ 100000 ∷ 101000 ∷ [])
  k8_defined : ltb 0 (denominator direct_a (100000 ∷ 100000 ∷ 101000 ∷ [])) ≡ true
  -- K9: z = 1, start 0: unit 1 (equal keys, lower number first)
  k9_answer : draw_answer frame_tied 1 0 buffer buffer ≡ drawn 1 30
  k9_numbers : draw_numbers frame_tied 1 0 buffer buffer ≡ 1 ∷ 9 ∷ 9 ∷ 8 ∷ []
  -- K10 ([5]): relative 24,999 refused by 13, 25,000 taken
  k10_refused : call_answer one_unit (Call.quarter (24999 ∷ [])) ≡ Judged.refused 13
  k10_taken : call_answer one_unit (Call.quarter (25000 ∷ [])) ≡ Judged.given 250000000
  -- K11
  k11 : total_answer (600000 ∷ 400000 ∷ []) (1062000000 ∷ 1000000000 ∷ []) ≡ Judged.given 1037200000

pub reference_table : ReferenceTable
unfolding ◌or◌ ◌and◌ outside refuse ◌then◌ sum products scaled any_of any_pair rises_from rising elem
    sum_of count by_key rank firsts listed least_from put ordered
    more_turnover larger largest rest_without reaches_rest fits take_all_size rest_turnover take_all_group base_weight bad_turnovers bad_size bad_count take_all_refusal take_all_answer take_all_marks
    shifted key_numerator key_denominator fraction_below key_below sampled_by drawn_by panel_numbers panel_weights bad_lists bad_random frame_refusal draw_refusal draw_answer draw_numbers_by draw_weights_by
    old_member within_previous joins member members required start_at leaves suffices least_step leavers short_leavers bad_old_panel bad_previous bad_births lists_refusal
    rotation_refusal rotation_answer_by rotation_leavers_by
    held bad_index bad_relative bad_weight bad_units bad_open_lists bad_base bad_shares open_input_refusal weight_refusal open_refusal open_record link figure_at bad_links broken call_input_refusal figure_refusal call_refusal call_answer
    exact_open panel_exact exact_moved direct_panel numerator denominator bad_sectors total_of total_answer
    big_endian operands_of width_of command_of reading_refusal reading rest_of digits_on decimal_on line_of line_of2 panel_lines
    empty_job with_unit on_unit with_panel on_draw place_refusal with_share on_share with_relative on_relative with_chain on_open step printed output
reference_table =
    record {
      k1_group = refl;
      k1_marks = refl;
      k1_answer = refl;
      k1_numbers = refl;
      k1_weights = refl;
      k2_answer = refl;
      k2_numbers = refl;
      k3_group = refl;
      k3_marks = refl;
      k4_group = refl;
      k4_marks = refl;
      k5_group = refl;
      k5_marks = refl;
      k5_weight = refl;
      k6_answer = refl;
      k6_leavers = refl;
      k6_previous = refl;
      k6_panel = refl;
      k7_k8 = refl;
      k8_direct = refl;
      k8_defined = refl;
      k9_answer = refl;
      k9_numbers = refl;
      k10_refused = refl;
      k10_taken = refl;
      k11 = refl;
    }
