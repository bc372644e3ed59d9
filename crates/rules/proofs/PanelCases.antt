-- The opening with an outside share on numbers, by computing the definitions: where a small change of them would give another answer, and what the bound
-- adds to m.
use mathlib.Core.Path.{◌≡◌, refl}
use Prim.Native.Nat.{ℕ, ◌+◌, ◌*◌, ◌/◌}
use mathlib.Core.List.{List, [], ◌∷◌, ◌++◌}
use lib.ListN.{replicate}
use Rattle.rules.specs.Limits.{share_scale, relative_scale}
use Rattle.rules.specs.Tests.{◌or◌, outside}
use Rattle.rules.specs.Refusals.{refuse, ◌then◌}
use Rattle.rules.specs.Lists.{sum, products, scaled, any_of, any_pair}
use Rattle.rules.specs.Chain.{Call, held, opening, bad_index, bad_relative, bad_weight, bad_units, bad_open_lists, bad_base, bad_shares, open_input_refusal, weight_refusal, open_refusal, open_record, open_answer}
use Rattle.rules.specs.Chain.{link, figure_at, bad_links, broken, call_input_refusal, figure_refusal, call_refusal, call_answer, after}
use Rattle.rules.specs.Panel.{of_sampled, sampled_size, sampled_base, sampled_shares, outside_whole, each_unit, outside_shared, bad_outside, bad_inner, outside_input_refusal, outside_refusal, Panel, plain, with_domain, panel_shared, panel_refusal, panel_record, panel_answer}
use Rattle.rules.specs.Events.{Event, singles}
use Rattle.rules.specs.Direct.{Direct, exact_open, panel_exact, exact_moved, direct_panel, direct_open, direct_after, numerator, denominator, allowed}

abbrev start : ℕ
start = 1000000000

-- relatives of 1 for so many units
abbrev ones : ℕ → List ℕ
ones n = replicate n relative_scale

abbrev opened : Panel → List ℕ
opened p = opening (panel_shared p) p.updates

-- one sampled unit of three absent, beside a take-all one
abbrev absent : Panel
absent = with_domain 3000 (0 ∷ 1 ∷ 1 ∷ 1 ∷ []) (9000000 ∷ 6000000 ∷ 6000000 ∷ 6000000 ∷ []) (10000 ∷ 5000 ∷ 2500 ∷ 0 ∷ []) (ones 3 ++ 0 ∷ [])

-- two sampled units beside a take-all one
abbrev beside : Panel
beside = with_domain 8000 (0 ∷ 1 ∷ 9 ∷ []) (8000000 ∷ 4000000 ∷ 4000000 ∷ []) (10000 ∷ 5000 ∷ 5000 ∷ []) (ones 3)

-- no sampled unit, and a G that is not read
abbrev unread : ℕ → Panel
unread domain = with_domain domain (0 ∷ []) (4000000 ∷ []) (5000 ∷ []) (ones 1)

pub record Shares : Type 0 where
  -- n counts absent units
  absent_counted : opened absent ≡ 9000000 ∷ 3600000 ∷ 1800000 ∷ 0 ∷ []
  -- a mark that is not 0 is a sampled unit's: turned round, 6,400,000 and 2,000,000 twice
  marks : opened beside ≡ 8000000 ∷ 3200000 ∷ 3200000 ∷ []
  -- one inner floor, of the whole product: without it 1,836,093; with X × G floored before × n 2,916,082
  inner_floor : opened (with_domain 8800 (1 ∷ 1 ∷ []) (replicate 2 1815905) (5346 ∷ 7218 ∷ []) (ones 2)) ≡ 1359899 ∷ 1836092 ∷ []
  whole_product : opened (with_domain 9998 (1 ∷ 1 ∷ 1 ∷ []) (replicate 3 3333333) (9000 ∷ 8000 ∷ 7000 ∷ []) (ones 3)) ≡ 3749249 ∷ 3332666 ∷ 2916083 ∷ []
  -- G equal to the mean of g over the sample gives the weights of the opening without G
  mean_share : opened (with_domain 6250 (1 ∷ 1 ∷ []) (replicate 2 4000000) (5000 ∷ 7500 ∷ []) (ones 2)) ≡ opened (plain (replicate 2 4000000) (5000 ∷ 7500 ∷ []) (ones 2))
  -- "With no sampled unit G isn't read"
  none_0 : panel_answer (unread 0) start ≡ open_answer (4000000 ∷ []) (5000 ∷ []) (ones 1) start
  none_20000 : panel_answer (unread 20000) start ≡ open_answer (4000000 ∷ []) (5000 ∷ []) (ones 1) start
  -- 29 before 21, after 13 and 12; 9 for the marks alone
  differ : panel_refusal (with_domain 5000 (1 ∷ 1 ∷ []) (1000 ∷ 1001 ∷ []) (10000 ∷ 10000 ∷ []) (ones 2)) start ≡ 29
  relative_first : panel_refusal (with_domain 0 (1 ∷ []) (4000000 ∷ []) (10000 ∷ []) (0 ∷ [])) start ≡ 13
  index_first : panel_refusal (with_domain 0 (1 ∷ []) (4000000 ∷ []) (10000 ∷ []) (ones 1)) 0 ≡ 12
  unmarked : panel_refusal (with_domain 5000 [] (4000000 ∷ []) (10000 ∷ []) (ones 1)) start ≡ 9
  unshared : panel_refusal (with_domain 5000 (0 ∷ 1 ∷ []) (4000000 ∷ 4000000 ∷ []) (10000 ∷ 0 ∷ []) (relative_scale ∷ 0 ∷ [])) start ≡ 29
  whole : panel_refusal (with_domain 10000 (1 ∷ []) (4000000 ∷ []) (10000 ∷ []) (ones 1)) start ≡ 0
  over : panel_refusal (with_domain 10001 (1 ∷ []) (4000000 ∷ []) (10000 ∷ []) (ones 1)) start ≡ 29
  zeroed : panel_refusal (with_domain 0 (1 ∷ []) (4000000 ∷ []) (10000 ∷ []) (ones 1)) start ≡ 29
  least : panel_refusal (with_domain 2500 (1 ∷ []) (4000000 ∷ []) (10000 ∷ []) (ones 1)) start ≡ 0
  low : panel_refusal (with_domain 2499 (1 ∷ []) (4000000 ∷ []) (10000 ∷ []) (ones 1)) start ≡ 21

pub shares : Shares
unfolding ◌or◌ outside refuse ◌then◌ sum products scaled any_of any_pair bad_index bad_relative bad_weight bad_units bad_open_lists bad_base bad_shares open_input_refusal weight_refusal
    open_refusal open_record open_answer of_sampled sampled_size sampled_base sampled_shares outside_whole each_unit outside_shared bad_outside bad_inner outside_input_refusal outside_refusal panel_answer
shares =
    record {
      absent_counted = refl;
      marks = refl;
      inner_floor = refl;
      whole_product = refl;
      mean_share = refl;
      none_0 = refl;
      none_20000 = refl;
      differ = refl;
      relative_first = refl;
      index_first = refl;
      unmarked = refl;
      unshared = refl;
      whole = refl;
      over = refl;
      zeroed = refl;
      least = refl;
      low = refl;
    }

-- ---- the exact side
-- forty figures of a panel with an outside share, whose last two closes and quarter pull its units apart: F = 395,389,637 beside D = 395,404,809.90
abbrev hostile : Panel
hostile = with_domain 6781 (0 ∷ 1 ∷ 1 ∷ 1 ∷ []) (64000000 ∷ 992507 ∷ 992507 ∷ 992507 ∷ []) (10000 ∷ 4751 ∷ 4837 ∷ 0 ∷ []) (100000 ∷ 99999 ∷ 100000 ∷ 0 ∷ [])

abbrev closes : List Call
closes = replicate 37 (Call.close (100000 ∷ 99999 ∷ 100000 ∷ 0 ∷ [])) ++ replicate 2 (Call.close (25000 ∷ 400000 ∷ 100000 ∷ 0 ∷ []))

abbrev moving : List ℕ
moving = 100000 ∷ 200000 ∷ 50000 ∷ 0 ∷ []

abbrev apart : List ℕ
apart = 25000 ∷ 400000 ∷ 25000 ∷ 0 ∷ []

abbrev closed_by : Direct → List Call → Direct
closed_by d [] = d
closed_by d (call ∷ calls) = closed_by (direct_after d call) calls

abbrev pub last_figure : ℕ → List Event → ℕ
last_figure f [] = f
last_figure f (Event.refused n ∷ rest) = last_figure f rest
last_figure f (Event.answered call h ∷ rest) = last_figure h rest
last_figure f (Event.renewed p ∷ rest) = last_figure f rest

abbrev hostile_direct : Direct
hostile_direct = closed_by (direct_open hostile 400000000) closes

pub record Exacts : Type 0 where
  -- "m + 2 where it had m + 1": for a panel with a sampled unit alone
  sampled_allowed : allowed (direct_open beside start) ≡ 3
  unread_allowed : allowed (direct_open (unread 0) start) ≡ 2
  plain_allowed : allowed (direct_open (plain (4000000 ∷ []) (5000 ∷ []) (ones 1)) start) ≡ 2
  forty_allowed : allowed hostile_direct ≡ 42
  -- with no sampled unit T counts as 1: the exact weights are those of the opening without G; else the scale is 10,000 × T × 100,000
  unread_exact : panel_exact (unread 20000) ≡ panel_exact (plain (4000000 ∷ []) (5000 ∷ []) (ones 1))
  sampled_scale : (panel_exact beside).scale ≡ share_scale * 10000 * relative_scale
  -- D of the first panel is the mean of prices weighted by 9,000,000, 3,600,000 and 1,800,000
  absent_direct : numerator (direct_open absent start) moving * (14400000 * relative_scale)
      ≡ denominator (direct_open absent start) moving * (start * (9000000 * 100000 + 3600000 * 200000 + 1800000 * 50000))
  hostile_direct_lem : numerator hostile_direct apart * 100 / denominator hostile_direct apart ≡ 39540480989
  hostile_figure : last_figure 0 (singles (panel_record hostile 400000000) (closes ++ Call.quarter apart ∷ [])) ≡ 395389637

pub exacts : Exacts
unfolding ◌or◌ outside refuse ◌then◌ sum products scaled any_pair held bad_index bad_relative bad_weight bad_units weight_refusal open_record link figure_at bad_links broken call_input_refusal figure_refusal
    call_refusal call_answer after singles of_sampled sampled_size sampled_base sampled_shares outside_whole each_unit outside_shared exact_open panel_exact exact_moved direct_panel numerator denominator
exacts =
    record {
      sampled_allowed = refl;
      unread_allowed = refl;
      plain_allowed = refl;
      forty_allowed = refl;
      unread_exact = refl;
      sampled_scale = refl;
      absent_direct = refl;
      hostile_direct_lem = refl;
      hostile_figure = refl;
    }
