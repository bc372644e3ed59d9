-- The theorem on numbers: what it says of the listing of document 01 and of forty closes, why its bound has m + 1, and which wrong
-- programs it rules out. All by computing the definitions.
use mathlib.Core.Path.{◌≡◌, refl}
use Prim.Native.Nat.{ℕ, zero, suc, ◌*◌, ◌≤◌}
use mathlib.Core.List.{List, [], ◌∷◌, ◌++◌}
use native.Mathlib.Nat.{le_trans, le_refl, add-le-add, mul-le-mul_left, mul-le-mul_right}
use native.Mathlib.Decide.{dec_le}
use native.Mathlib.Omega.{arith}
use lib.ListN.{replicate}
use Rattle.rules.specs.Limits.{bound_scale}
use Rattle.rules.specs.Tests.{◌or◌, outside}
use Rattle.rules.specs.Refusals.{Judged, refuse, ◌then◌}
use Rattle.rules.specs.Lists.{sum, products, scaled, any_of, any_pair}
use Rattle.rules.specs.Chain.{Chain, Call, relatives, held, shared, bad_index, bad_relative, bad_weight, bad_units, bad_open_lists, bad_base, bad_shares, open_input_refusal, weight_refusal}
use Rattle.rules.specs.Chain.{open_refusal, open_record, open_answer, link, figure_at, bad_links, broken, call_input_refusal, figure_refusal, call_refusal, call_answer, after}
use Rattle.rules.specs.Panel.{plain, panel_answer}
use Rattle.rules.specs.Events.{Event, Made, event_of, singles, events}
use Rattle.rules.specs.Direct.{Direct, exact_open, panel_exact, exact_moved, direct_panel, direct_open, numerator, denominator, Within, AllWithin}
use Rattle.rules.proofs.Tests.{never}
use Rattle.chain_bound.specs.Sentence.{closes_in, panel_top, panel_bottom}
use Rattle.chain_bound.proofs.Demand3.{demand3_calls}

-- ---- the listing: each relative ten times document 01's ([5]): 100,000 each, open at 1,000,000,000, 105,000, 98,000, 120,000, close, …, quarter
abbrev ws : List ℕ
ws = 140000000 ∷ 30000000 ∷ 30000000 ∷ []

abbrev wholes : List ℕ
wholes = 10000 ∷ 10000 ∷ 10000 ∷ []

abbrev ones : List ℕ
ones = 100000 ∷ 100000 ∷ 100000 ∷ []

abbrev start : ℕ
start = 1000000000

abbrev first_close : Call
first_close = Call.close (105000 ∷ 98000 ∷ 120000 ∷ [])

abbrev last_quarter : Call
last_quarter = Call.quarter (100000 ∷ 100000 ∷ 101000 ∷ [])

abbrev listing : List Call
listing = first_close ∷ last_quarter ∷ []

-- the record that the listing's open answers, and the exact weights beside it
abbrev record₀ : Chain
record₀ = open_record (shared ws wholes) ones start

abbrev direct₀ : Direct
direct₀ = direct_open (plain ws wholes ones) start

-- ---- an open whose two floors both lose nearly 1 of a weight of a million
abbrev low_base : List ℕ
low_base = 10009999999 ∷ 4000000 ∷ []

abbrev low_shares : List ℕ
low_shares = 1 ∷ 10000 ∷ []

abbrev low_updates : List ℕ
low_updates = 100100 ∷ 100000 ∷ []

abbrev low_direct : Direct
low_direct = direct_open (plain low_base low_shares low_updates) start

-- the relatives pull the two units as far apart as they may
abbrev apart : List ℕ
apart = 400000 ∷ 25000 ∷ []

-- ---- a program whose second close answers well and hands back its record untouched: the quarter after it is answered from there again
abbrev second_close : Call
second_close = Call.close (120000 ∷ 100000 ∷ 100000 ∷ [])

abbrev record₁ : Chain
record₁ = after record₀ first_close

-- ---- what the calls come to
pub record Answered : Type 0 where
  pub listing_opens : open_answer ws wholes ones start ≡ Judged.given record₀
  pub listing_events : singles record₀ listing ≡ Event.answered first_close 1062000000 ∷ Event.answered last_quarter 1063799994 ∷ []
  -- a relative of 24,999 between the listing's two calls
  pub listing_refused : singles record₀ (first_close ∷ Call.close (24999 ∷ 100000 ∷ 100000 ∷ []) ∷ last_quarter ∷ []) ≡
      Event.answered first_close 1062000000 ∷ Event.refused 13 ∷ Event.answered last_quarter 1063799994 ∷ []
  -- forty closes answer figures; after them a close and a quarter are refused by 24, not earlier
  pub forty_closes : singles record₀ (replicate 40 (Call.close ones) ++ Call.close ones ∷ Call.quarter ones ∷ []) ≡
      replicate 40 (Event.answered (Call.close ones) 1000000000) ++ Event.refused 24 ∷ Event.refused 24 ∷ []
  pub low_opens : open_answer low_base low_shares low_updates start ≡ Judged.given (open_record (shared low_base low_shares) low_updates start)
  pub low_events : singles (open_record (shared low_base low_shares) low_updates start) (Call.quarter apart ∷ []) ≡ Event.answered (Call.quarter apart) 1001198920 ∷ []
  pub stopped_events : event_of first_close (call_answer record₀ first_close) ∷ event_of second_close (call_answer record₁ second_close)
      ∷ event_of last_quarter (call_answer record₁ last_quarter) ∷ [] ≡
      Event.answered first_close 1062000000 ∷ Event.answered second_close 1208999990 ∷ Event.answered last_quarter 1063799994 ∷ []

pub answered : Answered
unfolding ◌or◌ outside refuse ◌then◌ sum products scaled any_of any_pair held bad_index bad_relative bad_weight bad_units bad_open_lists bad_base bad_shares
    open_input_refusal weight_refusal open_refusal open_record open_answer link figure_at bad_links broken call_input_refusal figure_refusal call_refusal call_answer after singles
answered =
    record {
      listing_opens = refl;
      listing_events = refl;
      listing_refused = refl;
      forty_closes = refl;
      low_opens = refl;
      low_events = refl;
      stopped_events = refl;
    }

-- what the theorem says of the listing's two figures
pub listing_within : AllWithin direct₀ (Event.answered first_close 1062000000 ∷ Event.answered last_quarter 1063799994 ∷ [])
unfolding open_answer panel_answer
listing_within = rw answered.listing_events at (demand3_calls (plain ws wholes ones) start record₀ answered.listing_opens listing)

-- "Here D is 1,063,800,000": the last quarter's, spelt out
abbrev es : List ℕ
es = products (products ws wholes) ones

abbrev closed : List (List ℕ)
closed = closes_in (Event.answered first_close 1062000000 ∷ [])

pub listing_direct : panel_top es start closed (relatives last_quarter) ≡ 1063800000 * panel_bottom es closed
unfolding sum products
listing_direct = refl

-- "A refused call … changes nothing"
pub refused_changes_nothing : (r : Chain) (call : Call) (list : List Made) (n : ℕ) → call_refusal r call ≡ suc n →
    events r (Made.call call ∷ list) ≡ Event.refused (suc n) ∷ events r list
unfolding events singles call_answer after
refused_changes_nothing r call list n e = rw e

-- ---- what the bound rules out
-- the bound cannot have m for m + 1
pub low_needs_m_plus_one : Within 1001198920 (numerator low_direct apart) (denominator low_direct apart) low_direct.m → ⊥
unfolding sum products exact_open panel_exact exact_moved direct_panel numerator denominator
low_needs_m_plus_one w = never _ _ refl w.not_below

-- "keeping old weights at close gives 1,063,593,000 in the last line"
pub old_weights_fall : AllWithin direct₀ (Event.answered first_close 1062000000 ∷ Event.answered last_quarter 1063593000 ∷ []) → ⊥
unfolding sum products exact_open panel_exact exact_moved direct_panel numerator denominator
old_weights_fall w = never _ _ refl w.1.0.not_below

-- one figure for every call
pub fixed_figure_falls : (f : ℕ) → AllWithin direct₀ (Event.answered first_close f ∷ Event.answered last_quarter f ∷ []) → ⊥
unfolding sum products exact_open panel_exact exact_moved direct_panel numerator denominator
fixed_figure_falls f w = go (dec_le f 1063000000)
  where
    go : Dec (f ≤ 1063000000) → ⊥
    go (yes p) = never _ _ refl (le_trans w.1.0.not_below (add-le-add (mul-le-mul_left bound_scale (mul-le-mul_right _ p)) (le_refl _)))
    go (no p) = let q : 1063000000 ≤ f = omega arith in never _ _ refl (le_trans (mul-le-mul_left bound_scale (mul-le-mul_right _ q)) w.0.not_above)

-- the program whose second close does not move its record
pub stopped_closes_fall : AllWithin direct₀ (event_of first_close (call_answer record₀ first_close) ∷ event_of second_close (call_answer record₁ second_close)
    ∷ event_of last_quarter (call_answer record₁ last_quarter) ∷ []) → ⊥
unfolding sum products exact_open panel_exact exact_moved direct_panel numerator denominator
stopped_closes_fall w = never _ _ refl (rw answered.stopped_events at w).1.1.0.not_below

-- A chain that only refuses has no figure to bound: it meets demand 3, and falls by demand 2, since its answers are not the defined ones.
pub only_refusals_within : (d : Direct) (times n : ℕ) → AllWithin d (replicate times (Event.refused n))
only_refusals_within d zero n = tt
only_refusals_within d (suc times) n = only_refusals_within d times n

pub only_refusals_fall : (n : ℕ) → singles record₀ listing ≡ replicate 2 (Event.refused n) → ⊥
only_refusals_fall n e = let z : ◌≡◌ {A = ℕ} 0 1 = cc answered.listing_events in omega arith
