-- Document 01, "Chain record", refusals 9 to 13, 19, 21 to 24, with document 02's [5] and the links of [11]; 001, formulas 18 and 20.
use Rattle.std.specs.Prelude.{ℕ, zero, suc, ◌-◌, ◌*◌, ◌/◌, Bool, false, not, List, ◌++◌, length, take, drop, replicate, leb, ltb, eqb}
use Rattle.rules.specs.Limits.{share_scale, relative_scale, lowest_relative, highest_relative, link_scale, least_weight, most_weight, lowest_index, highest_index, most_panel, most_closes}
use Rattle.rules.specs.Tests.{◌or◌, outside}
use Rattle.rules.specs.Refusals.{Judged, refuse, ◌then◌, judged, stays}
use Rattle.rules.specs.Lists.{sum, products, scaled, any_of, any_pair}

-- The chain record. `weights` has every place of the record; the units' v are the first `units` of them.
-- "The chain record gains the number of links (accepted closes) made in all" ([11]); `closes` are those of the present panel.
pub record Chain : Type 0 where
  pub weights : List ℕ
  pub units : ℕ
  pub index : ℕ
  pub closes : ℕ
  pub links : ℕ

-- the v of the units
unfoldable pub held : Chain → List ℕ
held r = take r.units r.weights

-- 12: "outside 10^8 to 10^10"
unfoldable pub bad_index : ℕ → Bool
bad_index c = outside lowest_index highest_index c

-- 13: "a relative out of range, 0 for a present unit, or not 0 for an absent one". The mark is 0 for an absent unit: its g at the open, its v later.
unfoldable pub bad_relative : ℕ → ℕ → Bool
bad_relative zero p = not (eqb p 0)
bad_relative (suc mark) p = outside lowest_relative highest_relative p

-- 21: "a present u or v below 1,000,000", by the same mark
unfoldable pub bad_weight : ℕ → ℕ → Bool
bad_weight zero w = false
bad_weight (suc mark) w = ltb w least_weight

-- 9: "unit lists empty, over 100": a number of units
unfoldable pub bad_units : ℕ → Bool
bad_units n = eqb n 0 or ltb most_panel n

-- ---- open
-- "u = floor(W × g / 10,000)"
abbrev pub shared : List ℕ → List ℕ → List ℕ
shared ws gs = scaled share_scale ws gs

-- "the opening weight is v = floor(u × a / 100,000)" ([5]), from the u
abbrev pub opening : List ℕ → List ℕ → List ℕ
opening us rs = scaled relative_scale us rs

-- 9: "… or unequal to each other"
unfoldable pub bad_open_lists : List ℕ → List ℕ → List ℕ → Bool
bad_open_lists ws gs rs = bad_units (length ws) or not (eqb (length gs) (length ws)) or not (eqb (length rs) (length ws))

-- 10: "a W of 0, or their sum over 10^13" ([5])
unfoldable pub bad_base : List ℕ → Bool
bad_base ws = any_of (λ w. eqb w 0) ws or ltb most_weight (sum ws)

-- 11: "a share over 10,000, or all 0"
unfoldable pub bad_shares : List ℕ → Bool
bad_shares gs = any_of (λ g. ltb share_scale g) gs or eqb (sum gs) 0

-- 9 to 13: lists of W, shares g and updating relatives a (here rs), and the start index
unfoldable pub open_input_refusal : List ℕ → List ℕ → List ℕ → ℕ → ℕ
open_input_refusal ws gs rs start =
    refuse (bad_open_lists ws gs rs) 9
    then refuse (bad_base ws) 10
    then refuse (bad_shares gs) 11
    then refuse (bad_index start) 12
    then refuse (any_pair bad_relative gs rs) 13

-- 21 and 22 of new weights v, "at open or after close": a mark of 0 is an absent unit
unfoldable pub weight_refusal : List ℕ → List ℕ → ℕ
weight_refusal marks vs =
    refuse (any_pair bad_weight marks vs) 21
    then refuse (ltb most_weight (sum vs)) 22

-- at the open 21 judges the u as well; a mark of 0 is an absent unit
abbrev pub open_weight_refusal : List ℕ → List ℕ → List ℕ → ℕ
open_weight_refusal marks us rs = refuse (any_pair bad_weight marks us) 21 then weight_refusal marks (opening us rs)

unfoldable pub open_refusal : List ℕ → List ℕ → List ℕ → ℕ → ℕ
open_refusal ws gs rs start = open_input_refusal ws gs rs start then open_weight_refusal gs (shared ws gs) rs

-- the record of an accepted open, from the u: places beyond the units hold 0
unfoldable pub open_record : List ℕ → List ℕ → ℕ → Chain
open_record us rs start =
    record {
      weights = opening us rs ++ replicate (most_panel - length us) 0;
      units = length us;
      index = start;
      closes = 0;
      links = 0;
    }

unfoldable pub open_answer : List ℕ → List ℕ → List ℕ → ℕ → Judged Chain
open_answer ws gs rs start = judged (open_refusal ws gs rs start) (open_record (shared ws gs) rs start)

-- ---- quarter and close, each with one relative p a unit
pub data Call : Type 0 where
  quarter : List ℕ → Call
  close : List ℕ → Call

abbrev pub relatives : Call → List ℕ
relatives (quarter ps) = ps
relatives (close ps) = ps

-- "V is the sum of v, N the sum of v × p. L = floor(N × 1,000 / V)" ([5])
unfoldable pub link : List ℕ → List ℕ → ℕ
link vs ps = sum (products vs ps) * link_scale / sum vs

-- "F = floor(C × L / 100,000,000)" (formula 18)
unfoldable pub figure_at : ℕ → List ℕ → List ℕ → ℕ
figure_at c vs ps = c * link vs ps / (link_scale * relative_scale)

abbrev pub figure_of : Chain → List ℕ → ℕ
figure_of r ps = figure_at r.index (held r) ps

-- "each v to floor(v × p / 100,000)" (formula 20, [5])
abbrev pub moved : Chain → List ℕ → List ℕ
moved r ps = scaled relative_scale (held r) ps

-- 19: "more than forty closes"; it "also meets a record with more than forty links, or with fewer links than closes" ([11])
unfoldable pub bad_links : ℕ → ℕ → Bool
bad_links closes links = ltb most_closes closes or ltb most_closes links or ltb links closes

-- 19, "before all else, a call handed a record that breaks a limit here"
unfoldable pub broken : Chain → Bool
broken r =
    bad_units r.units
    or bad_links r.closes r.links
    or bad_index r.index
    or any_pair bad_weight (held r) (held r)
    or eqb (sum (held r)) 0
    or ltb most_weight (sum (held r))

-- 19, 9 and 13, which quarter and close share
unfoldable pub call_input_refusal : Chain → List ℕ → ℕ
call_input_refusal r ps =
    refuse (broken r) 19
    then refuse (not (eqb (length ps) r.units)) 9
    then refuse (any_pair bad_relative (held r) ps) 13

-- 21 and 22 judge the new v of a close; a quarter has none
abbrev pub new_weight_refusal : Chain → Call → ℕ
new_weight_refusal r (quarter ps) = 0
new_weight_refusal r (close ps) = weight_refusal (held r) (moved r ps)

-- 24: "forty closes accepted (quarter too)", which "now counts links over all renewals" ([11])
abbrev pub spent : Chain → Bool
spent r = leb most_closes r.links

-- 23, "F outside 10^8 to 10^10", and 24
unfoldable pub figure_refusal : Chain → List ℕ → ℕ
figure_refusal r ps = refuse (bad_index (figure_of r ps)) 23 then refuse (spent r) 24

unfoldable pub call_refusal : Chain → Call → ℕ
call_refusal r call =
    call_input_refusal r (relatives call)
    then new_weight_refusal r call
    then figure_refusal r (relatives call)

-- "The answer is F"
unfoldable pub call_answer : Chain → Call → Judged ℕ
call_answer r call = judged (call_refusal r call) (figure_of r (relatives call))

-- Quarter: "the record is unchanged". Close: "sets C to F, each v to floor(v × p / 100,000), and counts one close", which is a link; other places stay.
abbrev pub accepted : Chain → Call → Chain
accepted r (quarter ps) = r
accepted r (close ps) =
    record {
      weights = moved r ps ++ drop r.units r.weights;
      units = r.units;
      index = figure_of r ps;
      closes = suc r.closes;
      links = suc r.links;
    }

-- the record after a call
unfoldable pub after : Chain → Call → Chain
after r call = stays (call_refusal r call) r (accepted r call)
