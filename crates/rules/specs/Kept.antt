-- Document 02, [9], "Large firms that hover at the border"; 001, the end of section 4.2. ns are the unit numbers and ts the turnovers.
use Rattle.std.specs.Prelude.{ℕ, ◌-◌, ◌*◌, Bool, not, cond, List, length, get_or, ltb, leb, eqb}
use Rattle.rules.specs.Limits.{most_panel, threshold_scale}
use Rattle.rules.specs.Tests.{◌or◌, ◌and◌}
use Rattle.rules.specs.Refusals.{Judged, refuse, ◌then◌, judged, written}
use Rattle.rules.specs.Lists.{rising, elem}
use Rattle.rules.specs.Selection.{sum_of, count, firsts, listed, least_from}
use Rattle.rules.specs.TakeAll.{Group, Taken, turnover, larger, take_all_group, bad_turnovers, bad_size, bad_count}

-- "a threshold γ in thousandths … and the take-all lists of zero, one or two previous draws": an empty list is no list
pub record Keeping : Type 0 where
  pub threshold : ℕ
  pub first : List ℕ
  pub second : List ℕ

abbrev pub keeping : ℕ → List ℕ → List ℕ → Keeping
keeping threshold first second = record { threshold = threshold; first = first; second = second }

-- ---- who is kept. g is the group of the base search, so that n and X are the base search's for every unit.
-- "stands in one of those lists"
unfoldable pub in_previous : List ℕ → Keeping → ℕ → Bool
in_previous ns p i = elem (get_or ns i 0) p.first or elem (get_or ns i 0) p.second

-- "1,000 × n × turnover ≥ γ × X"
unfoldable pub near_border : List ℕ → Keeping → Group → ℕ → Bool
near_border ts p g i = leb (p.threshold * g.rest) (threshold_scale * (g.sample_size * turnover ts i))

-- "a sampled-stratum unit that stands in one of those lists, and for which 1,000 × n × turnover ≥ γ × X"
unfoldable pub candidate : List ℕ → List ℕ → Keeping → Group → ℕ → Bool
candidate ns ts p g i = not (g.takes_all i) and in_previous ns p i and near_border ts p g i

-- "is kept. At most n are kept, the largest first, equal turnovers by lower number."
unfoldable pub kept : List ℕ → List ℕ → Keeping → Group → ℕ → Bool
kept ns ts p g i = firsts (candidate ns ts p g) (larger ts) (length ts) g.sample_size i

-- "With these forced"
unfoldable pub forced : List ℕ → List ℕ → Keeping → Group → ℕ → Bool
forced ns ts p g i = g.takes_all i or kept ns ts p g i

-- ---- "the search goes on over the remaining units and places for the smallest further count, by the same inequality and the same cut-off": the search
-- of TakeAll over the units that `among` marks. The base search is the one over every unit with z places (proofs/Kept).
-- unit i is one of the q largest of them
unfoldable pub largest_among : (ℕ → Bool) → List ℕ → ℕ → ℕ → Bool
largest_among among ts q i = firsts among (larger ts) (length ts) q i

-- "let X be the turnover without the q largest units"
unfoldable pub rest_among : (ℕ → Bool) → List ℕ → ℕ → ℕ
rest_among among ts q = sum_of (λ i. among i and not (largest_among among ts q i)) (turnover ts) (length ts)

-- "the same inequality": places × turnover ≥ X, of one of them
unfoldable pub reaches_among : (ℕ → Bool) → List ℕ → ℕ → ℕ → ℕ → ℕ → Bool
reaches_among among ts places q rest i = among i and leb rest ((places - q) * turnover ts i)

-- it holds for at most q of them
unfoldable pub fits_among : (ℕ → Bool) → List ℕ → ℕ → ℕ → Bool
fits_among among ts places q = let rest = rest_among among ts q in leb (count (reaches_among among ts places q rest) (length ts)) q

-- "the smallest further count"; all places where no count fits
unfoldable pub size_among : (ℕ → Bool) → List ℕ → ℕ → ℕ
size_among among ts places = least_from (fits_among among ts places) places 0

-- "the same cut-off": X counts as 0 where no place is left
unfoldable pub rest_found_among : (ℕ → Bool) → List ℕ → ℕ → ℕ
rest_found_among among ts places = let q = size_among among ts places in cond (ltb q places) (rest_among among ts q) 0

unfoldable pub group_among : (ℕ → Bool) → List ℕ → ℕ → Group
group_among among ts places =
    let q = size_among among ts places in
    record { takes_all = largest_among among ts q; sample_size = places - q; rest = rest_found_among among ts places }

-- ---- the enlarged group
unfoldable pub further : List ℕ → List ℕ → Keeping → Group → Group
further ns ts p g = group_among (λ i. not (forced ns ts p g i)) ts (g.sample_size - count (kept ns ts p g) (length ts))

unfoldable pub enlarge : List ℕ → List ℕ → Keeping → Group → Group
enlarge ns ts p g =
    let more = further ns ts p g in
    record { takes_all = λ i. forced ns ts p g i or more.takes_all i; sample_size = more.sample_size; rest = more.rest }

-- "After the base search"
unfoldable pub enlarged_group : List ℕ → List ℕ → ℕ → Keeping → Group
enlarged_group ns ts z p = enlarge ns ts p (take_all_group ts z)

-- ---- refusal 30: "when γ is 0 or over 1,000, or a previous list is over 100 or not rising"
unfoldable pub bad_list : List ℕ → Bool
bad_list list = ltb most_panel (length list) or not (rising list)

unfoldable pub bad_keeping : Keeping → Bool
bad_keeping p = eqb p.threshold 0 or ltb threshold_scale p.threshold or bad_list p.first or bad_list p.second

unfoldable pub keeping_refusal : Keeping → ℕ
keeping_refusal p = refuse (bad_keeping p) 30

-- ---- The group as unit numbers, the list that a later draw takes (docs/DECISIONS.md, "The take-all list of a draw"): with no lists the base group, with
-- lists the enlarged one. A group has at most z units, so 6 asks for z places, as of a draw.
unfoldable pub take_all_units_refusal : List ℕ → List ℕ → ℕ → Keeping → List ℕ → ℕ
take_all_units_refusal ns ts z p buffer =
    refuse (not (eqb (length ns) (length ts)) or bad_count ts) 1
    then refuse (not (rising ns)) 2
    then refuse (bad_turnovers ts) 3
    then refuse (bad_size ts z) 5
    then refuse (ltb (length buffer) z) 6
    then keeping_refusal p

-- the count of its units, n and X
unfoldable pub take_all_units_answer : List ℕ → List ℕ → ℕ → Keeping → List ℕ → Judged Taken
take_all_units_answer ns ts z p buffer =
    let g = enlarged_group ns ts z p in
    judged (take_all_units_refusal ns ts z p buffer) (record { size = count g.takes_all (length ts); sample_size = g.sample_size; rest = g.rest })

-- their numbers, rising; places beyond them stay
unfoldable pub take_all_units : List ℕ → List ℕ → ℕ → Keeping → List ℕ → List ℕ
take_all_units ns ts z p buffer =
    written (take_all_units_refusal ns ts z p buffer) (listed (enlarged_group ns ts z p).takes_all (λ i. get_or ns i 0) (length ts)) buffer
