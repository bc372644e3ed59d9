-- Document 02, [7]; 001, formula 10: an opening that brings a domain share G from the national accounts, in ten-thousandths, beside the opening without.
-- "Unit by unit, whether it was sampled" is a mark: 0 for a take-all unit, any other number for a sampled one.
use Rattle.std.specs.Prelude.{ℕ, zero, suc, ◌*◌, ◌/◌, Bool, false, not, List, [], ◌∷◌, length, get_or, ltb, eqb}
use Rattle.rules.specs.Limits.{share_scale, least_weight}
use Rattle.rules.specs.Tests.{◌or◌}
use Rattle.rules.specs.Refusals.{Judged, refuse, ◌then◌, judged}
use Rattle.rules.specs.Lists.{sum, any_of}
use Rattle.rules.specs.Chain.{Chain, shared, open_input_refusal, open_weight_refusal, open_refusal, open_record}

-- ---- what the sampled units have
-- the numbers of a list that stand at sampled units
unfoldable pub of_sampled : List ℕ → List ℕ → List ℕ
of_sampled [] xs = []
of_sampled (mark ∷ ms) [] = []
of_sampled (zero ∷ ms) (x ∷ xs) = of_sampled ms xs
of_sampled (suc mark ∷ ms) (x ∷ xs) = x ∷ of_sampled ms xs

-- "n is then the count of sampled units": absent ones are among them
unfoldable pub sampled_size : List ℕ → List ℕ → ℕ
sampled_size ms ws = length (of_sampled ms ws)

-- "and X their W, alike for all": the first one's
unfoldable pub sampled_base : List ℕ → List ℕ → ℕ
sampled_base ms ws = get_or (of_sampled ms ws) 0 0

-- "Let T be the sum of g over sampled units."
unfoldable pub sampled_shares : List ℕ → List ℕ → ℕ
sampled_shares ms gs = sum (of_sampled ms gs)

-- ---- u
-- n × X × G
unfoldable pub outside_whole : ℕ → List ℕ → List ℕ → ℕ
outside_whole domain ms ws = sampled_size ms ws * sampled_base ms ws * domain

-- "floor(n × X × G / 10,000)"
abbrev pub inner_floor : ℕ → List ℕ → List ℕ → ℕ
inner_floor domain ms ws = outside_whole domain ms ws / share_scale

-- something of each unit, from its mark, its W and its g
unfoldable pub each_unit : (ℕ → ℕ → ℕ → ℕ) → List ℕ → List ℕ → List ℕ → List ℕ
each_unit f [] ws gs = []
each_unit f (mark ∷ ms) [] gs = []
each_unit f (mark ∷ ms) (w ∷ ws) [] = []
each_unit f (mark ∷ ms) (w ∷ ws) (g ∷ gs) = f mark w g ∷ each_unit f ms ws gs

-- "For a sampled unit u becomes floor(floor(n × X × G / 10,000) × g / T); a take-all unit keeps its u."
abbrev pub shared_unit : ℕ → ℕ → ℕ → ℕ → ℕ → ℕ
shared_unit inner t zero w g = w * g / share_scale
shared_unit inner t (suc mark) w g = inner * g / t

unfoldable pub outside_shared : ℕ → List ℕ → List ℕ → List ℕ → List ℕ
outside_shared domain ms ws gs = each_unit (shared_unit (inner_floor domain ms ws) (sampled_shares ms gs)) ms ws gs

-- ---- refusals
-- "when some unit is sampled and …"; "With no sampled unit G isn't read."
abbrev pub if_sampled : ℕ → Bool → Bool
if_sampled zero test = false
if_sampled (suc n) test = test

-- 29: "… G is 0 or over 10,000, T is 0, or sampled units differ in W"
unfoldable pub bad_outside : ℕ → List ℕ → List ℕ → List ℕ → Bool
bad_outside domain ms ws gs =
    if_sampled (sampled_size ms ws)
    (eqb domain 0
    or ltb share_scale domain
    or eqb (sampled_shares ms gs) 0
    or any_of (λ w. not (eqb w (sampled_base ms ws))) (of_sampled ms ws))

-- "The inner floor must also reach 1,000,000, else 21." This never decides alone (proofs/Panels.antt).
unfoldable pub bad_inner : ℕ → List ℕ → List ℕ → Bool
bad_inner domain ms ws = if_sampled (sampled_size ms ws) (ltb (inner_floor domain ms ws) least_weight)

-- "A list of marks of another length is refused by 9"; 29 is "judged after 13 and before 21"
unfoldable pub outside_input_refusal : ℕ → List ℕ → List ℕ → List ℕ → List ℕ → ℕ → ℕ
outside_input_refusal domain ms ws gs rs start =
    refuse (not (eqb (length ms) (length ws))) 9
    then open_input_refusal ws gs rs start
    then refuse (bad_outside domain ms ws gs) 29

-- then 21, of the inner floor and of u and v, and 22
unfoldable pub outside_refusal : ℕ → List ℕ → List ℕ → List ℕ → List ℕ → ℕ → ℕ
outside_refusal domain ms ws gs rs start =
    outside_input_refusal domain ms ws gs rs start
    then refuse (bad_inner domain ms ws) 21
    then open_weight_refusal gs (outside_shared domain ms ws gs) rs

-- ---- either opening
-- "An opening may bring G" and the marks. "The opening without G stays beside it."
pub data Outside : Type 0 where
  none : Outside
  share : ℕ → List ℕ → Outside

-- what an opening brings beside its start index: lists of W, shares g and updating relatives a, and perhaps an outside share
pub record Panel : Type 0 where
  pub base : List ℕ
  pub shares : List ℕ
  pub updates : List ℕ
  pub outside : Outside

abbrev pub plain : List ℕ → List ℕ → List ℕ → Panel
plain ws gs rs = record { base = ws; shares = gs; updates = rs; outside = none }

abbrev pub with_domain : ℕ → List ℕ → List ℕ → List ℕ → List ℕ → Panel
with_domain domain ms ws gs rs = record { base = ws; shares = gs; updates = rs; outside = share domain ms }

abbrev pub shared_by : Outside → List ℕ → List ℕ → List ℕ
shared_by none ws gs = shared ws gs
shared_by (share domain ms) ws gs = outside_shared domain ms ws gs

abbrev pub refusal_by : Outside → List ℕ → List ℕ → List ℕ → ℕ → ℕ
refusal_by none ws gs rs start = open_refusal ws gs rs start
refusal_by (share domain ms) ws gs rs start = outside_refusal domain ms ws gs rs start

-- a panel's u, its refusal, and the record of an accepted opening
abbrev pub panel_shared : Panel → List ℕ
panel_shared p = shared_by p.outside p.base p.shares

abbrev pub panel_refusal : Panel → ℕ → ℕ
panel_refusal p start = refusal_by p.outside p.base p.shares p.updates start

abbrev pub panel_record : Panel → ℕ → Chain
panel_record p start = open_record (panel_shared p) p.updates start

unfoldable pub panel_answer : Panel → ℕ → Judged Chain
panel_answer p start = judged (panel_refusal p start) (panel_record p start)
