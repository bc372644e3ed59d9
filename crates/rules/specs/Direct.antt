-- Document 01, demand 3, with document 02's [7] and [11]: the exact direct index D, "reckoned beside them from the arguments of the open, the relatives of
-- the calls and which calls document 01 refuses, never from the chain record".
use Rattle.std.specs.Prelude.{ℕ, zero, suc, ◌+◌, ◌*◌, ◌≤◌, ◌<◌, List, [], ◌∷◌}
use Rattle.rules.specs.Limits.{share_scale, relative_scale, bound_scale, bound_factor}
use Rattle.rules.specs.Lists.{sum, products}
use Rattle.rules.specs.Chain.{Call, relatives}
use Rattle.rules.specs.Panel.{Outside, Panel, sampled_size, sampled_shares, outside_whole, each_unit}
use Rattle.rules.specs.Events.{Event}

-- ---- a panel's exact weights
-- The exact weights e are `weights` over `scale`, and E is `total` over `total_scale`.
pub record Exact : Type 0 where
  pub weights : List ℕ
  pub scale : ℕ
  pub total : ℕ
  pub total_scale : ℕ

-- "each unit's exact weight e is its exact opening weight, E is the sum of all e": u without its floor is `us` over `scale`, and e is u × a / 100,000
unfoldable pub exact_open : List ℕ → ℕ → List ℕ → Exact
exact_open us scale rs =
    record {
      weights = products us rs;
      scale = scale * relative_scale;
      total = sum (products us rs);
      total_scale = scale * relative_scale;
    }

-- [7]: "the exact opening weight of a sampled unit is n × X × G × g × a / T over the same scale as take-all". T is the common denominator; with no
-- sampled unit there is none, and it counts as 1.
abbrev pub divisor_by : ℕ → ℕ → ℕ
divisor_by zero t = 1
divisor_by (suc n) t = t

abbrev pub divisor : List ℕ → List ℕ → List ℕ → ℕ
divisor ms ws gs = divisor_by (sampled_size ms ws) (sampled_shares ms gs)

-- W × g and n × X × G × g / T, each times T
abbrev pub exact_unit : ℕ → ℕ → ℕ → ℕ → ℕ → ℕ
exact_unit whole t zero w g = w * g * t
exact_unit whole t (suc mark) w g = whole * g

-- a panel's u without their floors …
abbrev pub exact_shared : Outside → List ℕ → List ℕ → List ℕ
exact_shared Outside.none ws gs = products ws gs
exact_shared (Outside.share domain ms) ws gs = each_unit (exact_unit (outside_whole domain ms ws) (divisor ms ws gs)) ms ws gs

-- … over 10,000, and over 10,000 × T
abbrev pub exact_scale : Outside → List ℕ → List ℕ → ℕ
exact_scale Outside.none ws gs = share_scale
exact_scale (Outside.share domain ms) ws gs = share_scale * divisor ms ws gs

unfoldable pub panel_exact : Panel → Exact
panel_exact p = exact_open (exact_shared p.outside p.base p.shares) (exact_scale p.outside p.base p.shares) p.updates

-- "each e becomes e × p / 100,000, without rounding" ([5])
unfoldable pub exact_moved : Exact → List ℕ → Exact
exact_moved x ps =
    record {
      weights = products x.weights ps;
      scale = x.scale * relative_scale;
      total = x.total;
      total_scale = x.total_scale;
    }

-- the panel's mean, the sum of all e over E, as numerator and denominator
abbrev pub mean_top : Exact → ℕ
mean_top x = sum x.weights * x.total_scale

abbrev pub mean_bottom : Exact → ℕ
mean_bottom x = x.scale * x.total

-- ---- D
-- `top` over `bottom` is "the first start index times the product of the panels' means", of the panels that were left ([11]). `extra` is what the present
-- panel adds to m in the bound, and `closes` are its accepted closes; `left` is what the panels left add.
pub record Direct : Type 0 where
  pub top : ℕ
  pub bottom : ℕ
  pub exact : Exact
  pub m : ℕ
  pub extra : ℕ
  pub closes : ℕ
  pub left : ℕ

-- [7]: "the bound has m + 2 where it had m + 1", for an opening with a sampled unit: with none it is the opening without G
abbrev pub extra_for : ℕ → ℕ
extra_for zero = 1
extra_for (suc n) = 2

abbrev pub extra_by : Outside → List ℕ → ℕ
extra_by Outside.none ws = 1
extra_by (Outside.share domain ms) ws = extra_for (sampled_size ms ws)

-- a new panel: the exact opening weight is W × g × a / 1,000,000,000 ([5])
unfoldable pub direct_panel : ℕ → ℕ → ℕ → ℕ → Panel → Direct
direct_panel top bottom m left p =
    record { top = top; bottom = bottom; exact = panel_exact p; m = m; extra = extra_by p.outside p.base; closes = 0; left = left }

-- "the start index given to the open"; "m is 1"
abbrev pub direct_open : Panel → ℕ → Direct
direct_open p start = direct_panel start 1 1 0 p

-- "D is the start index given to the open × the sum of (e × p / 100,000) / E", and after renewals "the first start index times the product of the panels'
-- means (each panel's direct index without its start index)" ([11]), as numerator and denominator
unfoldable pub numerator : Direct → List ℕ → ℕ
numerator d ps = d.top * mean_top (exact_moved d.exact ps)

unfoldable pub denominator : Direct → List ℕ → ℕ
denominator d ps = d.bottom * mean_bottom (exact_moved d.exact ps)

-- Quarter: "Nothing changes." Close: "each e becomes e × p / 100,000, … and m grows by one."
abbrev pub direct_after : Direct → Call → Direct
direct_after d (Call.quarter ps) = d
direct_after d (Call.close ps) =
    record {
      top = d.top;
      bottom = d.bottom;
      exact = exact_moved d.exact ps;
      m = suc d.m;
      extra = d.extra;
      closes = suc d.closes;
      left = d.left;
    }

-- "one (two with an outside share) for each panel that has an accepted close": the present panel's, if it has one
abbrev pub if_closed : ℕ → ℕ → ℕ
if_closed zero extra = 0
if_closed (suc closes) extra = extra

-- Renewal: "Of a panel that was left, only its accepted closes enter the product"; m is "the number of accepted closes of all panels before this call, plus one".
unfoldable pub direct_renewed : Direct → Panel → Direct
direct_renewed d p =
    direct_panel (d.top * mean_top d.exact) (d.bottom * mean_bottom d.exact) d.m (d.left + if_closed d.closes d.extra) p

-- ---- the bound
-- m + 1, or m + 2 with an outside share; "where the bound has m + 1 it has m plus one (two with an outside share) for each panel that has an accepted close
-- or gives the figure" ([11])
abbrev pub allowed : Direct → ℕ
allowed d = d.m + (d.left + d.extra)

-- 10,000,000 × |F − D| ≤ 11 × (m + 1) × D, both sides multiplied by D's denominator; `floors` stands for m + 1 and for what [7] and [11] have in its place
pub record Within (figure num den floors : ℕ) : Type 0 where
  pub defined : 0 < den
  pub not_above : bound_scale * (figure * den) ≤ bound_scale * num + bound_factor * floors * num
  pub not_below : bound_scale * num ≤ bound_scale * (figure * den) + bound_factor * floors * num

-- Over the whole list every figure is within the bound; "A refused call has no D and changes nothing."
abbrev pub AllWithin : Direct → List Event → Type 0
AllWithin d [] = Unit
AllWithin d (Event.refused n ∷ rest) = AllWithin d rest
AllWithin d (Event.answered call f ∷ rest) =
    Within f (numerator d (relatives call)) (denominator d (relatives call)) (allowed d) × AllWithin (direct_after d call) rest
AllWithin d (Event.renewed p ∷ rest) = AllWithin (direct_renewed d p) rest
