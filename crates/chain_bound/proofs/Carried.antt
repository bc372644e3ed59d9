-- What is carried from call to call beside the exact side, and the bound that follows at each accepted call: a panel's part, times D's start index.
-- A weight has had n floors when a figure is reckoned, those of panels before this one among them, and the figure is within 11 × n ten-millionths of D.
use mathlib.Core.Path.{◌≡◌, refl, ap, subst}
use Prim.Native.Nat.{ℕ, zero, suc, ◌+◌, ◌*◌, ◌≤◌, ◌<◌}
use mathlib.Core.Bool.{false}
use mathlib.Core.List.{List}
use native.Mathlib.Nat.{mul-le-mul_left, mul-le-mul_right, mul-pos}
use native.Mathlib.Omega.{arith}
use Rattle.rules.specs.Limits.{relative_scale, least_weight, most_closes, bound_scale, bound_factor}
use Rattle.rules.specs.Chain.{Chain, Call, held, open_record, figure_of, broken, accepted}
use Rattle.rules.specs.Panel.{Panel, panel_shared, panel_refusal, panel_record}
use Rattle.rules.specs.Renewal.{with_links, renewed_record}
use Rattle.rules.specs.Direct.{Direct, panel_exact, exact_moved, mean_top, mean_bottom, extra_by, direct_panel, direct_after, if_closed, direct_renewed, numerator, denominator, allowed, Within}
use Rattle.rules.proofs.Chains.{sound}
use Rattle.chain_bound.specs.Losses.{parts, weight_loss, figure_loss, open_floors, most_shared, floors, settled_floors, most_floors}
use Rattle.chain_bound.proofs.Near.{Near}
use Rattle.chain_bound.proofs.Weights.{Reached}
use Rattle.chain_bound.proofs.Accepted.{Accepted}
use Rattle.chain_bound.proofs.Shares.{shares_near}
use Rattle.chain_bound.proofs.Panel.{Follows, follows_on, Beside, relinked, panel_opens, mean_defined, panel_figure, panel_closes}

-- ---- the bound from the losses
-- n floors of a weight lose 10 × n ten-millionths, and the bound allows 11 × n. On the upper side the rest makes up for counting the loss
-- in parts of F where the bound counts it in parts of D …
pub bound_above : (n f num : ℕ) → n ≤ most_floors → Near parts (weight_loss * n) f num → bound_scale * f ≤ bound_scale * num + bound_factor * n * num
bound_above n f num few near = omega (arith, mul-le-mul_left (bound_scale + bound_factor * n) near.holds, mul-le-mul_right (n * f) few)

-- … and on the lower side for the floors of c figures, where c ≤ n.
pub bound_below : (n c f num : ℕ) → c ≤ n → Near parts (weight_loss * n + figure_loss * c) num f → bound_scale * num ≤ bound_scale * f + bound_factor * n * num
bound_below n c f num few near = omega (arith, near.holds, mul-le-mul_right num few)

-- ---- from call to call
-- The record r beside the exact side d. Its panel began at the index `from`, which follows D's start index: `before` floors of weights and `earlier`
-- figures were lost till then, none at an open. Closes and links are counted alike on both sides, and the panels with a close are no more than the links.
pub record Carried (d : Direct) (r : Chain) : Type 0 where
  pub before : ℕ
  pub earlier : ℕ
  pub from : ℕ
  pub start : Follows before earlier d.top d.bottom 1 from
  pub bottom_positive : 0 < d.bottom
  pub panel : Beside (open_floors d.extra) d.exact from r
  pub counted : before + floors (open_floors d.extra) r.closes ≡ allowed d
  pub closed : d.closes ≡ r.closes
  pub linked : d.m ≡ suc r.links
  pub figures : earlier + r.closes ≡ r.links
  pub extra_few : d.extra ≤ most_shared
  pub left_few : d.left + if_closed r.closes d.extra ≤ most_shared * r.links

-- ---- a panel that is left
-- The floors that C has had in its weights, and what they add to the bound: nothing where the panel has no close.
abbrev settled : Direct → Chain → ℕ
settled d r = settled_floors (open_floors d.extra) r.closes

settled_few : (opening closes : ℕ) → settled_floors opening closes ≤ opening + closes
settled_few opening zero = omega arith
settled_few opening (suc closes) = omega arith

settled_is : (extra closes : ℕ) → settled_floors (open_floors extra) closes ≡ closes + if_closed closes extra
settled_is extra zero = refl
settled_is extra (suc closes) = omega arith

-- C follows D's start index times the panel's mean: the start index of D for the panel after it.
pub panel_left : (d : Direct) (r : Chain) (i : Carried d r) → r.links ≤ most_closes →
    Follows (i.before + settled d r) (i.earlier + r.closes) (d.top * mean_top d.exact) (d.bottom * mean_bottom d.exact) 1 r.index
panel_left d r i few =
    let most = settled_few (open_floors d.extra) r.closes in
    let earlier : i.before ≤ most_floors = omega (arith, i.counted, i.linked, i.left_few, i.extra_few) in
    follows_on earlier (omega (arith, most, i.extra_few, i.figures)) (omega (arith, i.figures)) i.start i.panel.settled

module _ (d : Direct) (r : Chain) (ps : List ℕ) (i : Carried d r) (a : Accepted r ps) where
  few : open_floors d.extra + most_closes ≤ most_floors
  few = omega (arith, i.extra_few)

  -- at most 40 links, and twice as many floors for the panels that have made them
  small : allowed d ≤ most_floors
  small = omega (arith, i.linked, i.left_few, i.extra_few, a.links)

  -- F follows D
  figure_direct : Follows (i.before + floors (open_floors d.extra) r.closes) (i.earlier + suc r.closes)
      (numerator d ps) (denominator d ps) 1 (figure_of r ps)
  unfolding numerator denominator
  figure_direct =
      let figure = panel_figure (open_floors d.extra) few d.exact i.from r ps i.panel a in
      follows_on (omega (arith, i.counted, small)) (omega (arith, i.counted, small)) (omega (arith, a.few)) i.start figure

  direct_defined : 0 < denominator d ps
  unfolding denominator exact_moved
  direct_defined =
      mul-pos i.bottom_positive (omega (arith, mean_defined i.panel a.weighted (omega (arith, a.few))))

  -- the bound of an accepted call, quarter or close
  pub call_within : Within (figure_of r ps) (numerator d ps) (denominator d ps) (allowed d)
  call_within =
      subst (λ (n : ℕ). Within (figure_of r ps) (numerator d ps) (denominator d ps) n) i.counted
      (record {
        defined = direct_defined;
        not_above = bound_above _ _ _ (omega (arith, i.counted, small)) (omega (arith, figure_direct.grown.above));
        not_below =
            bound_below _ (i.earlier + suc r.closes) _ _ (omega (arith, i.counted, i.linked, i.figures)) (omega (arith, figure_direct.grown.below));
      })

  -- what an accepted close carries on
  pub close_carried : Reached least_weight relative_scale (held r) ps → Carried (direct_after d (Call.close ps)) (accepted r (Call.close ps))
  close_carried reached =
      record {
        before = i.before;
        earlier = i.earlier;
        from = i.from;
        start = i.start;
        bottom_positive = i.bottom_positive;
        panel = panel_closes (open_floors d.extra) few d.exact i.from r ps i.panel a reached;
        counted = omega (arith, i.counted);
        closed = ap suc i.closed;
        linked = ap suc i.linked;
        figures = omega (arith, i.figures);
        extra_few = i.extra_few;
        left_few = omega (arith, i.left_few, i.extra_few);
      }

-- ---- a new panel
-- The record of an accepted opening beside a new panel of D, whose start index it follows: at an open, and at a renewal with so many links.
pub panel_carried : (p : Panel) (top bottom m left start links before earlier : ℕ) → panel_refusal p start ≡ 0 → 0 < bottom →
    Follows before earlier top bottom 1 start → before + 1 ≡ m + left → m ≡ suc links → earlier ≡ links → left ≤ most_shared * links →
    Carried (direct_panel top bottom m left p) (with_links links (panel_record p start))
unfolding direct_panel panel_exact open_record
panel_carried p top bottom m left start links before earlier e positive follows counted linked figures left_few =
    let o = shares_near p.outside p.base p.shares p.updates start e in
    let floored = open_floors (extra_by p.outside p.base) in
    record {
      before = before;
      earlier = earlier;
      from = start;
      start = follows;
      bottom_positive = positive;
      panel = relinked links (panel_opens (panel_shared p) p.updates start o.1 floored _ _ o.0.scale_positive (omega arith) o.0.tracks);
      counted = omega (arith, counted);
      closed = refl;
      linked = linked;
      figures = omega (arith, figures);
      extra_few = o.0.few;
      left_few = omega (arith, left_few);
    }

-- what an accepted renewal carries on: C follows D's start index for the new panel
pub renewal_carried : (d : Direct) (r : Chain) (p : Panel) → Carried d r → broken r ≡ false → panel_refusal p r.index ≡ 0 →
    Carried (direct_renewed d p) (renewed_record r p)
unfolding direct_renewed renewed_record
renewal_carried d r p i whole e =
    let s = sound r whole in
    let closes = settled_is d.extra r.closes in
    let same : if_closed d.closes d.extra ≡ if_closed r.closes d.extra = ap (λ (n : ℕ). if_closed n d.extra) i.closed in
    panel_carried p _ _ d.m _ r.index r.links (i.before + settled d r) (i.earlier + r.closes) e
    (mul-pos i.bottom_positive (mean_defined i.panel s.present s.closes))
    (panel_left d r i s.links)
    (omega (arith, i.counted, closes, same))
    i.linked
    i.figures
    (omega (arith, i.left_few, same))
