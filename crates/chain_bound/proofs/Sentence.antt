-- The sentences of documents 01 and 02 from the theorem: at every figure of a list D and the bound are those that `specs/Sentence.antt` spells out.
-- By the exact side after a list of events, field by field; the scales of the panels are a common factor of D's two sides.
use mathlib.Core.Path.{◌≡◌, refl, sym, ap, ◌∙◌}
use Prim.Native.Nat.{ℕ, zero, suc, ◌+◌, ◌*◌, ◌<◌}
use mathlib.Core.List.{List, [], ◌∷◌, ◌++◌, append-nil, append_assoc}
use native.Mathlib.Nat.{le_of_mul-le-mul_right}
use native.Mathlib.Omega.{arith}
use lib.ListN.{length, length-append}
use Rattle.rules.specs.Limits.{relative_scale}
use Rattle.rules.specs.Refusals.{Judged}
use Rattle.rules.specs.Lists.{sum, products}
use Rattle.rules.specs.Chain.{Chain, Call, relatives, open_answer}
use Rattle.rules.specs.Panel.{Panel, plain, panel_answer}
use Rattle.rules.specs.Events.{Event, Made, events}
use Rattle.rules.specs.Direct.{Direct, exact_open, exact_scale, panel_exact, exact_moved, direct_panel, direct_open, direct_after, direct_renewed}
use Rattle.rules.specs.Direct.{numerator, denominator, allowed, Within, AllWithin}
use Rattle.chain_bound.specs.Sentence.{Stay, Course, begun, closed_by, course_after, exact_of, exact_after, scale_after, times_tops, times_bottoms}
use Rattle.chain_bound.specs.Sentence.{direct_top, direct_bottom, m_of, extra_of, left_extra, allowance, OnePanel, closes_in, panel_top, panel_bottom, m_after}
use Rattle.chain_bound.proofs.Demand3.{demand3}

-- the exact side after a list of events
abbrev reckoned : Direct → List Event → Direct
reckoned d [] = d
reckoned d (Event.refused n ∷ rest) = reckoned d rest
reckoned d (Event.answered call f ∷ rest) = reckoned (direct_after d call) rest
reckoned d (Event.renewed p ∷ rest) = reckoned (direct_renewed d p) rest

-- what `AllWithin` says of a figure, wherever it stands
module _ (call : Call) (f : ℕ) (later : List Event) where
  within_at : (before : List Event) (d : Direct) → AllWithin d (before ++ Event.answered call f ∷ later) →
      let e = reckoned d before in Within f (numerator e (relatives call)) (denominator e (relatives call)) (allowed e)
  within_at [] d all = all.0
  within_at (Event.refused n ∷ before) d all = within_at before d all
  within_at (Event.answered earlier h ∷ before) d all = within_at before (direct_after d earlier) all.1
  within_at (Event.renewed p ∷ before) d all = within_at before (direct_renewed d p) all

-- ---- one close more
exact_more : (es : List ℕ) (closes : List (List ℕ)) (ps : List ℕ) → exact_after es (closes ++ ps ∷ []) ≡ products (exact_after es closes) ps
exact_more es [] ps = refl
exact_more es (qs ∷ closes) ps = exact_more (products es qs) closes ps

scale_more : (closes : List (List ℕ)) (ps : List ℕ) → scale_after (closes ++ ps ∷ []) ≡ scale_after closes * relative_scale
scale_more [] ps = refl
scale_more (qs ∷ closes) ps = omega (arith, scale_more closes ps)

-- a factor of the number is one of the product
tops_times : (x y : ℕ) (left : List Stay) → times_tops (x * y) left ≡ times_tops x left * y
tops_times x y [] = refl
tops_times x y (s ∷ left) = rw (tops_times x y left) (omega arith)

bottoms_times : (y : ℕ) (left : List Stay) → times_bottoms y left ≡ times_bottoms 1 left * y
bottoms_times y [] = omega arith
bottoms_times y (s ∷ left) = rw (bottoms_times y left) (omega arith)

-- ---- the exact side beside the panels
-- e and E of a panel are over this
abbrev scale_of : Panel → ℕ
scale_of p = exact_scale p.outside p.base p.shares * relative_scale

-- The exact side d after the panels c of a chain that began at `start`; the panels left have the common factor `factor` in D's two sides.
record Reckoned (start : ℕ) (c : Course) (d : Direct) : Type 0 where
  factor : ℕ
  top : d.top ≡ times_tops start c.left * factor
  bottom : d.bottom ≡ times_bottoms 1 c.left * factor
  weights : d.exact.weights ≡ exact_after (exact_of c.present.panel) c.present.closes
  scale : d.exact.scale ≡ scale_of c.present.panel * scale_after c.present.closes
  total : d.exact.total ≡ sum (exact_of c.present.panel)
  total_scale : d.exact.total_scale ≡ scale_of c.present.panel
  m : d.m ≡ m_of c
  extra : d.extra ≡ extra_of c.present.panel
  closes : d.closes ≡ length c.present.closes
  left : d.left ≡ left_extra c.left

reckoned_open : (start : ℕ) (p : Panel) → Reckoned start (begun [] p) (direct_open p start)
unfolding direct_panel panel_exact exact_open
reckoned_open start p =
    record {
      factor = 1;
      top = omega arith;
      bottom = refl;
      weights = refl;
      scale = omega arith;
      total = refl;
      total_scale = refl;
      m = refl;
      extra = refl;
      closes = refl;
      left = refl;
    }

module _ (start : ℕ) (c : Course) (d : Direct) (k : Reckoned start c d) where
  reckoned_close : (ps : List ℕ) → Reckoned start (closed_by ps c) (direct_after d (Call.close ps))
  unfolding exact_moved
  reckoned_close ps =
      let longer = length-append c.present.closes (ps ∷ []) in
      record {
        factor = k.factor;
        top = k.top;
        bottom = k.bottom;
        weights = rw (k.weights, exact_more (exact_of c.present.panel) c.present.closes ps);
        scale = rw (k.scale, scale_more c.present.closes ps) (omega arith);
        total = k.total;
        total_scale = k.total_scale;
        m = omega (arith, k.m, longer);
        extra = k.extra;
        closes = omega (arith, k.closes, longer);
        left = k.left;
      }

  reckoned_renewal : (p : Panel) → Reckoned start (begun (c.present ∷ c.left) p) (direct_renewed d p)
  unfolding direct_renewed direct_panel panel_exact exact_open
  reckoned_renewal p =
      record {
        factor = k.factor * scale_of c.present.panel;
        top = rw (k.top, k.weights, k.total_scale) (omega arith);
        bottom = rw (k.bottom, k.scale, k.total) (omega arith);
        weights = refl;
        scale = omega arith;
        total = refl;
        total_scale = refl;
        m = omega (arith, k.m);
        extra = refl;
        closes = refl;
        left = rw (k.left, k.closes, k.extra);
      }

reckoned_after : (before : List Event) (start : ℕ) (c : Course) (d : Direct) → Reckoned start c d → Reckoned start (course_after c before) (reckoned d before)
reckoned_after [] start c d k = k
reckoned_after (Event.refused n ∷ before) start c d k = reckoned_after before start c d k
reckoned_after (Event.answered (Call.quarter ps) f ∷ before) start c d k = reckoned_after before start c d k
reckoned_after (Event.answered (Call.close ps) f ∷ before) start c d k =
    reckoned_after before start (closed_by ps c) (direct_after d (Call.close ps)) (reckoned_close start c d k ps)
reckoned_after (Event.renewed p ∷ before) start c d k =
    reckoned_after before start (begun (c.present ∷ c.left) p) (direct_renewed d p) (reckoned_renewal start c d k p)

-- ---- D as a fraction with a common factor
some_left : (x k : ℕ) → 0 < x * k → 0 < x
some_left zero k p = absurd (omega arith)
some_left (suc x) k p = omega arith

some_right : (x k : ℕ) → 0 < x * k → 0 < k
some_right x zero p = absurd (omega arith)
some_right x (suc k) p = omega arith

within_reduced : {f n : ℕ} (num den k : ℕ) → Within f (num * k) (den * k) n → Within f num den n
within_reduced num den k w =
    let p = some_right den k w.defined in
    record {
      defined = some_left den k w.defined;
      not_above = le_of_mul-le-mul_right {k = k} (omega (arith, w.not_above)) p;
      not_below = le_of_mul-le-mul_right {k = k} (omega (arith, w.not_below)) p;
    }

module _ (start : ℕ) (c : Course) (d : Direct) (k : Reckoned start c d) where
  abbrev common : ℕ
  common = k.factor * scale_of c.present.panel

  numerator_is : (ps : List ℕ) → numerator d ps ≡ direct_top start c ps * common
  unfolding exact_moved numerator
  numerator_is ps =
      let moved = sum (products (exact_after (exact_of c.present.panel) c.present.closes) ps) in
      rw (k.top, k.weights, k.total_scale, tops_times start moved c.left) (omega arith)

  denominator_is : (ps : List ℕ) → denominator d ps ≡ direct_bottom c * common
  unfolding exact_moved denominator
  denominator_is ps =
      let own = scale_after c.present.closes * relative_scale * sum (exact_of c.present.panel) in
      rw (k.bottom, k.scale, k.total, bottoms_times own c.left) (omega arith)

  allowed_is : allowed d ≡ allowance c
  allowed_is = rw (k.m, k.left, k.extra)

pub sentence : (p : Panel) (start : ℕ) (before later : List Event) (call : Call) (f : ℕ) →
    AllWithin (direct_open p start) (before ++ Event.answered call f ∷ later) →
    let c = course_after (begun [] p) before in Within f (direct_top start c (relatives call)) (direct_bottom c) (allowance c)
sentence p start before later call f all =
    let w = within_at call f later before (direct_open p start) all in
    let c = course_after (begun [] p) before in
    let d = reckoned (direct_open p start) before in
    let k = reckoned_after before start (begun [] p) (direct_open p start) (reckoned_open start p) in
    within_reduced _ _ _ (rw (numerator_is start c d k (relatives call), denominator_is start c d k (relatives call), allowed_is start c d k) at w)

-- Of any open that is accepted, any quarters, closes, years and renewals after it, and any figure among what they come to.
pub demand3_sentence : (p : Panel) (start : ℕ) (r : Chain) → panel_answer p start ≡ Judged.given r →
    (list : List Made) (before later : List Event) (call : Call) (f : ℕ) → events r list ≡ before ++ Event.answered call f ∷ later →
    let c = course_after (begun [] p) before in Within f (direct_top start c (relatives call)) (direct_bottom c) (allowance c)
demand3_sentence p start r accepts list before later call f e = sentence p start before later call f (rw e at (demand3 p start r accepts list))

-- ---- one panel: documents 01 and 02 before [11]
abbrev stayed : Panel → List (List ℕ) → Course
stayed p closes = record { left = []; present = record { panel = p; closes = closes } }

one_panel : (before : List Event) (p : Panel) (closes : List (List ℕ)) → OnePanel before →
    course_after (stayed p closes) before ≡ stayed p (closes ++ closes_in before)
one_panel [] p closes one = ap (stayed p) (sym (append-nil closes))
one_panel (Event.refused n ∷ before) p closes one = one_panel before p closes one
one_panel (Event.answered (Call.quarter ps) f ∷ before) p closes one = one_panel before p closes one
one_panel (Event.answered (Call.close ps) f ∷ before) p closes one =
    one_panel before p (closes ++ ps ∷ []) one ∙ ap (stayed p) (append_assoc closes (ps ∷ []) (closes_in before))
one_panel (Event.renewed q ∷ before) p closes one = absurd one

-- The bound has m + 1, and m + 2 with an outside share ([7]).
pub demand3_panel : (p : Panel) (start : ℕ) (r : Chain) → panel_answer p start ≡ Judged.given r →
    (list : List Made) (before later : List Event) (call : Call) (f : ℕ) → events r list ≡ before ++ Event.answered call f ∷ later → OnePanel before →
    let closes = closes_in before in Within f (panel_top (exact_of p) start closes (relatives call)) (panel_bottom (exact_of p) closes) (m_after closes + extra_of p)
demand3_panel p start r accepts list before later call f e one =
    let w = rw (one_panel before p [] one) at (demand3_sentence p start r accepts list before later call f e) in
    let n : allowance (stayed p (closes_in before)) ≡ m_after (closes_in before) + extra_of p = omega arith in
    rw n at w

-- Document 01's own: without an outside share e is W × g × a, and the bound has m + 1.
pub demand3_plain : (ws gs rs : List ℕ) (start : ℕ) (r : Chain) → open_answer ws gs rs start ≡ Judged.given r →
    (list : List Made) (before later : List Event) (call : Call) (f : ℕ) → events r list ≡ before ++ Event.answered call f ∷ later → OnePanel before →
    let es = products (products ws gs) rs in
    let closes = closes_in before in
    Within f (panel_top es start closes (relatives call)) (panel_bottom es closes) (m_after closes + 1)
unfolding open_answer panel_answer
demand3_plain ws gs rs start r accepts = demand3_panel (plain ws gs rs) start r accepts
