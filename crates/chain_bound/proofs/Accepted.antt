-- What an accepted open and an accepted call tell: the tests of document 01 that did not refuse, as facts about the numbers.
use mathlib.Core.Path.{◌≡◌, refl, ap, sym, ◌∙◌}
use Prim.Native.Nat.{ℕ, zero, suc, ◌*◌, ◌/◌, ◌≤◌, ◌<◌}
use mathlib.Core.Bool.{false, not}
use mathlib.Core.List.{List, [], ◌∷◌}
use native.Mathlib.Nat.{mul-le-mul_left}
use native.Mathlib.Omega.{arith}
use borrow.Author.Tests.{ltb-false, leb-false, eqb-true, not-false}
use lib.Dec.{ltb, eqb}
use lib.ListN.{length}
use Rattle.rules.specs.Limits.{share_scale, relative_scale, lowest_relative, highest_relative, least_weight, lowest_index, most_panel, most_closes}
use Rattle.rules.specs.Tests.{◌or◌, outside}
use Rattle.rules.specs.Lists.{sum, products, scaled, any_pair}
use Rattle.rules.specs.Chain.{Chain, Call, held, relatives, figure_of, shared, opening, bad_index, bad_relative, bad_weight, open_input_refusal}
use Rattle.rules.specs.Chain.{weight_refusal, open_refusal, call_input_refusal, new_weight_refusal, figure_refusal, call_refusal}
use Rattle.rules.specs.Panel.{outside_shared, bad_outside, bad_inner, outside_input_refusal, outside_refusal}
use Rattle.rules.proofs.Tests.{or_false, within}
use Rattle.rules.proofs.Refusals.{refuse_none, then_none}
use Rattle.rules.proofs.Chains.{openable, admitted}
use Rattle.rules.proofs.Panels.{length_each}
use Rattle.chain_bound.proofs.Weights.{Reached}

-- Of each place: the relative is 0 for an absent unit, whose mark is 0, and at least `low` for a present one.
pub data Fit (low : ℕ) : List ℕ → List ℕ → Type 0 where
  none : Fit low [] []
  absent : {marks ps : List ℕ} → Fit low marks ps → Fit low (0 ∷ marks) (0 ∷ ps)
  present : {mark p : ℕ} {marks ps : List ℕ} → low ≤ p → Fit low marks ps → Fit low (suc mark ∷ marks) (p ∷ ps)

-- a list fits itself: the shares are marks and factors at once
itself : (marks : List ℕ) → Fit 0 marks marks
itself [] = Fit.none
itself (zero ∷ marks) = Fit.absent (itself marks)
itself (suc mark ∷ marks) = Fit.present {p = suc mark} (omega arith) (itself marks)

-- 13 does not apply
fit : (marks ps : List ℕ) → length ps ≡ length marks → any_pair bad_relative marks ps ≡ false → Fit lowest_relative marks ps
unfolding any_pair bad_relative outside
fit [] [] l e = Fit.none
fit [] (p ∷ ps) l e = absurd (omega arith)
fit (mark ∷ marks) [] l e = absurd (omega arith)
fit (zero ∷ marks) (p ∷ ps) l e =
    let b : (not (eqb p 0) ≡ false) × (any_pair bad_relative marks ps ≡ false) = or_false _ _ e in
    let z : p ≡ 0 = eqb-true p 0 (not-false _ b.0) in
    rw z (Fit.absent (fit marks ps (omega arith) b.1))
fit (suc mark ∷ marks) (p ∷ ps) l e =
    let b : (ltb p lowest_relative or ltb highest_relative p ≡ false) × (any_pair bad_relative marks ps ≡ false) = or_false _ _ e in
    Fit.present (ltb-false p lowest_relative (or_false _ _ b.0).0) (fit marks ps (omega arith) b.1)

-- the mean relative is at least the lowest
pub mean_least : {low : ℕ} {vs ps : List ℕ} → Fit low vs ps → low * sum vs ≤ sum (products vs ps)
unfolding sum products
mean_least Fit.none = omega arith
mean_least (Fit.absent f) = omega (arith, mean_least f)
mean_least (Fit.present {mark = mark} low f) = omega (arith, mean_least f, mul-le-mul_left (suc mark) low)

-- 21 does not apply
reached : {low : ℕ} {marks ps : List ℕ} (s : ℕ) (vs : List ℕ) → length vs ≡ length marks → Fit low marks ps →
    any_pair bad_weight marks (scaled s vs ps) ≡ false → Reached least_weight s vs ps
unfolding any_pair bad_weight scaled
reached s [] l Fit.none e = Reached.none
reached s [] l (Fit.absent f) e = absurd (omega arith)
reached s [] l (Fit.present low f) e = absurd (omega arith)
reached s (v ∷ vs) l Fit.none e = absurd (omega arith)
reached s (v ∷ vs) l (Fit.absent f) e = Reached.absent (reached s vs (omega arith) f (or_false _ _ e).1)
reached s (v ∷ vs) l (Fit.present {p = p} {marks = marks} {ps = ps} low f) e =
    let b : (ltb (v * p / s) least_weight ≡ false) × (any_pair bad_weight marks (scaled s vs ps) ≡ false) = or_false _ _ e in
    Reached.present (ltb-false _ least_weight b.0) (reached s vs (omega arith) f b.1)

pub reached_length : {b s : ℕ} {vs ps : List ℕ} → Reached b s vs ps → length (scaled s vs ps) ≡ length ps
unfolding scaled
reached_length Reached.none = refl
reached_length (Reached.absent r) = ap suc (reached_length r)
reached_length (Reached.present left r) = ap suc (reached_length r)

-- ---- quarter and close
-- What an accepted call tells of the record and the relatives.
pub record Accepted (r : Chain) (ps : List ℕ) : Type 0 where
  pub weighted : 0 < sum (held r)
  pub links : r.links < most_closes
  pub few : r.closes < most_closes
  pub long : length ps ≡ r.units
  pub fits : Fit lowest_relative (held r) ps
  pub high : lowest_index ≤ figure_of r ps

-- 19, 9 and 13 do not apply, nor do 23 and 24
judged_call : (r : Chain) (ps : List ℕ) → length (held r) ≡ r.units → call_input_refusal r ps ≡ 0 → figure_refusal r ps ≡ 0 → Accepted r ps
unfolding figure_refusal bad_index
judged_call r ps full first last =
    let a = admitted r ps first in
    let p23 : _ = then_none _ _ last in
    let links = leb-false _ _ (refuse_none _ 23 p23.1) in
    record {
      weighted = a.sound.present;
      links = links;
      few = omega (arith, links, a.sound.linked);
      long = a.long;
      fits = fit _ _ (a.long ∙ sym full) a.relatives;
      high = (within _ _ _ (refuse_none _ 22 p23.0)).0;
    }

module _ (r : Chain) (full : length (held r) ≡ r.units) where
  pub accepted_call : (call : Call) → call_refusal r call ≡ 0 → Accepted r (relatives call)
  unfolding call_refusal
  accepted_call call e =
      let admits : _ = then_none _ _ e in
      judged_call r (relatives call) full admits.0 (then_none (new_weight_refusal r call) _ admits.1).1

  -- the new weights of an accepted close
  pub closed_reached : (ps : List ℕ) → call_refusal r (Call.close ps) ≡ 0 → Reached least_weight relative_scale (held r) ps
  unfolding call_refusal weight_refusal
  closed_reached ps e =
      let weights : _ = then_none _ _ (then_none _ _ (then_none _ _ e).1).0 in
      reached relative_scale (held r) refl (accepted_call (Call.close ps) e).fits (refuse_none _ 20 weights.0)

-- ---- open
-- What an accepted open tells of its u, whatever made them, and of its start index: the v reach the least weight, one for each unit.
pub record Opened (us rs : List ℕ) (start : ℕ) : Type 0 where
  pub started : lowest_index ≤ start
  pub updates : Reached least_weight relative_scale us rs
  pub long : length (opening us rs) ≡ length us

-- What it tells of the u of W and g: they reach it too, one for each W.
pub record Shared (ws gs : List ℕ) : Type 0 where
  pub shares : Reached least_weight share_scale ws gs
  pub long : length (shared ws gs) ≡ length ws
  pub most : length ws ≤ most_panel

-- 12 does not apply
started_high : (ws gs rs : List ℕ) (start : ℕ) → open_input_refusal ws gs rs start ≡ 0 → lowest_index ≤ start
unfolding open_input_refusal bad_index
started_high ws gs rs start e =
    let p11 : _ = then_none _ _ (then_none _ _ (then_none _ _ e).1).1 in
    (within _ _ _ (refuse_none _ 11 (then_none _ _ p11.1).0)).0

-- 9 to 13 do not apply, nor do 21 and 22 to the v of these u
opened_from : (ws gs rs us : List ℕ) (start : ℕ) → open_input_refusal ws gs rs start ≡ 0 → length us ≡ length ws → weight_refusal gs (opening us rs) ≡ 0 → Opened us rs start
unfolding weight_refusal
opened_from ws gs rs us start input long weights =
    let o = openable ws gs rs start input in
    let fits = fit gs rs (o.lists.relatives ∙ sym o.lists.shares) o.relatives in
    let v = reached relative_scale us (long ∙ sym o.lists.shares) fits (refuse_none _ 20 (then_none _ _ weights).0) in
    record {
      started = started_high ws gs rs start input;
      updates = v;
      long = reached_length v ∙ o.lists.relatives ∙ sym long;
    }

pub accepted_open : (ws gs rs : List ℕ) (start : ℕ) → open_refusal ws gs rs start ≡ 0 → Shared ws gs × Opened (shared ws gs) rs start
unfolding open_refusal
accepted_open ws gs rs start e =
    let input : _ = then_none _ _ e in
    let weights : _ = then_none _ _ input.1 in
    let o = openable ws gs rs start input.0 in
    let u = reached share_scale ws (sym o.lists.shares) (itself gs) (refuse_none _ 20 weights.0) in
    let units = reached_length u ∙ o.lists.shares in
    (record { shares = u; long = units; most = o.lists.most }, opened_from ws gs rs (shared ws gs) start input.0 units weights.1)

-- ---- open with an outside share
-- What it tells of the u of W, g, marks and an outside share: 29 does not apply, nor does 21 to the inner floor or a u.
pub record Outsided (domain : ℕ) (ms ws gs : List ℕ) : Type 0 where
  pub outside : bad_outside domain ms ws gs ≡ false
  pub inner : bad_inner domain ms ws ≡ false
  pub present : any_pair bad_weight gs (outside_shared domain ms ws gs) ≡ false
  pub long : length (outside_shared domain ms ws gs) ≡ length ws
  pub most : length ws ≤ most_panel

pub accepted_outside : (domain : ℕ) (ms ws gs rs : List ℕ) (start : ℕ) → outside_refusal domain ms ws gs rs start ≡ 0 →
    Outsided domain ms ws gs × Opened (outside_shared domain ms ws gs) rs start
unfolding outside_refusal outside_input_refusal outside_shared
accepted_outside domain ms ws gs rs start e =
    let input : _ = then_none _ _ e in
    let marks : _ = then_none _ _ input.0 in
    let lists : _ = then_none _ _ marks.1 in
    let inner : _ = then_none _ _ input.1 in
    let weights : _ = then_none _ _ inner.1 in
    let o = openable ws gs rs start lists.0 in
    let units = length_each _ ms ws gs (eqb-true _ _ (not-false _ (refuse_none _ 8 marks.0))) o.lists.shares in (
      record {
        outside = refuse_none _ 28 lists.1;
        inner = refuse_none _ 20 inner.0;
        present = refuse_none _ 20 weights.0;
        long = units;
        most = o.lists.most;
      },
      opened_from ws gs rs (outside_shared domain ms ws gs) start lists.0 units weights.1,
    )
