-- What demand 3 asks and allows, shown at the border by examples: it is a relation, which the tests cannot compute as they compute the other
-- definitions.
use mathlib.Core.Path.{◌≡◌, refl, ap}
use Prim.Native.Nat.{ℕ, suc, ◌+◌, ◌*◌}
use mathlib.Core.List.{List, [], ◌∷◌}
use native.Mathlib.Omega.{arith}
use lib.ListN.{length}
use borrow.Author.Tests.{ltb-true, leb-true}
use Rattle.rules.specs.Limits.{share_scale, relative_scale}
use Rattle.rules.specs.Lists.{sum, products, scaled}
use Rattle.rules.specs.Chain.{Chain, Call, after}
use Rattle.rules.specs.Panel.{plain}
use Rattle.rules.specs.Events.{Event, singles}
use Rattle.rules.specs.Direct.{Direct, exact_open, panel_exact, exact_moved, direct_panel, direct_open, numerator, denominator, direct_after, allowed, Within, AllWithin}
use Rattle.rules.proofs.Tests.{never}

-- with D = 10,000,000 a figure may be off by 22 for two floors, by 33 for three
pub above_within : Within 10000022 10000000 1 2
above_within = record { defined = omega arith; not_above = omega arith; not_below = omega arith }

pub below_within : Within 9999978 10000000 1 2
below_within = record { defined = omega arith; not_above = omega arith; not_below = omega arith }

pub above_outside : Within 10000023 10000000 1 2 → ⊥
above_outside w = omega (arith, w.not_above)

pub below_outside : Within 9999977 10000000 1 2 → ⊥
below_outside w = omega (arith, w.not_below)

-- one part in 10^13 beyond it, on either side: a scale that is smaller by one would let these in
pub just_above_outside : Within 10000022000001 10000000000000 1 2 → ⊥
just_above_outside w = omega (arith, w.not_above)

pub just_below_outside : Within 9999977999999 10000000000000 1 2 → ⊥
just_below_outside w = omega (arith, w.not_below)

pub later_within : Within 10000033 10000000 1 3
later_within = record { defined = omega arith; not_above = omega arith; not_below = omega arith }

pub later_outside : Within 10000034 10000000 1 3 → ⊥
later_outside w = omega (arith, w.not_above)

-- both sides are multiplied by D's denominator, which is not 0
pub same_ratio : Within 10000022 30000000 3 2
same_ratio = record { defined = omega arith; not_above = omega arith; not_below = omega arith }

pub undefined_outside : Within 0 0 0 2 → ⊥
undefined_outside w = omega (arith, w.defined)

-- "each e becomes e × p / 100,000, without rounding": the exact weight 1,000,001 × 9,999 × 100,001 is no multiple of 100,000, and D is 1,000,000,000 × 1.00001
-- to the last digit
abbrev up : ℕ
up = relative_scale + 1

abbrev unrounded : Direct
unrounded = direct_after (direct_open (plain (1000001 ∷ []) (9999 ∷ []) (up ∷ [])) 1000000000) (Call.close (up ∷ []))

abbrev ones : List ℕ
ones = relative_scale ∷ []

pub moved_exactly : numerator unrounded ones * relative_scale ≡ 1000000000 * up * denominator unrounded ones
unfolding direct_panel panel_exact exact_open exact_moved numerator denominator sum products scaled
moved_exactly = refl

-- D's start index is a fraction: with 7 over 2, and a price that stands still, D is 3.5
abbrev halved : Direct
halved = record { top = 7; bottom = 2; exact = exact_open (5 ∷ []) 1 ones; m = 1; extra = 1; closes = 0; left = 0 }

pub start_divided : 2 * numerator halved ones ≡ 7 * denominator halved ones
unfolding exact_open exact_moved numerator denominator sum products
start_divided = refl

-- ---- over a list of events
-- one unit whose price stands still, so that D is the start index, 10^9: a call may be off by 2,200 before the first close, by 3,300 after it
abbrev still : Direct
still = direct_open (plain (1000000 ∷ []) (share_scale ∷ []) ones) 1000000000

pub list_within : AllWithin still (Event.answered (Call.close ones) 1000002200 ∷ Event.answered (Call.quarter ones) 1000003300 ∷ [])
unfolding direct_panel panel_exact exact_open exact_moved numerator denominator sum products
list_within =
    let first : Within 1000002200 (numerator still ones) (denominator still ones) (allowed still) =
    record { defined = ltb-true _ _ refl; not_above = leb-true _ _ refl; not_below = leb-true _ _ refl } in
    let later = direct_after still (Call.close ones) in
    let second : Within 1000003300 (numerator later ones) (denominator later ones) (allowed later) =
    record { defined = ltb-true _ _ refl; not_above = leb-true _ _ refl; not_below = leb-true _ _ refl } in
    (first, (second, tt))

pub first_outside : (rest : List Event) → AllWithin still (Event.answered (Call.close ones) 1000002201 ∷ rest) → ⊥
unfolding direct_panel panel_exact exact_open exact_moved numerator denominator sum products
first_outside rest all = never _ _ refl all.0.not_above

pub second_outside : (f : ℕ) → AllWithin still (Event.answered (Call.close ones) f ∷ Event.answered (Call.quarter ones) 1000003301 ∷ []) → ⊥
unfolding direct_panel panel_exact exact_open exact_moved numerator denominator sum products
second_outside f all = never _ _ refl all.1.0.not_above

-- "A refused call has no D and changes nothing": the call after it is judged by the same weights and the same m
pub refused_passed : (d : Direct) (n f : ℕ) (qs : List ℕ) →
    AllWithin d (Event.refused n ∷ Event.answered (Call.quarter qs) f ∷ []) → Within f (numerator d qs) (denominator d qs) (allowed d)
refused_passed d n f qs all = all.0

-- a close "takes m as it stands", and the call after it the moved weights and one more
pub close_counted : (d : Direct) (f h : ℕ) (ps qs : List ℕ) →
    AllWithin d (Event.answered (Call.close ps) f ∷ Event.answered (Call.quarter qs) h ∷ []) →
    Within f (numerator d ps) (denominator d ps) (d.m + (d.left + d.extra))
    × Within h (numerator (direct_after d (Call.close ps)) qs) (denominator (direct_after d (Call.close ps)) qs) (suc d.m + (d.left + d.extra))
close_counted d f h ps qs all = (all.0, all.1.0)

-- there is an event for each call
pub every_call : (r : Chain) (calls : List Call) → length (singles r calls) ≡ length calls
unfolding singles
every_call r [] = refl
every_call r (call ∷ calls) = ap suc (every_call (after r call) calls)
