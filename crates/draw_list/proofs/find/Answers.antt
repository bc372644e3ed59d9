-- The search finds a bound; the check makes it one.
use native.Mathlib.Omega.{arith}
use Prim.Native.Nat.{◌<◌}
use Rattle.draw_list.proofs.Searched.{under_scaled, listed_whole, listed_count, listed_placed, is_found}
use Rattle.draw_list.proofs.find.Goals as goal

pub most_numerator-scale-requires : goal.most_numerator-scale-requires
most_numerator-scale-requires c =
    let list = c.collect-list in
    rw c.listed-units.ensures (listed_placed list.result (listed_whole list.ensures.within_frame (omega arith) list.ensures.listed))

pub parts_of-parts-requires-clause-units : goal.parts_of-parts-requires-clause-units
parts_of-parts-requires-clause-units c =
    let list = c.collect-list in
    let placed = listed_placed list.result (listed_whole list.ensures.within_frame (omega arith) list.ensures.listed) in
    rw c.listed-units.ensures (placed, omega (arith, listed_count list.result, list.result.few))

pub parts_of-parts-requires-clause-scaled : goal.parts_of-parts-requires-clause-scaled
parts_of-parts-requires-clause-scaled c = let num = c.most_numerator-scale.ensures in under_scaled num.0 num.1

pub is_checked-requires : goal.is_checked-requires
is_checked-requires c =
    let list = c.collect-list in
    let placed = listed_placed list.result (listed_whole list.ensures.within_frame (omega arith) list.ensures.listed) in
    rw c.listed-units.ensures (placed, omega (arith, listed_count list.result, list.result.few, c.parts_of-parts.ensures.0))

pub returns : goal.returns
returns c =
    let list = c.collect-list in
    let num = c.most_numerator-scale.ensures in
    let some : 0 < c.args.keyed.now.setting.n = omega arith in
    is_found _ (listed_whole list.ensures.within_frame (omega arith) list.ensures.listed) c.args.keyed.now.units (rw (← c.listed-units.ensures) (under_scaled num.0 num.1))
    (rw (← c.listed-units.ensures) c.parts_of-parts.ensures.1) (rw (← c.listed-units.ensures) (c.is_checked.ensures c.if-not-is_checked.false)) some
