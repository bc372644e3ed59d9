-- The units listed so far are the near ones of those looked at.
use native.Mathlib.Omega.{arith}
use Prim.Native.Nat.{◌+◌, ◌<◌}
use mathlib.Core.Path.{refl, sym, ap, ◌∙◌}
use lib.ListN.{length, length-set}
use Rattle.selection.proofs.Held.{held_none, held_not, held_more, held_same}
use Rattle.selection.proofs.Sums.{count_yes, count_grows}
use Rattle.draw_key.specs.Keyed.{over, size_of}
use Rattle.draw_bound.specs.Bound.{near}
use Rattle.draw_bound.proofs.Terms.{near_is, reach_low}
use Rattle.draw_list.proofs.collect.Goals.{then-is_near+else-count-ge-ROOM, else-is_near}
use Rattle.draw_list.proofs.collect.Goals as goal

pub units-init : goal.units-init
units-init c = (refl, omega arith, record { holds = held_none })

pub is_near-requires : goal.is_near-requires
is_near-requires c = reach_low c.key.ensures c.reach_of-reach.ensures c.args.keyed.now.units c.units-test.true

pub units-preserved : goal.units-preserved
units-preserved c =
    let at = c.units in
    let inv = at.invariant in
    let test = near_is c.key.ensures c.reach_of-reach.ensures ∙ sym c.is_near.ensures in
    elim c.if-is_near.branch [
      | then-is_near+else-count-ge-ROOM w ↦
          let room : at.count < length at.units = omega (arith, w.if-count-ge-ROOM.false, inv.0) in (
            ap length w.units-is ∙ simp length-set inv.0,
            omega (arith, w.if-count-ge-ROOM.false, w.count-is),
            record { holds = held_same w.units-is w.count-is (held_more (test ∙ w.if-is_near.true) room inv.2.holds) },
          )
      | else-is_near w ↦ (
        ap length w.units-is ∙ inv.0,
        omega (arith, w.count-is, inv.1),
        record { holds = held_same w.units-is w.count-is (held_not (test ∙ w.if-is_near.false) inv.2.holds) },
      )
    ]

pub returns-then-count-ge-ROOM-clause-full : goal.returns-then-count-ge-ROOM-clause-full
returns-then-count-ge-ROOM-clause-full c = λ early.
    let at = c.units in
    let here = near_is c.key.ensures c.reach_of-reach.ensures ∙ sym c.is_near.ensures ∙ c.if-is_near.true in
    omega (arith, at.invariant.2.holds.many, count_yes (over near c.args.keyed.now) at.i here, count_grows (over near c.args.keyed.now) (at.i + 1) (size_of c.args.keyed.now) (omega arith), c.if-count-ge-ROOM.true)
