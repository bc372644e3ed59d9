-- After i units those of them that have a mark are written: k of them.
use native.Mathlib.Omega.{arith}
use mathlib.Core.Path.{refl, ap}
use mathlib.Core.Bool.{not}
use lib.ListN.{length}
use borrow.Author.Tests.{eq-eqb, ne_eqb}
use Rattle.draw_panel.proofs.Writing.{writing_none, writing_not, writing_more, writing_same, places}
use Rattle.draw_panel.proofs.write_marked.Goals.{then-w-i-ne0, else-w-i-ne0}
use Rattle.draw_panel.proofs.write_marked.Goals as goal

pub units-init : goal.units-init
units-init c = writing_none

pub write-requires-clause-place : goal.write-requires-clause-place
write-requires-clause-place c =
    let room = places c.units.invariant (length c.args.w.now.turnovers.now) c.units-test.true (ap not (ne_eqb _ _ c.if-w-i-ne0.true)) c.requires.0 c.requires.1 in
    (omega (arith, room.0, c.units.invariant.panel_room), omega (arith, room.1, c.units.invariant.weights_room))

pub overflow_add-k : goal.overflow_add-k
overflow_add-k c =
    let room = places c.units.invariant (length c.args.w.now.turnovers.now) c.units-test.true (ap not (ne_eqb _ _ c.if-w-i-ne0.true)) c.requires.0 c.requires.1 in
    omega (arith, room.1, c.well_formed)

pub units-preserved : goal.units-preserved
units-preserved c = elim c.if-w-i-ne0.branch [
  | then-w-i-ne0 w ↦
      let marked = ap not (ne_eqb _ _ w.if-w-i-ne0.true) in
      let room = places c.units.invariant (length c.args.w.now.turnovers.now) c.units-test.true marked c.requires.0 c.requires.1 in
      writing_same w.panel-is w.weights-is w.k-is
      (writing_same w.write.ensures.panel_after w.write.ensures.weights_after refl (writing_more c.units.invariant marked room.0 room.1 refl refl))
  | else-w-i-ne0 w ↦ writing_same w.panel-is w.weights-is w.k-is (writing_not c.units.invariant (ap not (eq-eqb _ _ w.if-w-i-ne0.false)))
]
