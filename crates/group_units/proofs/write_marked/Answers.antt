-- `write_marked` meets its contract: after i turns the numbers of the marked units below i are written.
use mathlib.Core.Path.{refl}
use native.Mathlib.Omega.{arith}
use Rattle.rules.specs.Selection.{sum_of, count, listed}
use Rattle.group_units.proofs.Writing.{at_not, at_more, room_for}
use Rattle.group_units.proofs.write_marked.Goals as goal
use Rattle.group_units.proofs.write_marked.Goals.{then-marks-i-eq-TAKE_ALL, else-marks-i-eq-TAKE_ALL}

pub loop-i-init : goal.loop-i-init
unfolding count sum_of listed
loop-i-init c = record { within = omega arith; many_is = refl; long = refl; whole = refl }

-- in a turn of a marked unit there is room for one more
pub bounds-units-many : goal.bounds-units-many
bounds-units-many c =
    omega (arith, room_for _ _ _ _ _ _ c.loop-i.invariant c.loop-i-test.true c.if-marks-i-eq-TAKE_ALL.true c.requires.1, c.loop-i.invariant.long)

pub offset_bounds-units-many : goal.offset_bounds-units-many
offset_bounds-units-many c =
    omega (
      arith,
      room_for _ _ _ _ _ _ c.loop-i.invariant c.loop-i-test.true c.if-marks-i-eq-TAKE_ALL.true c.requires.1,
      c.loop-i.invariant.long,
      c.well_formed,
    )

pub overflow_add-many : goal.overflow_add-many
overflow_add-many c =
    omega (arith, room_for _ _ _ _ _ _ c.loop-i.invariant c.loop-i-test.true c.if-marks-i-eq-TAKE_ALL.true c.requires.1, c.well_formed)

pub loop-i-preserved : goal.loop-i-preserved
loop-i-preserved c =
    let at = c.loop-i.invariant in
    let l = c.loop-i-test.true in
    elim c.if-marks-i-eq-TAKE_ALL.branch [
      | then-marks-i-eq-TAKE_ALL w ↦
          rw (w.units-is, w.many-is)
          (at_more _ _ _ _ _ _ at l w.if-marks-i-eq-TAKE_ALL.true (room_for _ _ _ _ _ _ at l w.if-marks-i-eq-TAKE_ALL.true c.requires.1))
      | else-marks-i-eq-TAKE_ALL w ↦ rw (w.units-is, w.many-is) (at_not _ _ _ _ _ _ at l w.if-marks-i-eq-TAKE_ALL.false)
    ]
