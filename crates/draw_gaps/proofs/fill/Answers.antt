-- After i turns the first i gaps stand.
use Prim.Native.Nat.{◌<◌}
use native.Mathlib.Omega.{arith}
use mathlib.Core.Path.{◌∙◌}
use lib.ListN.{length}
use borrow.Author.Tests.{eq-eqb, ne_eqb}
use Rattle.rules.proofs.Lists.{filled_more}
use Rattle.selection.proofs.Sums.{place_le}
use Rattle.group.specs.Group.{marked}
use Rattle.draw_key.proofs.Keys.{taken_low}
use Rattle.draw_gaps.specs.Gaps.{gap_of}
use Rattle.draw_gaps.proofs.fill.Goals as goal
use Rattle.draw_gaps.proofs.fill.Goals.{then-marks-i-eq-TAKE_ALL, else-marks-i-eq-TAKE_ALL}

pub gap-requires : goal.gap-requires
gap-requires c =
    let low = place_le c.args.turnovers.now c.units.i c.units-test.true in (
      omega (arith, low, c.requires.turnovers_bound.0),
      rw c.taken_off-off.ensures (omega (arith, taken_low c.args.method c.args.n, c.requires.turnovers_bound.1)),
    )

pub units-preserved : goal.units-preserved
unfolding gap_of marked
units-preserved c =
    let room : c.units.i < length c.units.gaps = omega (arith, c.units-test.true, c.units.auto.gaps, c.requires.turnovers_in_bounds.1) in
    elim c.if-marks-i-eq-TAKE_ALL.branch [
      | then-marks-i-eq-TAKE_ALL w ↦ rw w.gaps-is (filled_more _ c.units.gaps c.units.i _ room (rw (eq-eqb _ _ w.if-marks-i-eq-TAKE_ALL.true)) c.units.invariant)
      | else-marks-i-eq-TAKE_ALL w ↦ rw w.gaps-is (filled_more _ c.units.gaps c.units.i _ room (w.gap.ensures ∙ rw (ne_eqb _ _ w.if-marks-i-eq-TAKE_ALL.false)) c.units.invariant)
    ]

pub returns : goal.returns
returns c = record {
  room = omega (arith, c.units.auto.gaps, c.requires.turnovers_in_bounds.1);
  at = λ k l. rw (← c.taken_off-off.ensures) (c.units.invariant k (omega (arith, c.units-test.false)));
}
