-- `gather` meets its contract: after as many turns the list holds the candidates of the first numbers.
use mathlib.Core.Path.{sym, ap, ◌∙◌}
use mathlib.Core.Bool.{not}
use Prim.Native.Nat.{◌<◌}
use native.Mathlib.Omega.{arith}
use lib.ListN.{length}
use Rattle.group_border.proofs.Gathering.{at_none, at_out, at_skip, at_more}
use Rattle.group_border.proofs.border.Border.gather.Goals as goal
use Rattle.group_border.proofs.border.Border.gather.Goals.{in-Some+then-is_eligible+then-is_none, in-Some+else-is_eligible, else-is_eligible-via-then-is_eligible+else-is_none, else-is_eligible-via-else-is_eligible, in_default}

pub loop-number-preserved : goal.loop-number-preserved
loop-number-preserved c =
    let at = c.loop-number in
    let numbered = c.args.self.now.numbered in
    let up = c.requires.lists.1 in
    let l = c.loop-number-test.true in
    -- in a turn there is room for one more
    let room : at.many < length at.places = omega (arith, at.invariant.few, at.invariant.long, l, c.requires.lists.2) in
    elim c.match-find.branch [
      | in-Some+then-is_eligible+then-is_none w ↦
          rw (w.places-is, w.many-is)
          (at_more _ _ _ _ _ _ _ _ _ _ _ _ _ at.invariant numbered up l _ w.in-Some.ensures _ w.find-then-is_eligible.ensures
          (w.is_none.ensures ∙ ap not w.if-is_none.true) (sym w.is_eligible.ensures ∙ w.if-is_eligible.true) room)
      | in-Some+else-is_eligible w ↦
          rw (w.places-is, w.many-is)
          (elim w.else-is_eligible.branch [
            | else-is_eligible-via-then-is_eligible+else-is_none v ↦
                at_skip _ _ _ _ _ _ _ _ _ _ _ _ _ at.invariant numbered up l _ w.in-Some.ensures _ v.find-then-is_eligible.ensures
                (v.is_none.ensures ∙ ap not v.if-is_none.false)
            | else-is_eligible-via-else-is_eligible v ↦
                at_out _ _ _ _ _ _ _ _ _ _ _ _ _ at.invariant numbered up l _ w.in-Some.ensures (sym w.is_eligible.ensures ∙ v.if-is_eligible.false)
          ])
      | in_default w ↦
          rw (w.places-is, w.many-is) (at_none _ _ _ _ _ _ _ _ _ _ _ _ _ at.invariant numbered up l w.in_default.ensures)
    ]
