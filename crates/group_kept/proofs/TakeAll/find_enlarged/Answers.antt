-- `TakeAll::find_enlarged` meets its contract: the base group, its candidates in order, the first of them marked, and what is left of n and X.
use Prim.Native.Nat.{◌≤◌}
use native.Mathlib.Omega.{arith}
use lib.ListN.{length}
use Rattle.frame.proofs.Accepted.{place_within}
use Rattle.selection.proofs.TakeAll.{size_le}
use Rattle.group.proofs.Accepted.{sound}
use Rattle.group_kept.proofs.Taking.{outside, all_kept, some_left}
use Rattle.group_kept.proofs.TakeAll.find_enlarged.Goals as goal

-- once the base group is found
pub invariant_of-border : goal.invariant_of-border
invariant_of-border c =
    let pre = c.requires.0 in
    let a = c.args.self.now in
    let known = sound a.turnovers.now a.z pre.sized.within in
    let agrees = c.find_group-g.ensures.group.agrees in
    let marks_room : length a.turnovers.now ≤ length c.find_group-g.new.marks = omega (arith, c.find_group-g.auto.marks, c.requires.1) in
    record {
      bordered = record {
        room = marks_room;
        within = λ i. omega (arith, place_within a.turnovers.now i, pre.sized.total);
        rest_low = omega (arith, known.rest_low, agrees.rest_is, pre.sized.total);
        size_low = omega (arith, known.parts, agrees.size_is, pre.sized.most);
        threshold_low = pre.threshold_low;
      };
      numbered = pre.numbered;
      first_is = pre.first_is;
      second_is = pre.second_is;
    }

-- and the candidates, of which the first are kept
pub overflow_add-q : goal.overflow_add-q
overflow_add-q c =
    let a = c.args.self.now in
    let sized = c.requires.0.sized in
    let group = c.find_group-g.ensures.group in
    omega (
      arith,
      c.min-kept.ensures,
      group.size,
      size_le a.turnovers.now a.z,
      group.agrees.size_is,
      (sound a.turnovers.now a.z sized.within).parts,
      sized.most,
    )

pub returns-then-g-kept : goal.returns-then-g-kept
returns-then-g-kept c =
    all_kept _ _ _ _ _ _ c.requires.0.sized.within c.find_group-g.ensures.group _ _ _ c.candidates-many.ensures c.min-kept.ensures
    _ c.mark.ensures c.if-g-kept.true

pub less-rest-requires : goal.less-rest-requires
less-rest-requires c =
    outside _ _ _ _ _ _ c.requires.0.sized.within c.find_group-g.ensures.group _ _ _ c.candidates-many.ensures c.min-kept.ensures c.if-g-kept.false

pub returns : goal.returns
returns c =
    some_left _ _ _ _ _ _ c.requires.0.sized.within c.find_group-g.ensures.group _ _ _ c.candidates-many.ensures c.min-kept.ensures
    _ c.mark.ensures c.if-g-kept.false _ c.less-rest.ensures
