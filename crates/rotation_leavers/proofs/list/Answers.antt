-- `list` meets its contract: the list is filled with those of the first j members that are not sampled.
use mathlib.Core.Path.{◌≡◌, refl, sym, ap, ◌∙◌}
use mathlib.Core.Bool.{not}
use Prim.Native.Nat.{◌<◌}
use native.Mathlib.Omega.{arith}
use lib.ListN.{length}
use Rattle.rotation_members.proofs.Filling.{fill_none, fill_not, fill_more, fill_same, fill_few, fill_length}
use Rattle.rotation_step.specs.Leaving.{member_leaves}
use Rattle.rotation_leavers.proofs.list.Goals.{then-not-is_sampled, else-not-is_sampled}
use Rattle.rotation_leavers.proofs.list.Goals as goal

pub tell-told-requires : goal.tell-told-requires
tell-told-requires c = c.args.search.now.searched.sized

pub loop-i-init : goal.loop-i-init
loop-i-init c = fill_none

pub is_sampled-requires : goal.is_sampled-requires
is_sampled-requires c = (c.tell-told.ensures, c.args.search.now.searched.low c.loop-i.i-index c.loop-i-test.true)

pub offset_bounds-places-count : goal.offset_bounds-places-count
offset_bounds-places-count c =
    let few = fill_few c.loop-i.invariant in
    let room : c.loop-i.count < length c.args.places.now = omega (arith, few, c.requires, c.loop-i-test.true) in
    omega (arith, room, c.well_formed)

pub bounds-places-count : goal.bounds-places-count
bounds-places-count c =
    let few = fill_few c.loop-i.invariant in
    let room : c.loop-i.count < length c.args.places.now = omega (arith, few, c.requires, c.loop-i-test.true) in
    omega (arith, room, fill_length c.loop-i.invariant (omega arith))

pub overflow_add-count : goal.overflow_add-count
overflow_add-count c =
    let few = fill_few c.loop-i.invariant in
    let room : c.loop-i.count < length c.args.places.now = omega (arith, few, c.requires, c.loop-i-test.true) in
    omega (arith, room, c.well_formed)

pub loop-i-preserved : goal.loop-i-preserved
unfolding member_leaves
loop-i-preserved c =
    let at = c.loop-i in
    let here = ap not (sym c.is_sampled.ensures) in
    let few = fill_few at.invariant in
    let room : at.count < length c.args.places.now = omega (arith, few, c.requires, c.loop-i-test.true) in
    elim c.if-not-is_sampled.branch [
      | then-not-is_sampled w ↦ fill_same w.places-is w.count-is (fill_more at.invariant _ (here ∙ ap not w.if-not-is_sampled.true) refl room)
      | else-not-is_sampled w ↦ fill_same w.places-is w.count-is (fill_not at.invariant (here ∙ ap not w.if-not-is_sampled.false))
    ]

pub returns : goal.returns
returns c =
    let at = c.loop-i in
    let all : at.i-index ≡ length c.args.search.now.members.now = omega arith in
    rw all at at.invariant
