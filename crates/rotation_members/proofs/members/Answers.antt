-- `members` meets its contract: the list is filled with the members below unit i, and the old panel and the births are passed as far.
use mathlib.Core.Path.{◌≡◌, sym, subst, ◌∙◌}
use mathlib.Core.List.{List}
use Prim.Native.Nat.{ℕ, ◌<◌}
use native.Mathlib.Omega.{arith}
use lib.ListN.{length, get_or}
use Rattle.std.proofs.Common.{rules}
use Rattle.rotation_seek.specs.Passed.{Passed, stands}
use Rattle.rotation_seek.proofs.Passing.{stand_first, met_reached, met_told, met_onward, met_same}
use Rattle.rotation_members.specs.Members.{member_of}
use Rattle.rotation_members.proofs.Filling.{fill_none, fill_few, fill_length}
use Rattle.rotation_members.proofs.Turning.{turn_out, turn_in}
use Rattle.rotation_members.proofs.members.Goals as goal
use Rattle.rotation_members.proofs.members.Goals.{then-is_member, else-is_member}

pub loop-i-init : goal.loop-i-init
loop-i-init c = (
  c.new-panel.ensures.0,
  c.new-births.ensures.0,
  rw (c.new-panel.ensures.1, c.new-births.ensures.1) (record { in_panel = stand_first _ _; in_births = stand_first _ _; fewer = omega arith; filled = fill_none }),
)

pub meets-old-requires : goal.meets-old-requires
meets-old-requires c =
    subst (λ (xs : List ℕ). Passed xs c.loop-i.panel.at (get_or c.args.frame.now.numbers.now c.loop-i.i 0)) (sym c.loop-i.invariant.0)
    (c.loop-i.invariant.2.in_panel.passed c.loop-i-test.true)

pub meets-birth-requires : goal.meets-birth-requires
meets-birth-requires c =
    subst (λ (xs : List ℕ). Passed xs c.loop-i.births.at (get_or c.args.frame.now.numbers.now c.loop-i.i 0)) (sym c.loop-i.invariant.1)
    (c.loop-i.invariant.2.in_births.passed c.loop-i-test.true)

pub is_member-requires : goal.is_member-requires
is_member-requires c = (c.requires.judgeable, omega (arith, c.requires.numbers_len.0, c.loop-i-test.true))

-- in a turn there is room for one more member
pub offset_bounds-places-count : goal.offset_bounds-places-count
offset_bounds-places-count c = omega (arith, fill_few c.loop-i.invariant.2.filled, c.loop-i-test.true, c.requires.numbers_len.1, c.well_formed)

pub bounds-places-count : goal.bounds-places-count
bounds-places-count c =
    let room : c.loop-i.count < length c.args.places.now = omega (arith, fill_few c.loop-i.invariant.2.filled, c.loop-i-test.true, c.requires.numbers_len.1) in
    omega (arith, room, fill_length c.loop-i.invariant.2.filled (omega arith))

pub overflow_add-count : goal.overflow_add-count
overflow_add-count c = omega (arith, fill_few c.loop-i.invariant.2.filled, c.loop-i-test.true, c.requires.numbers_len.1, c.well_formed)

pub loop-i-preserved : goal.loop-i-preserved
loop-i-preserved c =
    let up = c.requires.numbers_value in
    let at = c.loop-i.invariant.2 in
    let l = c.loop-i-test.true in
    let x = get_or c.args.frame.now.numbers.now c.loop-i.i 0 in
    let panel = c.meets-old.ensures in
    let births = c.meets-birth.ensures in
    let panel-is = c.loop-i.invariant.0 in
    let births-are = c.loop-i.invariant.1 in
    let old = met_reached panel-is panel in
    let birth = met_reached births-are births in
    let room : c.loop-i.count < length c.args.places.now = omega (arith, fill_few at.filled, l, c.requires.numbers_len.1) in
    -- what the unit's test says
    let tested :
    member_of c.args.frame.now.turnovers.now c.args.frame.now.randoms.now c.args.marks.now c.args.candidates.now.previous c.loop-i.i (stands c.args.candidates.now.panel.now panel.place x)
    (stands c.args.candidates.now.births.now births.place x)
    ≡ c.is_member.result =
    rw (← met_told panel-is panel, ← met_told births-are births) (search rules) in (
      met_same panel-is panel,
      met_same births-are births,
      rw (met_onward panel-is panel, met_onward births-are births)
          (elim c.if-is_member.branch [
            | then-is_member w ↦ rw (w.places-is, w.count-is) (turn_in _ _ _ _ _ _ _ _ _ _ _ at up.0 up.1 up.2 l old birth (tested ∙ w.if-is_member.true) room _ (search rules))
            | else-is_member w ↦ rw (w.places-is, w.count-is) (turn_out _ _ _ _ _ _ _ _ _ _ _ at up.0 up.1 up.2 l old birth (tested ∙ w.if-is_member.false))
          ]),
    )

pub returns : goal.returns
returns c =
    let at = c.loop-i in
    let all : at.i ≡ length c.args.frame.now.numbers.now = omega (arith, at.invariant.2.in_panel.in_frame) in
    record {
      filled = rw all at at.invariant.2.filled;
      upper_bound = omega (arith, at.invariant.2.fewer, at.invariant.2.in_panel.in_list, at.invariant.2.in_births.in_list);
    }
