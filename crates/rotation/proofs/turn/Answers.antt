-- `turn` meets its contract: what its callees ensure, put together by the laws of `Composition`.
use mathlib.Core.Path.{◌≡◌, refl, sym, ap, subst, ◌∙◌}
use mathlib.Core.List.{List}
use Prim.Native.Nat.{ℕ, ◌≤◌}
use native.Mathlib.Omega.{arith}
use lib.ListN.{length}
use lib.Seq.{length-take-le}
use Rattle.std.specs.Prelude.{Option, Some, None, Result, Ok, Err}
use Rattle.std.specs.Option.{ok_or}
use Rattle.rules.specs.Limits.{most_frame, steps}
use Rattle.rules.specs.Refusals.{Judged}
use Rattle.rules.specs.Rotation as rules
use Rattle.refusals.specs.declared.Refusal.{Refusal}
use Rattle.rotation_step.specs.declared.Search.{Search}
use Rattle.rotation_step.specs.Leaving.{first_step}
use Rattle.rotation_step.specs.Moved.{of}
use Rattle.rotation.specs.Answer.{answer_from}
use Rattle.rotation.specs.Left.{Left, LeftAt}
use Rattle.rotation.specs.declared.Rotated.{Rotated}
use Rattle.rules.specs.Rotation.{required}
use Rattle.selection.proofs.Held.{held_room}
use Rattle.group_keeping.specs.Keeping.{keeping_of}
use Rattle.rotation_births.specs.Candidates.{births_of}
use Rattle.rotation_members.proofs.Filling.{fill_held, fill_few}
use Rattle.rotation.proofs.Composition.{frame_ok, lists_ok, ready, group_sound, units_here, searched, turn_refused, turn_given}
use Rattle.rotation.proofs.turn.Goals as goal

pub find_enlarged-g-requires : goal.find_enlarged-g-requires
find_enlarged-g-requires c =
    let b = births_of c.args.asked.now.candidates in
    let p = keeping_of c.args.asked.now.keeping in
    let whole = frame_ok c.args.asked.now.method _ _ _ _ _ _ _ b p _ c.requires in
    (ready c.args.asked.now.method _ _ _ _ _ _ _ b p _ c.requires, whole.units.few)

pub fill-requires : goal.fill-requires
fill-requires c =
    let b = births_of c.args.asked.now.candidates in
    let p = keeping_of c.args.asked.now.keeping in
    let whole = frame_ok c.args.asked.now.method _ _ _ _ _ _ _ b p _ c.requires in
    let marks_room : length c.args.asked.now.frame.turnovers.now ≤ length c.find_enlarged-g.new.marks = rw c.find_enlarged-g.auto.marks whole.units.few in
    let parts = (group_sound c.args.asked.now.method _ _ _ _ _ _ _ b p _ c.requires).parts in
    record {
      turnovers_bound = (whole.units.total, omega (arith, c.find_enlarged-g.ensures.agrees.size_is, parts, whole.units.size_few));
      turnovers_in_bounds = (marks_room, whole.units.few);
    }

pub members-many-requires : goal.members-many-requires
members-many-requires c =
    let b = births_of c.args.asked.now.candidates in
    let p = keeping_of c.args.asked.now.keeping in
    let whole = frame_ok c.args.asked.now.method _ _ _ _ _ _ _ b p _ c.requires in
    let lists = lists_ok c.args.asked.now.method _ _ _ _ _ _ _ b p _ c.requires in
    let marks_room : length c.args.asked.now.frame.turnovers.now ≤ length c.find_enlarged-g.new.marks = rw c.find_enlarged-g.auto.marks whole.units.few in
    record {
      numbers_value = (whole.rises, lists.rises, lists.births_rise);
      judgeable = record {
        few = marks_room;
        same = whole.randoms_length;
        within = whole.units.within;
        low = whole.random_low;
        start_low_lem = whole.start_low;
        allowed = lists.previous;
      };
      numbers_len = (whole.numbers_length, rw whole.numbers_length whole.units.few);
    }

pub required-need-requires : goal.required-need-requires
required-need-requires c =
    let b = births_of c.args.asked.now.candidates in
    let p = keeping_of c.args.asked.now.keeping in
    let whole = frame_ok c.args.asked.now.method _ _ _ _ _ _ _ b p _ c.requires in
    let lists = lists_ok c.args.asked.now.method _ _ _ _ _ _ _ b p _ c.requires in
    let few : c.members-many.result ≤ most_frame = omega (arith, fill_few c.members-many.ensures.filled, whole.numbers_length, whole.units.few) in
    (lists.scaled, few)

pub slice_bounds-places-end : goal.slice_bounds-places-end
slice_bounds-places-end c = held_room (fill_held c.members-many.ensures.filled)

pub slice_bounds-search-end : goal.slice_bounds-search-end
slice_bounds-search-end c = sym (length-take-le c.members-many.result c.members-many.new.places (held_room (fill_held c.members-many.ensures.filled)))

pub invariant_of-keyed : goal.invariant_of-keyed
invariant_of-keyed c =
    let b = births_of c.args.asked.now.candidates in
    let p = keeping_of c.args.asked.now.keeping in
    let held = fill_held c.members-many.ensures.filled in
    record { units = units_here c.args.asked.now.method _ _ _ _ _ _ _ b p _ c.requires _ _ c.find_enlarged-g.ensures _ c.fill.ensures _ held.units_are }

pub invariant_of-search : goal.invariant_of-search
invariant_of-search c =
    let b = births_of c.args.asked.now.candidates in
    let p = keeping_of c.args.asked.now.keeping in
    let held = fill_held c.members-many.ensures.filled in
    record { searched = searched c.args.asked.now.method _ _ _ _ _ _ _ b p _ c.requires _ _ c.find_enlarged-g.ensures _ c.fill.ensures _ held.units_are }

pub leave-requires : goal.leave-requires
leave-requires c =
    let b = births_of c.args.asked.now.candidates in
    let p = keeping_of c.args.asked.now.keeping in
    let whole = frame_ok c.args.asked.now.method _ _ _ _ _ _ _ b p _ c.requires in
    let lists = lists_ok c.args.asked.now.method _ _ _ _ _ _ _ b p _ c.requires in
    let held = fill_held c.members-many.ensures.filled in
    let many = length-take-le c.members-many.result c.members-many.new.places (held_room held) in
    let few : c.members-many.result ≤ most_frame = omega (arith, fill_few c.members-many.ensures.filled, whole.numbers_length, whole.units.few) in
    (whole.numbers_length, rw many few, rw many (omega (arith, c.members-many.ensures.upper_bound, lists.long)))

-- an answer is the rotation that was found, or refusal 8
by_found :
    {said : Judged rules.Rotated} {numbers before after out : List ℕ} {q : Search} {need : ℕ} (found : Option Rotated) (answer : Result Rotated Refusal)
    → answer ≡ ok_or found Refusal.NoStep → Left numbers q need before after found
    → ((r : Rotated) → LeftAt numbers q need before after r → (answer_from (Ok r) ≡ said) × (after ≡ out))
    → (of first_step q need ≡ steps → after ≡ before → (answer_from (Err Refusal.NoStep) ≡ said) × (after ≡ out))
    → (answer_from answer ≡ said) × (after ≡ out)
by_found {said} {numbers} {before} {after} {out} {q} {need} (Some r) answer e told there nowhere =
    subst (λ (a : Result Rotated Refusal). (answer_from a ≡ said) × (after ≡ out)) (sym e) (there r told)
by_found {said} {numbers} {before} {after} {out} {q} {need} None answer e told there nowhere =
    subst (λ (a : Result Rotated Refusal). (answer_from a ≡ said) × (after ≡ out)) (sym e) (nowhere told.0 told.1)

pub returns : goal.returns
returns c =
    let b = births_of c.args.asked.now.candidates in
    let p = keeping_of c.args.asked.now.keeping in
    let held = fill_held c.members-many.ensures.filled in
    let many = length-take-le c.members-many.result c.members-many.new.places (held_room held) in
    let need = c.required-need.ensures ∙ ap (required c.args.asked.now.fraction) (sym many) in
    let told = by_found _ _ c.ok_or.ensures.value c.leave.ensures
    (λ r left.
    let turned = turn_given c.args.asked.now.method _ _ _ _ _ _ _ b p _ c.requires _ _ c.find_enlarged-g.ensures _ c.fill.ensures _ held.units_are _ _
    left.step_is need _ refl left.low _ left.many _ left.written_are in
    (rw left.start_is turned.0, turned.1))
    (λ last same.
    let refused = turn_refused c.args.asked.now.method _ _ _ _ _ _ _ b p _ c.requires _ _ c.find_enlarged-g.ensures _ c.fill.ensures _ held.units_are _ _
    (sym last) need (omega arith) in
    (refused.0, same ∙ refused.1)) in
    record { result_value = told.0; leavers_after = told.1 }
