-- The facts of an accepted frame feed each step; what is written, from the short list or in order, is then the definition's.
use mathlib.Core.Path.{ap, ◌∙◌}
use mathlib.Core.List.{List}
use Prim.Native.Nat.{ℕ, ◌≤◌}
use native.Mathlib.Omega.{arith}
use lib.ListN.{length, replicate, length-replicate}
use Rattle.rules.specs.Refusals.{written}
use Rattle.rules.specs.TakeAll.{Frame}
use Rattle.rules.specs.Kept.{Keeping, enlarged_group}
use Rattle.group.specs.declared.Group.{Group}
use Rattle.group_keeping.specs.Keeping.{keeping_of}
use Rattle.group_kept.specs.Kept.{IsEnlarged}
use Rattle.group_kept.proofs.Enlarged.{enlarged_sound}
use Rattle.draw_key.specs.declared.Method.{Method}
use Rattle.draw_gaps.specs.Gaps.{Gaps}
use Rattle.draw.proofs.Accepted.{KeptAccepted, kept_accepted}
use Rattle.draw.proofs.Panel as panels
use Rattle.draw.proofs.Design.draw_in.Goals as goal

-- once the group, the definition's enlarged one, is found and the gaps are written
drawing :
    {m : Method} {f : Frame} {z start : ℕ} {p : Keeping} {panel weights marks gs : List ℕ} {g : Group} → KeptAccepted f z start p panel weights
    → IsEnlarged f.numbers f.turnovers z p marks g → Gaps f.turnovers marks m g.n g.rest gs
    → panels.Drawing m f z start (enlarged_group f.numbers f.turnovers z p) marks gs g
drawing {p = p} ok is filled = record {
  none = ok.drawn.none;
  ok = ok.drawn.frame_ok;
  sound_is = enlarged_sound _ _ _ ok.drawn.frame_ok.units.size_within p;
  mark_is = is.mark_is;
  agrees = is.agrees;
  filled = filled;
}

-- N blank places are room for a frame of at most N units
blank_room : (n N : ℕ) → n ≤ N → n ≤ length (replicate {A = ℕ} N 0)
blank_room n N h = omega (arith, h, length-replicate {A = ℕ} N 0)

pub find_enlarged-g-requires : goal.find_enlarged-g-requires
find_enlarged-g-requires g c = ((kept_accepted _ _ _ _ _ _ c.requires.accepted).ready, blank_room _ _ c.requires.room.0)

pub fill-requires-clause-turnovers_bound : goal.fill-requires-clause-turnovers_bound
fill-requires-clause-turnovers_bound g c =
    let k = (kept_accepted _ _ _ _ _ _ c.requires.accepted).drawn.frame_ok.units in
    let parts = (enlarged_sound c.args.self.now.frame.numbers.now c.args.self.now.frame.turnovers.now c.args.self.now.z k.size_within (keeping_of c.args.self.now.keeping)).parts in
    (k.total, omega (arith, c.find_enlarged-g.ensures.agrees.size_is, parts, k.size_few))

pub invariant_of-keyed : goal.invariant_of-keyed
invariant_of-keyed g c =
    record { units = panels.units_here (drawing (kept_accepted _ _ _ _ _ _ c.requires.accepted) c.find_enlarged-g.ensures c.fill.ensures) }

pub invariant_of-weighed : goal.invariant_of-weighed
invariant_of-weighed g c =
    let all = kept_accepted _ _ _ _ _ _ c.requires.accepted in
    let d = drawing all c.find_enlarged-g.ensures c.fill.ensures in
    let marks_room : length c.args.self.now.frame.turnovers.now ≤ length c.find_enlarged-g.new.marks =
    omega (arith, c.find_enlarged-g.auto.marks, blank_room _ _ c.requires.room.0) in
    record { weighable = panels.weighable d marks_room; numbered = all.drawn.frame_ok.numbers_length }

pub write_found-requires : goal.write_found-requires
write_found-requires g c =
    let all = kept_accepted _ _ _ _ _ _ c.requires.accepted in
    let d = drawing all c.find_enlarged-g.ensures c.fill.ensures in
    let w = c.in-Some.ensures in
    let size = panels.found_size d _ w in
    record {
      passing = panels.found_here d _ w;
      count_in_bounds = (omega (arith, size, all.drawn.numbers_room), omega (arith, size, all.drawn.weights_room));
    }

pub write_ordered-requires : goal.write_ordered-requires
write_ordered-requires g c =
    let all = kept_accepted _ _ _ _ _ _ c.requires.accepted in
    let d = drawing all c.find_enlarged-g.ensures c.fill.ensures in
    let marks_room : length c.args.self.now.frame.turnovers.now ≤ length c.find_enlarged-g.new.marks =
    omega (arith, c.find_enlarged-g.auto.marks, blank_room _ _ c.requires.room.0) in
    let size = panels.drawn_size d in
    record {
      markable = (panels.weighable d marks_room, panels.markable d);
      numbers_len = (all.drawn.frame_ok.numbers_length, omega (arith, size, all.drawn.numbers_room), omega (arith, size, all.drawn.weights_room));
    }

pub returns-in-Some-clause-panel_after : goal.returns-in-Some-clause-panel_after
returns-in-Some-clause-panel_after g c =
    let d = drawing (kept_accepted _ _ _ _ _ _ c.requires.accepted) c.find_enlarged-g.ensures c.fill.ensures in
    c.write_found.ensures.panel_after ∙ ap (λ (xs : List ℕ). written 0 xs c.args.panel.now) (panels.found_numbers d _ c.in-Some.ensures)

pub returns-in-Some-clause-weights_after : goal.returns-in-Some-clause-weights_after
returns-in-Some-clause-weights_after g c =
    let d = drawing (kept_accepted _ _ _ _ _ _ c.requires.accepted) c.find_enlarged-g.ensures c.fill.ensures in
    c.write_found.ensures.weights_after ∙ ap (λ (xs : List ℕ). written 0 xs c.args.weights.now) (panels.found_weights d _ c.in-Some.ensures)

pub returns-in-None-clause-panel_after : goal.returns-in-None-clause-panel_after
returns-in-None-clause-panel_after g c =
    let d = drawing (kept_accepted _ _ _ _ _ _ c.requires.accepted) c.find_enlarged-g.ensures c.fill.ensures in
    c.write_ordered.ensures.panel_after ∙ ap (λ (xs : List ℕ). written 0 xs c.args.panel.now) (panels.drawn_numbers d)

pub returns-in-None-clause-weights_after : goal.returns-in-None-clause-weights_after
returns-in-None-clause-weights_after g c =
    let d = drawing (kept_accepted _ _ _ _ _ _ c.requires.accepted) c.find_enlarged-g.ensures c.fill.ensures in
    c.write_ordered.ensures.weights_after ∙ ap (λ (xs : List ℕ). written 0 xs c.args.weights.now) (panels.drawn_weights_lem d)
