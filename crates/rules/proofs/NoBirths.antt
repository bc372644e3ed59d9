-- Document 02, [2], "With no births, case K6 must come out as before": so does every rotation. With no births, and whatever n' and X' refusal 25 lets pass,
-- the answer and the leavers' buffer are document 01's for every frame, by either method.
use mathlib.Core.Path.{◌≡◌, refl, ap, fun_ext}
use mathlib.Core.Bool.{Bool, false}
use mathlib.Core.List.{List, []}
use Prim.Native.Nat.{ℕ, ◌+◌}
use native.Mathlib.Omega.{arith}
use lib.ListN.{length}
use lib.Dec.{ltb, leb}
use Rattle.rules.specs.Limits.{steps}
use Rattle.rules.specs.Tests.{◌or◌, ◌and◌}
use Rattle.rules.specs.Refusals.{Judged, refuse, ◌then◌, judged, written}
use Rattle.rules.specs.Lists.{any_of, rising, elem}
use Rattle.rules.specs.TakeAll.{Frame, Group, take_all_group}
use Rattle.rules.specs.Draw.{Method, frame_refusal}
use Rattle.rules.specs.Rotation.{born, Rotated, old_member, joins, member, start_at, least_step, leavers, short_leavers, bad_old_panel, bad_previous, bad_births, lists_refusal, rotation_refusal, rotated_at, rotation_answer_by, rotation_leavers_by}
use Rattle.rules.proofs.Tests.{or_none}
use Rattle.rules.proofs.Refusals.{then_zero}

-- ---- Document 01's rotation: the members are the old panel's, 6 asks for its length, and nothing is judged between 7 and 8
abbrev pub plain_refusal : Method → Frame → ℕ → ℕ → List ℕ → ℕ → List ℕ → ℕ
plain_refusal m f z old panel fraction buffer =
    let g = take_all_group f.turnovers z in
    frame_refusal f z old
    then (refuse (ltb (length buffer) (length panel)) 6 then refuse (bad_old_panel panel fraction) 7)
    then refuse (leb steps (least_step m f g old (old_member f g.takes_all panel) fraction)) 8

abbrev pub plain_answer : Method → Frame → ℕ → ℕ → List ℕ → ℕ → List ℕ → Judged Rotated
plain_answer m f z old panel fraction buffer =
    let g = take_all_group f.turnovers z in
    let who = old_member f g.takes_all panel in
    judged (plain_refusal m f z old panel fraction buffer) (rotated_at m f g old who (least_step m f g old who fraction))

abbrev pub plain_leavers : Method → Frame → ℕ → ℕ → List ℕ → ℕ → List ℕ → List ℕ
plain_leavers m f z old panel fraction buffer =
    let g = take_all_group f.turnovers z in
    let who = old_member f g.takes_all panel in
    written (plain_refusal m f z old panel fraction buffer) (leavers m f g who (start_at old (least_step m f g old who fraction))) buffer

-- ---- The same without births
module _ (f : Frame) (old : ℕ) (panel : List ℕ) (n x : ℕ) where
  -- nobody joins
  same_members : (taken : ℕ → Bool) → member f taken old panel (born n x []) ≡ old_member f taken panel
  unfolding member joins elem any_of ◌and◌
  same_members taken = fun_ext (λ i. or_none (old_member f taken panel i) false refl)

  -- and only 25 is judged besides
  same_lists :
      (fraction : ℕ) (buffer : List ℕ) → bad_previous n x ≡ false
      → lists_refusal f.numbers panel fraction (born n x []) buffer
      ≡ (refuse (ltb (length buffer) (length panel)) 6 then refuse (bad_old_panel panel fraction) 7)
  unfolding lists_refusal short_leavers bad_births any_of rising ◌or◌ refuse ◌then◌
  same_lists fraction buffer previous =
      let alone : length panel + 0 ≡ length panel = omega arith in
      rw (alone, previous) (ap (λ (n : ℕ). refuse (ltb (length buffer) (length panel)) 6 then n) (then_zero (refuse (bad_old_panel panel fraction) 7)))

  module _ (m : Method) (z fraction : ℕ) (buffer : List ℕ) (previous : bad_previous n x ≡ false) where
    abbrev g : Group
    g = take_all_group f.turnovers z

    pub no_births_answer : rotation_answer_by m f z old panel fraction (born n x []) buffer ≡ plain_answer m f z old panel fraction buffer
    unfolding rotation_answer_by rotation_refusal
    no_births_answer = rw (same_members g.takes_all, same_lists fraction buffer previous)

    pub no_births_leavers : rotation_leavers_by m f z old panel fraction (born n x []) buffer ≡ plain_leavers m f z old panel fraction buffer
    unfolding rotation_leavers_by rotation_refusal
    no_births_leavers = rw (same_members g.takes_all, same_lists fraction buffer previous)
