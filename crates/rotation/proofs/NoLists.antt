-- Document 02, [9]: WITH NO LISTS THE ROTATION IS THE BASE ROTATION, with the threshold of 1.
use mathlib.Core.Path.{◌≡◌, refl, ap}
use mathlib.Core.Bool.{Bool}
use mathlib.Core.List.{List}
use Prim.Native.Nat.{ℕ}
use lib.Dec.{leb}
use Rattle.rules.specs.Limits.{threshold_scale, steps}
use Rattle.rules.specs.Tests.{◌or◌}
use Rattle.rules.specs.Lists.{rising}
use Rattle.rules.specs.Refusals.{refuse, ◌then◌}
use Rattle.rules.specs.TakeAll.{Frame, Group, take_all_group}
use Rattle.rules.specs.Kept.{Keeping, bad_list, bad_keeping, keeping_refusal, enlarged_group}
use Rattle.rules.specs.Draw.{Method, frame_refusal}
use Rattle.rules.specs.Rotation.{Births, start_at, member, least_step, leavers, rotated_at, lists_refusal, rotation_refusal, rotation_answer_by, rotation_leavers_by, kept_lists_refusal, kept_rotation_refusal, kept_rotation_answer, kept_rotation_leavers}
use Rattle.rules.proofs.Refusals.{then_none, then_same, judged_same, written_same}
use Rattle.frame.proofs.Accepted.{accepted}
use Rattle.group_kept.proofs.Enlarged.{no_lists, enlarged_base}

abbrev none_given : Keeping
none_given = no_lists threshold_scale

lists_same : (numbers panel : List ℕ) (fraction : ℕ) (b : Births) (buffer : List ℕ) → kept_lists_refusal numbers panel fraction b none_given buffer ≡ lists_refusal numbers panel fraction b buffer
unfolding kept_lists_refusal lists_refusal keeping_refusal bad_keeping bad_list rising refuse ◌or◌ ◌then◌
lists_same numbers panel fraction b buffer = refl

module _ (m : Method) (f : Frame) (z old : ℕ) (panel : List ℕ) (fraction : ℕ) (b : Births) (buffer : List ℕ) where
  group_same : frame_refusal f z old ≡ 0 → enlarged_group f.numbers f.turnovers z none_given ≡ take_all_group f.turnovers z
  group_same e = enlarged_base f.numbers f.turnovers z (accepted f z old e).units.size_within threshold_scale

  -- what a group makes of 8, of the answer and of the leavers
  abbrev who : Group → ℕ → Bool
  who g = member f g.takes_all old panel b

  refusal_same : kept_rotation_refusal m f z old panel fraction b none_given buffer ≡ rotation_refusal m f z old panel fraction b buffer
  unfolding kept_rotation_refusal rotation_refusal
  refusal_same =
      rw (lists_same f.numbers panel fraction b buffer)
      (then_same (frame_refusal f z old) _ _
      (λ e. ap (λ (g : Group). lists_refusal f.numbers panel fraction b buffer then refuse (leb steps (least_step m f g old (who g) fraction)) 8) (group_same e)))

  base : rotation_refusal m f z old panel fraction b buffer ≡ 0 → enlarged_group f.numbers f.turnovers z none_given ≡ take_all_group f.turnovers z
  unfolding rotation_refusal
  base e = group_same (then_none _ _ e).0

  pub answer_same : kept_rotation_answer m f z old panel fraction b none_given buffer ≡ rotation_answer_by m f z old panel fraction b buffer
  unfolding kept_rotation_answer rotation_answer_by
  answer_same =
      rw refusal_same
      (judged_same (rotation_refusal m f z old panel fraction b buffer) _ _
      (λ e. ap (λ (g : Group). rotated_at m f g old (who g) (least_step m f g old (who g) fraction)) (base e)))

  pub leavers_same : kept_rotation_leavers m f z old panel fraction b none_given buffer ≡ rotation_leavers_by m f z old panel fraction b buffer
  unfolding kept_rotation_leavers rotation_leavers_by
  leavers_same =
      rw refusal_same
      (written_same (rotation_refusal m f z old panel fraction b buffer) _ _ buffer
      (λ e. ap (λ (g : Group). leavers m f g (who g) (start_at old (least_step m f g old (who g) fraction))) (base e)))
