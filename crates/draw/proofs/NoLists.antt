-- Document 02, [9]: WITH NO LISTS THE DRAW IS THE BASE DRAW, whichever threshold that 30 lets pass is given; here that of 1.
use mathlib.Core.Path.{◌≡◌, refl, ap, ◌∙◌}
use mathlib.Core.List.{List}
use Prim.Native.Nat.{ℕ}
use Rattle.rules.specs.Limits.{threshold_scale}
use Rattle.rules.specs.Tests.{◌or◌}
use Rattle.rules.specs.Lists.{rising}
use Rattle.rules.specs.Refusals.{refuse, ◌then◌}
use Rattle.rules.specs.TakeAll.{Frame, Group, take_all_group}
use Rattle.rules.specs.Kept.{Keeping, bad_list, bad_keeping, keeping_refusal, enlarged_group}
use Rattle.rules.specs.Draw.{Method, panel_numbers, panel_weights, draw_refusal, draw_answer, draw_numbers_by, draw_weights_by, kept_draw_refusal, kept_draw_answer, kept_draw_numbers, kept_draw_weights}
use Rattle.rules.proofs.Refusals.{then_zero, then_none, judged_same, written_same}
use Rattle.frame.proofs.Accepted.{accepted}
use Rattle.group_kept.proofs.Enlarged.{no_lists, enlarged_base}

abbrev pub none_given : Keeping
none_given = no_lists threshold_scale

pub none_refused : keeping_refusal none_given ≡ 0
unfolding keeping_refusal bad_keeping bad_list rising refuse ◌or◌
none_refused = refl

module _ (f : Frame) (z start : ℕ) (numbers weights : List ℕ) where
  refusal_same : kept_draw_refusal f z start none_given numbers weights ≡ draw_refusal f z start numbers weights
  unfolding kept_draw_refusal
  refusal_same = ap (λ (n : ℕ). draw_refusal f z start numbers weights then n) none_refused ∙ then_zero (draw_refusal f z start numbers weights)

  group_same : draw_refusal f z start numbers weights ≡ 0 → enlarged_group f.numbers f.turnovers z none_given ≡ take_all_group f.turnovers z
  unfolding draw_refusal
  group_same e = enlarged_base f.numbers f.turnovers z (accepted f z start (then_none _ _ e).0).units.size_within threshold_scale

  pub answer_same : kept_draw_answer f z start none_given numbers weights ≡ draw_answer f z start numbers weights
  unfolding kept_draw_answer draw_answer
  answer_same = rw refusal_same (judged_same (draw_refusal f z start numbers weights) _ _ (λ e. ap (λ (g : Group). record { sample_size = g.sample_size; rest = g.rest }) (group_same e)))

  module _ (m : Method) where
    pub numbers_same : kept_draw_numbers m f z start none_given numbers weights ≡ draw_numbers_by m f z start numbers weights
    unfolding kept_draw_numbers draw_numbers_by
    numbers_same = rw refusal_same (written_same (draw_refusal f z start numbers weights) _ _ numbers (λ e. ap (λ (g : Group). panel_numbers m f g start) (group_same e)))

    pub weights_same : kept_draw_weights m f z start none_given numbers weights ≡ draw_weights_by m f z start numbers weights
    unfolding kept_draw_weights draw_weights_by
    weights_same = rw refusal_same (written_same (draw_refusal f z start numbers weights) _ _ weights (λ e. ap (λ (g : Group). panel_weights m f g start) (group_same e)))
