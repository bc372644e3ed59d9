-- Who leaves at the first step at which enough members do.
use Rattle.std.specs.Prelude.{◌≡◌, List, Option, Some, None, ℕ, ◌<◌}
use Rattle.rules.specs.Limits.{steps}
use Rattle.rules.specs.Refusals.{written}
use Rattle.draw_key.specs.declared.Setting.{Setting}
use Rattle.rotation_step.specs.declared.Search.{Search}
use Rattle.rotation_step.specs.Leaving.{setting_at, leaving, first_step}
use Rattle.rotation_step.specs.Moved.{of}
use Rattle.rotation_leavers.specs.Leavers.{units_in_order, numbers_of}
use Rattle.rotation.specs.declared.Rotated.{Rotated}

-- the setting that the step of r leads to
abbrev pub there : Search → Rotated → Setting
there q r = setting_at q.keyed.setting r.k

-- r is that step, its start and how many leave there, whose numbers are in front of the buffer
pub record LeftAt (numbers : List ℕ) (q : Search) (need : ℕ) (before after : List ℕ) (r : Rotated) : Type 0 where
  pub step_is : r.k ≡ of first_step q need
  pub low : r.k < steps
  pub start_is : r.start ≡ (there q r).start
  pub many : r.count ≡ leaving q.keyed.turnovers.now q.keyed.randoms.now q.keyed.gaps.now q.members.now (there q r)
  pub written_are : after ≡ written 0 (numbers_of numbers (units_in_order q.keyed.turnovers.now q.keyed.randoms.now q.keyed.gaps.now q.members.now (there q r))) before

-- or no step is enough, and the buffer is as it was
abbrev pub Left : List ℕ → Search → ℕ → List ℕ → List ℕ → Option Rotated → Type 0
Left numbers q need before after (Some r) = LeftAt numbers q need before after r
Left numbers q need before after None = (of first_step q need ≡ steps) × (after ≡ before)
