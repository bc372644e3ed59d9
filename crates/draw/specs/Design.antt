-- What a draw is asked, in the words of `rules`, and what a draw that no refusal stops gives.
use Rattle.std.specs.Prelude.{◌≡◌, List, ℕ}
use Rattle.rules.specs.TakeAll.{Frame, Group as RulesGroup}
use Rattle.rules.specs.Kept.{Keeping, enlarged_group}
use Rattle.rules.specs.Refusals.{written}
use Rattle.rules.specs.Draw.{Method, panel_numbers, panel_weights}
use Rattle.frame.specs.Frame.{frame_of}
use Rattle.group.specs.declared.Group.{Group}
use Rattle.group_keeping.specs.Keeping.{keeping_of}
use Rattle.draw_key.specs.Methods.{method_of}
use Rattle.draw.specs.declared.Design.{Design}

-- a word of the frame, the panel size, the start, and γ with the lists; and one of the method too
abbrev pub over {ℓ} : {A : Type ℓ} → (Frame → ℕ → ℕ → Keeping → A) → Design → A
over word d = word (frame_of d.frame) d.z d.start (keeping_of d.keeping)

abbrev pub by_key {ℓ} : {A : Type ℓ} → (Method → Frame → ℕ → ℕ → Keeping → A) → Design → A
by_key word d = over (word (method_of d.method)) d

-- its take-all group, the enlarged one
abbrev pub group_of : Design → RulesGroup
group_of d = enlarged_group d.frame.numbers.now d.frame.turnovers.now d.z (keeping_of d.keeping)

-- n and X of a group
pub record IsSize (r : RulesGroup) (g : Group) : Type 0 where
  pub size_is : g.n ≡ r.sample_size
  pub rest_is : g.rest ≡ r.rest

-- the panel in the first places of a buffer: its unit numbers, and their W
abbrev pub numbers_over : Design → List ℕ → List ℕ
numbers_over d buffer = written 0 (panel_numbers (method_of d.method) (frame_of d.frame) (group_of d) d.start) buffer

abbrev pub weights_over : Design → List ℕ → List ℕ
weights_over d buffer = written 0 (panel_weights (method_of d.method) (frame_of d.frame) (group_of d) d.start) buffer
