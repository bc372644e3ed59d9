-- What a rotation is asked, in the words of `rules`.
use Rattle.std.specs.Prelude.{List, ℕ}
use Rattle.rules.specs.Refusals.{◌then◌}
use Rattle.rules.specs.TakeAll.{Frame}
use Rattle.rules.specs.Kept.{Keeping}
use Rattle.rules.specs.Draw.{Method, frame_refusal}
use Rattle.rules.specs.Rotation.{Births, kept_lists_refusal}
use Rattle.frame.specs.Frame.{frame_of}
use Rattle.group_keeping.specs.Keeping.{keeping_of}
use Rattle.draw_key.specs.Methods.{method_of}
use Rattle.rotation_births.specs.Candidates.{births_of}
use Rattle.rotation_judge.specs.declared.Rotation.{Rotation}

-- a word of the method, the frame, the panel size, the old start and panel, the fraction, the births, and γ with the lists
abbrev pub over {ℓ} : {A : Type ℓ} → (Method → Frame → ℕ → ℕ → List ℕ → ℕ → Births → Keeping → A) → Rotation → A
over word r =
    word (method_of r.method) (frame_of r.frame) r.z r.candidates.previous.start r.candidates.panel.now r.fraction (births_of r.candidates)
    (keeping_of r.keeping)

-- 6, 30, 7, 25 and 26, against a buffer for the leavers
abbrev pub late_refusal : Rotation → List ℕ → ℕ
late_refusal r leavers = kept_lists_refusal r.frame.numbers.now r.candidates.panel.now r.fraction (births_of r.candidates) (keeping_of r.keeping) leavers

-- 1 to 5, and then those
abbrev pub early_refusal : Rotation → List ℕ → ℕ
early_refusal r leavers = frame_refusal (frame_of r.frame) r.z r.candidates.previous.start then late_refusal r leavers
