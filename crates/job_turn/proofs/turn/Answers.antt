-- By what was read: a refusal and the end stop, a command is stepped and its text laid.
use mathlib.Core.Path.{refl, sym, ap, ◌∙◌}
use Prim.Native.Nat.{ℕ}
use native.Mathlib.Omega.{arith}
use Rattle.rules.specs.Lines.{refusal_line}
use Rattle.std.proofs.Common.{Ok}
use Rattle.stream_read.specs.Value.{reading_from}
use Rattle.text_lines.specs.Laid.{line_room}
use Rattle.job_text.proofs.Texts.{laid_all}
use Rattle.job_turn.proofs.Turns.{renders, command_renders}
use Rattle.job_turn.proofs.turn.Goals as goal

pub returns-in-Err : goal.returns-in-Err
returns-in-Err c = let line = ap (λ (k : ℕ). refusal_line k c.saturating_sub-at.result) c.from.ensures in
    let l = laid_all line_room _ _ _ _ _ line (omega arith) c.refusal_line.ensures in
    renders _ _ _ _ _ _ _ c.saturating_sub-at.result (sym (ap reading_from c.in-Err.is) ∙ c.reading_at.ensures) c.saturating_sub-at.ensures
    refl refl refl l.0 l.1

pub returns-in-Ok-None : goal.returns-in-Ok-None
returns-in-Ok-None c = renders _ _ _ _ _ _ _ c.saturating_sub-at.result (sym (ap reading_from (c.in-Ok-None.is ∙ ap Ok c.in-Ok-None.field-0-is)) ∙ c.reading_at.ensures) c.saturating_sub-at.ensures refl refl refl refl refl

pub returns-in-Ok-Some : goal.returns-in-Ok-Some
returns-in-Ok-Some c = command_renders _ _ _ _ _ _ _ c.saturating_sub-at.result (sym (ap reading_from (c.in-Ok-Some.is ∙ ap Ok c.in-Ok-Some.field-0-is)) ∙ c.reading_at.ensures) c.saturating_sub-at.ensures _
    c.step-stepped.ensures refl c.continues-more.ensures c.lay-count.ensures
