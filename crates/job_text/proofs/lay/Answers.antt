-- By what the step says: each line has room, so that the bytes laid are the whole text.
use mathlib.Core.Path.{◌≡◌, ap, ap₂, ◌∙◌}
use Prim.Native.Nat.{ℕ}
use lib.ListN.{length-take}
use native.Mathlib.Omega.{arith}
use Rattle.rules.specs.Limits.{most_panel}
use Rattle.rules.specs.Refusals.{Judged}
use Rattle.rules.specs.Job as rules
use Rattle.rules.specs.Lines.{panel_lines, refusal_line}
use Rattle.text_lines.specs.Laid.{line_room}
use Rattle.chain.specs.declared.Kind.{Kind}
use Rattle.job_state.specs.declared.Saying.TheVariants as Saying
use Rattle.job_state.proofs.FirstPlaces.{lent}
use Rattle.job_text.specs.Text.{text_at}
use Rattle.job_text.proofs.Texts.{laid_all, says, says_ok}
use borrow.Author.Rules.{rules}
use Rattle.job_text.proofs.lay.Goals as goal

pub returns-in-Err : goal.returns-in-Err
returns-in-Err c =
    let text = λ (said : Judged rules.Saying). text_at said c.args.at in
    let line = ap (λ (k : ℕ). refusal_line k c.args.at) c.from.ensures in
    let e = line ∙ says text c.args.stepped _ c.in-Err.is in
    laid_all line_room _ _ _ _ _ e (omega arith) c.refusal_line.ensures

pub returns-in-Ok-Panel : goal.returns-in-Ok-Panel
returns-in-Ok-Panel c =
    let text = λ (said : Judged rules.Saying). text_at said c.args.at in
    let ns = lent c.in-Ok-Panel.numbers _ c.args.stepped.job.panel.size most_panel (search rules) c.units.ensures in
    let panel : c.in-Ok-Panel.field-0 ≡ Saying.Panel c.in-Ok-Panel.numbers = rw c.in-Ok-Panel.is at c.in-Ok-Panel.field-0-is in
    let e = ap₂ panel_lines ns c.lent.ensures.weights ∙ says_ok text c.args.stepped _ _ c.in-Ok-Panel.is panel in
    laid_all _ _ _ _ _ _ e (simp length-take (omega arith)) c.panel_lines.ensures

pub returns-in-Ok-Figure-Quarter-default : goal.returns-in-Ok-Figure-Quarter-default
returns-in-Ok-Figure-Quarter-default c =
    let text = λ (said : Judged rules.Saying). text_at said c.args.at in
    let said = c.in-Ok-Figure-Quarter-default in
    let figure : said.field-0 ≡ Saying.Figure said.field-0-0 said.f = rw said.is at said.field-0-is in
    let kind : said.field-0-0 ≡ Kind.Quarter = rw (said.is, figure) at said.field-0-0-is in
    let e = says_ok text c.args.stepped _ _ said.is (figure ∙ ap (λ (k : Kind). Saying.Figure k said.f) kind) in
    laid_all line_room _ _ _ _ _ e (omega arith) c.quarter_line.ensures

pub returns-in-Ok-Figure-Close-default : goal.returns-in-Ok-Figure-Close-default
returns-in-Ok-Figure-Close-default c =
    let text = λ (said : Judged rules.Saying). text_at said c.args.at in
    let said = c.in-Ok-Figure-Close-default in
    let figure : said.field-0 ≡ Saying.Figure said.field-0-0 said.f = rw said.is at said.field-0-is in
    let kind : said.field-0-0 ≡ Kind.Close = rw (said.is, figure) at said.field-0-0-is in
    let e = says_ok text c.args.stepped _ _ said.is (figure ∙ ap (λ (k : Kind). Saying.Figure k said.f) kind) in
    laid_all line_room _ _ _ _ _ e (omega arith) c.close_line.ensures
