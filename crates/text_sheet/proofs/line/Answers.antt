-- Refused: the buffer is as it was. Else the input has what `moved` and `lay` ask, and what they give is the defined answer and line.
use mathlib.Core.Path.{◌≡◌, sym, ap, ◌∙◌}
use mir.Syntax.{w64}
use mir.Val.{to_z, of_z}
use mir.Facts.{to_z-of_z}
use Rattle.std.proofs.Common.{rules}
use Rattle.rules.specs.Refusals.{Judged, refuse}
use Rattle.rules.specs.Sheet.{Change, sheet_refusal, sheet_answer, sheet_bytes}
use Rattle.text_decimal.proofs.Laying.{fronted}
use Rattle.text_decimal.proofs.Writing.{says}
use Rattle.text_sheet.specs.Answer.{pieces_of}
use Rattle.text_sheet.proofs.Columns.{accepted, line_pieces}
use Rattle.text_sheet.proofs.line.Goals as goal

pub returns-then-bad_line : goal.returns-then-bad_line
unfolding sheet_answer sheet_bytes sheet_refusal refuse
returns-then-bad_line c = let bad = sym c.bad_line.ensures ∙ c.if-bad_line.true in
    record { result_value = rw bad; out_after = rw bad }

pub moved-change-requires : goal.moved-change-requires
moved-change-requires c = let good = accepted _ _ _ _ (sym c.bad_line.ensures ∙ c.if-bad_line.false) in
    (good.new_high, good.old_low, good.old_high)

pub lay-requires : goal.lay-requires
lay-requires c = let good = accepted _ _ _ _ (sym c.bad_line.ensures ∙ c.if-bad_line.false) in
    let same : to_z w64 (of_z w64 c.moved-change.result.hundredths) ≡ c.moved-change.result.hundredths = to_z-of_z {w = w64} (search rules) in
    (good.named, good.new_high, rw same c.moved-change.ensures.sized, good.fits)

pub returns : goal.returns
unfolding sheet_answer sheet_bytes sheet_refusal refuse
returns c = let good = sym c.bad_line.ensures ∙ c.if-bad_line.false in
    let name = c.args.name.now in
    let same : to_z w64 (of_z w64 c.moved-change.result.hundredths) ≡ c.moved-change.result.hundredths = to_z-of_z {w = w64} (search rules) in
    let laid = rw same at c.lay.ensures in
    let told = c.moved-change.ensures.result_value in
    let text = ap (λ (x : Change). pieces_of name c.args.new x.hundredths) told ∙ line_pieces name c.args.new c.args.old in
    record { result_value = rw good (ap Judged.given told); out_after = rw good (search rules ∙ fronted (says text laid).put) }
