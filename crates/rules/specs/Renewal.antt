-- Document 02, [11]: "A renewal opens new weights from a record, takes its C as the start index and its link count onward; its closes begin at 0, and its
-- lists need not have the record's length."
use Rattle.std.specs.Prelude.{ℕ}
use Rattle.rules.specs.Refusals.{Judged, refuse, ◌then◌, judged, stays}
use Rattle.rules.specs.Chain.{Chain, broken}
use Rattle.rules.specs.Panel.{Panel, panel_refusal, panel_record}

-- 19 of the record that is handed in, "before all else", and then the opening's; "a renewal itself is not refused by" 24
unfoldable pub renewal_refusal : Chain → Panel → ℕ
renewal_refusal r p = refuse (broken r) 19 then panel_refusal p r.index

-- a record with another number of links
abbrev pub with_links : ℕ → Chain → Chain
with_links n r = record { weights = r.weights; units = r.units; index = r.index; closes = r.closes; links = n }

-- the record of an accepted renewal: the opened one, with the links made so far
unfoldable pub renewed_record : Chain → Panel → Chain
renewed_record r p = with_links r.links (panel_record p r.index)

unfoldable pub renewal_answer : Chain → Panel → Judged Chain
renewal_answer r p = judged (renewal_refusal r p) (renewed_record r p)

-- the record after a renewal: a refusal "changes nothing"
unfoldable pub renewal_after : Chain → Panel → Chain
renewal_after r p = stays (renewal_refusal r p) r (renewed_record r p)
