-- Calls on a chain record in a lent list: what they answer and what they leave there.
use Rattle.std.specs.Prelude.{ℕ, List, length, ltb}
use Rattle.rules.specs.Refusals.{Judged, refuse, ◌then◌, judged, written}
use Rattle.rules.specs.Chain.{Call, relatives, figure_of, call_refusal, accepted}
use Rattle.rules.specs.Panel.{Panel, panel_refusal, panel_record}
use Rattle.c_values.specs.Record.{record_places, record_in, record_list}

-- a list that is too short is no record: 19, before all else
unfoldable pub list_refusal : List ℕ → Call → ℕ
list_refusal xs call = refuse (ltb (length xs) record_places) 19 then call_refusal (record_in xs) call

unfoldable pub list_answer : List ℕ → Call → Judged ℕ
list_answer xs call = judged (list_refusal xs call) (figure_of (record_in xs) (relatives call))

-- the list after a call: the next record in its first places, or as it was
unfoldable pub list_after : List ℕ → Call → List ℕ
list_after xs call = written (list_refusal xs call) (record_list (accepted (record_in xs) call)) xs

-- what either open answers: 6 where the list has no room for a record, which is lower than the open's own
unfoldable pub opened_number : Panel → ℕ → List ℕ → ℕ
opened_number p start xs = refuse (ltb (length xs) record_places) 6 then panel_refusal p start

-- the list after an open: the new record in its first places, or as it was
unfoldable pub opened_list : Panel → ℕ → List ℕ → List ℕ
opened_list p start xs = written (opened_number p start xs) (record_list (panel_record p start)) xs
