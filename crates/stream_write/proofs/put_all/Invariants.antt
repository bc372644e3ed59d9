-- The stream of the first i rows was laid.
use lib.ListN.{take}
use Rattle.stream_write.specs.Answer.{lists_of}
use Rattle.rules.specs.Writing.{stream_of, rows_in}
use Rattle.text_decimal.specs.Wrote.{Wrote}
use Rattle.stream_write.proofs.put_all.Given as goal

abbrev pub invariant-loop-i : goal.invariant-loop-i
invariant-loop-i l = Wrote l.initial.w (stream_of (take l.i (rows_in (lists_of l.lists)))) l.w
