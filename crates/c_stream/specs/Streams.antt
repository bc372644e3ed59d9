-- Document 01, "Job stream": a reading, and a run of a whole stream, as the C interface gives them.
use Rattle.std.specs.Prelude.{ℕ}
use Rattle.rules.specs.Refusals.{Judged}
use Rattle.rules.specs.Stream as rules
use Rattle.c_values.specs.declared.reads.Read.{Read}
use Rattle.c_values.specs.Reads.{nothing_read, command_read}
use Rattle.c_stream.specs.declared.Run.{Run}

-- a command with the bytes that it takes, the end, or a refusal
abbrev pub read_from : Judged rules.Front → ℕ → Read
read_from (Judged.refused n) taken = nothing_read n
read_from (Judged.given rules.Front.ended) taken = nothing_read 0
read_from (Judged.given (rules.Front.command c)) taken = command_read c taken

-- a run: the bytes of the text that was laid; after a refusal 0
abbrev pub ran_from : Judged ℕ → Run
ran_from (Judged.refused n) = record { refusal = n; length = 0 }
ran_from (Judged.given bytes) = record { refusal = 0; length = bytes }
