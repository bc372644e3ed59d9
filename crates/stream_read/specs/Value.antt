-- Document 01, "Job stream": what the code's commands and readings are in the definitions of `rules`, and the bytes that a reading takes.
use Rattle.std.specs.Prelude.{◌≡◌, ℕ, true, List, get_or, Option, Some, None, Result, Ok, Err}
use Rattle.rules.specs.Refusals.{Judged}
use Rattle.rules.specs.Tests.{outside}
use Rattle.rules.specs.Stream as rules
use Rattle.refusals.specs.Number.{number_of, answer_of}
use Rattle.refusals.specs.declared.Refusal.{Refusal}
use Rattle.stream_read.specs.declared.Command.{Command}
use Rattle.stream_read.specs.declared.Command.TheVariants.{Unit, Draw, Share, Relative, Open, Quarter, Close}
use Rattle.stream_read.specs.declared.Kind.{Kind}

-- each command with its operands
abbrev pub command_from : Command → rules.Command
command_from (Unit number turnover random) = rules.Command.unit number turnover random
command_from (Draw size start) = rules.Command.draw size start
command_from (Share place share) = rules.Command.share place share
command_from (Relative place relative) = rules.Command.relative place relative
command_from (Open start) = rules.Command.opens start
command_from Quarter = rules.Command.quarter
command_from Close = rules.Command.close

-- the command byte of a kind
abbrev pub byte_of : Kind → ℕ
byte_of Kind.Unit = 1
byte_of Kind.Draw = 2
byte_of Kind.Share = 3
byte_of Kind.Relative = 4
byte_of Kind.Open = 5
byte_of Kind.Quarter = 6
byte_of Kind.Close = 7

-- what a command byte is read as: the kind that has it; else 16, where no kind has it
abbrev pub Reads : ℕ → Result Kind Refusal → Type 0
Reads k (Ok kind) = byte_of kind ≡ k
Reads k (Err why) = (number_of why ≡ 16) × (outside 1 7 k ≡ true)

-- a command, or the end
abbrev pub front_from : Option Command → rules.Front
front_from (Some c) = rules.Front.command (command_from c)
front_from None = rules.Front.ended

-- a command, the end, or document 01's number of the refusal
abbrev pub reading_from : Result (Option Command) Refusal → Judged rules.Front
reading_from = answer_of front_from

-- the bytes that a reading takes: none where no command was read
abbrev pub taken_by : Judged rules.Front → ℕ → ℕ
taken_by (Judged.refused n) width = 0
taken_by (Judged.given rules.Front.ended) width = 0
taken_by (Judged.given (rules.Front.command c)) width = width

-- the bytes that the reading at the front of s takes
unfoldable pub taken_of : List ℕ → ℕ
taken_of s = taken_by (rules.reading s) (rules.width_of (get_or s 0 0))
