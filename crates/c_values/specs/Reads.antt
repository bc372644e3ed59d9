-- Document 01, "Job stream": a command that was read, as the C interface gives it.
use Rattle.std.specs.Prelude.{ℕ}
use Rattle.rules.specs.Stream as rules
use Rattle.c_values.specs.declared.reads.Read.{Read}

-- no command: every field but the refusal is 0. "With nothing left it answers that the stream has ended; that is no refusal."
abbrev pub nothing_read : ℕ → Read
nothing_read refusal = record { refusal = refusal; command = 0; taken = 0; first = 0; second = 0; third = 0 }

abbrev pub with_operands : ℕ → ℕ → ℕ → ℕ → ℕ → Read
with_operands command taken first second third =
    record { refusal = 0; command = command; taken = taken; first = first; second = second; third = third }

-- "1 unit: number, turnover, random. 2 draw: size, start. 3 share: place, share. 4 relative: place, relative. 5 open: start index. 6 quarter. 7 close."
-- Operands in the order of the stream; absent ones are 0.
abbrev pub command_read : rules.Command → ℕ → Read
command_read (rules.Command.unit number turnover random) taken = with_operands 1 taken number turnover random
command_read (rules.Command.draw size start) taken = with_operands 2 taken size start 0
command_read (rules.Command.share place share) taken = with_operands 3 taken place share 0
command_read (rules.Command.relative place relative) taken = with_operands 4 taken place relative 0
command_read (rules.Command.opens start) taken = with_operands 5 taken start 0 0
command_read rules.Command.quarter taken = with_operands 6 taken 0 0 0
command_read rules.Command.close taken = with_operands 7 taken 0 0 0
