-- Each arm by the table at its command byte; the width leaves room for every operand.
use native.Mathlib.Omega.{arith}
use Rattle.stream_bytes.proofs.Joined.{byte}
use Rattle.rules.specs.Stream.{operands_of, command_of, width_of}
use Rattle.stream_read.proofs.operands.Goals as goal

pub word_at-requires : goal.word_at-requires
unfolding width_of command_of operands_of
word_at-requires c = omega (arith, rw c.in-Unit.is at c.requires)

pub two_words-requires : goal.two_words-requires
unfolding width_of command_of operands_of
two_words-requires c = omega (arith, rw c.in-Unit.is at c.requires)

pub word_at-requires-in-Unit : goal.word_at-requires-in-Unit
unfolding width_of command_of operands_of
word_at-requires-in-Unit c = omega (arith, rw c.in-Unit.is at c.requires)

pub bounds-s-1 : goal.bounds-s-1
unfolding width_of command_of operands_of
bounds-s-1 c = omega (arith, rw c.in-Draw.is at c.requires)

pub word_at-requires-in-Draw : goal.word_at-requires-in-Draw
unfolding width_of command_of operands_of
word_at-requires-in-Draw c = omega (arith, rw c.in-Draw.is at c.requires)

pub bounds-s-1-in-Share : goal.bounds-s-1-in-Share
unfolding width_of command_of operands_of
bounds-s-1-in-Share c = omega (arith, rw c.in-Share.is at c.requires)

pub two_bytes-requires : goal.two_bytes-requires
unfolding width_of command_of operands_of
two_bytes-requires c = omega (arith, rw c.in-Share.is at c.requires)

pub bounds-s-1-in-Relative : goal.bounds-s-1-in-Relative
unfolding width_of command_of operands_of
bounds-s-1-in-Relative c = omega (arith, rw c.in-Relative.is at c.requires)

pub word_at-requires-in-Relative : goal.word_at-requires-in-Relative
unfolding width_of command_of operands_of
word_at-requires-in-Relative c = omega (arith, rw c.in-Relative.is at c.requires)

pub two_words-requires-in-Open : goal.two_words-requires-in-Open
unfolding width_of command_of operands_of
two_words-requires-in-Open c = omega (arith, rw c.in-Open.is at c.requires)

pub returns-in-Unit : goal.returns-in-Unit
unfolding command_of operands_of
returns-in-Unit c = rw (c.in-Unit.is, c.word_at.ensures, c.two_words.ensures, c.word_at-in-Unit.ensures)

pub returns-in-Draw : goal.returns-in-Draw
unfolding command_of operands_of
returns-in-Draw c = rw (c.in-Draw.is, byte c.args.s.now 1, c.word_at-in-Draw.ensures)

pub returns-in-Share : goal.returns-in-Share
unfolding command_of operands_of
returns-in-Share c = rw (c.in-Share.is, byte c.args.s.now 1, c.two_bytes.ensures)

pub returns-in-Relative : goal.returns-in-Relative
unfolding command_of operands_of
returns-in-Relative c = rw (c.in-Relative.is, byte c.args.s.now 1, c.word_at-in-Relative.ensures)

pub returns-in-Open : goal.returns-in-Open
unfolding width_of command_of operands_of
returns-in-Open c = rw (c.in-Open.is, c.two_words-in-Open.ensures)

pub returns-in-Quarter : goal.returns-in-Quarter
unfolding width_of command_of operands_of
returns-in-Quarter c = rw c.in-Quarter.is

pub returns-in-Close : goal.returns-in-Close
unfolding command_of operands_of
returns-in-Close c = rw c.in-Close.is
