-- Document 01, "Job stream": the command that a call on the chain is.
use Rattle.rules.specs.Stream.{Command}
use Rattle.chain.specs.declared.Kind.{Kind}
use Rattle.chain.specs.declared.Kind.TheVariants.{Quarter, Close}

-- "6 quarter. 7 close."
abbrev pub command_by : Kind → Command
command_by Quarter = Command.quarter
command_by Close = Command.close
