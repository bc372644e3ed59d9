-- What the code's rows are in the definitions of `rules`.
use Rattle.rules.specs.Writing as rules
use Rattle.stream_row.specs.declared.Row.{Row}

abbrev pub row_from : Row → rules.Row
row_from r = rules.row r.kind r.size r.share r.number r.random r.amount
