-- `held`: a list that is too short holds no record; else the record is read.
use borrow.Author.Tests.{lt-ltb, le-ltb}
use lib.ListN.{length}
use Rattle.c_values.specs.Record.{record_places}
use Rattle.c_year.specs.Year.{lent_record}
use Rattle.c_year.proofs.held.Goals as goal

pub returns-then-lent-lt-RECORD : goal.returns-then-lent-lt-RECORD
unfolding lent_record
returns-then-lent-lt-RECORD c = rw (lt-ltb (length c.args.lent.now) record_places c.if-lent-lt-RECORD.true) c.empty.ensures

pub returns : goal.returns
unfolding lent_record
returns c = rw (le-ltb (length c.args.lent.now) record_places c.if-lent-lt-RECORD.false) c.load.ensures
