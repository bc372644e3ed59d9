-- `vougecress_open`: a short list is 6; else the inner open's number, with its record in the list where it is 0.
use mathlib.Core.Path.{◌≡◌}
use mathlib.Core.List.{List}
use Prim.Native.Nat.{ℕ, ◌≤◌}
use Rattle.std.proofs.Common.{rules}
use Rattle.std.specs.Prelude.{Result}
use borrow.Author.Tests.{lt-ltb, le-ltb}
use lib.ListN.{length}
use Rattle.refusals.specs.declared.Refusal.{Refusal}
use Rattle.rules.specs.Refusals.{refuse, ◌then◌}
use Rattle.rules.specs.Chain.{shared, open_refusal, open_record, open_answer}
use Rattle.rules.specs.Panel.{plain}
use Rattle.chain.specs.declared.Chain.{Chain}
use Rattle.chain_open.specs.Opened.{opening_of}
use Rattle.c_values.specs.Record.{record_places, opening_number, opened_list}
use Rattle.c_values.proofs.Places.{opened_is}
use Rattle.c_chain.specs.Record.{opened_number, opened_list as list_after_open}
use Rattle.c_chain.proofs.records.vougecress_open.Goals as goal

pub returns-then-lent-lt-RECORD : goal.returns-then-lent-lt-RECORD
unfolding opened_number list_after_open refuse ◌then◌
returns-then-lent-lt-RECORD c = let short = lt-ltb (length c.args.lent.now) record_places c.if-lent-lt-RECORD.true in
    let number : c.from.result ≡ 6 = search rules in
    record { value = rw short number; lent_after = rw short }

-- what an open leaves in a list that has room; no step of the code is named, so that what is written beside the open is refused by the list
module _ (ws gs rs : List ℕ) (start : ℕ) (o : Result Chain Refusal) (xs : List ℕ) (room : record_places ≤ length xs) (e : opening_of o ≡ open_answer ws gs rs start) where
  number_left : opening_number o ≡ opened_number (plain ws gs rs) start xs
  unfolding opened_number open_answer refuse ◌then◌
  number_left = rw (le-ltb (length xs) record_places room) (opened_is o (open_refusal ws gs rs start) (open_record (shared ws gs) rs start) xs e).0

  list_left : opened_list o xs ≡ list_after_open (plain ws gs rs) start xs
  unfolding opened_number list_after_open open_answer refuse ◌then◌
  list_left = rw (le-ltb (length xs) record_places room) (opened_is o (open_refusal ws gs rs start) (open_record (shared ws gs) rs start) xs e).1

pub returns : goal.returns
returns c = record { value = search (rules, number_left); lent_after = search (rules, list_left) }
