-- The stream of the first i rows stands at the front.
use Prim.Native.Nat.{ℕ, ◌<◌}
use mathlib.Core.Path.{sym, ap, ◌∙◌}
use mathlib.Core.List.{◌++◌}
use lib.ListN.{length, get_or, take}
use native.Mathlib.Omega.{arith}
use Rattle.rules.specs.Stream.{width_of}
use Rattle.rules.specs.Writing.{Row, Lists, command_bytes, stream_of, rows_in, stream_in}
use Rattle.text_decimal.proofs.Writing.{then, says, nothing}
use Rattle.text_decimal.specs.declared.Writer.{Writer}
use Rattle.text_decimal.specs.Wrote.{Room, Wrote}
use Rattle.stream_write.proofs.Rows.{no_stream, next_row, room_for, all_rows, rows_length}
use Rattle.stream_write.specs.Answer.{lists_of, blank}
use Rattle.stream_write.proofs.put_all.Goals as goal

more : (l : Lists) (i : ℕ) → i < length l.kinds → i < length (rows_in l)
more l i h = omega (arith, rows_length l)

-- the row of the turn has room behind those that stand
room : (l : Lists) (w v : Writer) (i : ℕ) → Room w (length (stream_in l)) → i < length l.kinds → Wrote w (stream_of (take i (rows_in l))) v
    → Room v (width_of (get_or (rows_in l) i blank).kind)
unfolding stream_in
room l w v i fits h wrote = omega (arith, room_for (rows_in l) i (more l i h), wrote.put.place, wrote.size)

pub loop-i-init : goal.loop-i-init
loop-i-init c = says (sym no_stream) (nothing c.args.w.now (omega arith))

pub row-requires : goal.row-requires
row-requires c = (c.requires.0, c.loop-i-test.true)

pub put_command-requires : goal.put_command-requires
put_command-requires c =
    omega (arith, room (lists_of c.args.lists.now) _ _ _ c.requires.1 c.loop-i-test.true c.loop-i.invariant, ap (λ (x : Row). width_of x.kind) c.row.ensures)

pub loop-i-preserved : goal.loop-i-preserved
loop-i-preserved c =
    let l = lists_of c.args.lists.now in
    let rs = rows_in l in
    let longer = ap (λ (x : Row). stream_of (take c.loop-i.i rs) ++ command_bytes x) c.row.ensures ∙ sym (next_row rs c.loop-i.i (more l _ c.loop-i-test.true)) in
    says longer (then c.loop-i.invariant c.put_command.ensures)

pub returns : goal.returns
unfolding stream_in
returns c =
    let l = lists_of c.args.lists.now in
    says (all_rows (rows_in l) c.loop-i.i (omega (arith, rows_length l, c.loop-i-test.false))) c.loop-i.invariant
