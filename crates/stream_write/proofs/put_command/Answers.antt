-- The command byte, and then its operands as the table has them at each command byte.
use Prim.Native.Nat.{ℕ}
use mathlib.Core.Path.{◌≡◌, refl, sym, ap, ◌∙◌}
use mathlib.Core.List.{[], ◌∷◌, append-nil}
use native.Mathlib.Omega.{arith}
use Rattle.rules.specs.Stream.{Column, operands_of, width_of}
use Rattle.stream_read.specs.declared.Kind.{Kind}
use Rattle.stream_read.specs.Value.{byte_of}
use Rattle.stream_read.proofs.CommandBytes.{bare}
use Rattle.stream_row.specs.Value.{row_from}
use Rattle.stream_write.proofs.Rows.{some_width, command_laid, bare_laid}
use Rattle.stream_write.proofs.put_command.Goals as goal

-- the command byte of the row, by its kind
is : {kind which : Kind} {k : ℕ} → byte_of kind ≡ k → kind ≡ which → k ≡ byte_of which
is reads e = sym reads ∙ ap byte_of e

pub byte-requires : goal.byte-requires
byte-requires c = omega (arith, some_width c.args.row.kind)

pub put_unit-requires : goal.put_unit-requires
unfolding width_of operands_of
put_unit-requires c = let w = rw (is c.in-Ok-Unit.ensures c.in-Ok-Unit.field-0-is) at c.requires in
    omega arith

pub put_number-requires : goal.put_number-requires
unfolding width_of operands_of
put_number-requires c = let w = rw (is c.in-Ok-Draw.ensures c.in-Ok-Draw.field-0-is) at c.requires in
    omega arith

pub put_share-requires : goal.put_share-requires
unfolding width_of operands_of
put_share-requires c = let w = rw (is c.in-Ok-Share.ensures c.in-Ok-Share.field-0-is) at c.requires in
    omega arith

pub put_number-requires-in-Ok-Relative : goal.put_number-requires-in-Ok-Relative
unfolding width_of operands_of
put_number-requires-in-Ok-Relative c = let w = rw (is c.in-Ok-Relative.ensures c.in-Ok-Relative.field-0-is) at c.requires in
    omega arith

pub put_two_words-requires : goal.put_two_words-requires
unfolding width_of operands_of
put_two_words-requires c = let w = rw (is c.in-Ok-Open.ensures c.in-Ok-Open.field-0-is) at c.requires in
    omega arith

pub returns-in-Ok-Unit : goal.returns-in-Ok-Unit
unfolding width_of operands_of
returns-in-Ok-Unit c =
    command_laid (row_from c.args.row) 1 (Column.number ∷ Column.amount ∷ Column.random ∷ []) _ (is c.in-Ok-Unit.ensures c.in-Ok-Unit.field-0-is) refl (simp append-nil) c.byte.ensures c.put_unit.ensures

pub returns-in-Ok-Draw : goal.returns-in-Ok-Draw
unfolding width_of operands_of
returns-in-Ok-Draw c =
    command_laid (row_from c.args.row) 2 (Column.size ∷ Column.number ∷ []) _ (is c.in-Ok-Draw.ensures c.in-Ok-Draw.field-0-is) refl (simp append-nil) c.byte.ensures c.put_number.ensures

pub returns-in-Ok-Share : goal.returns-in-Ok-Share
unfolding width_of operands_of
returns-in-Ok-Share c =
    command_laid (row_from c.args.row) 3 (Column.size ∷ Column.part ∷ []) _ (is c.in-Ok-Share.ensures c.in-Ok-Share.field-0-is) refl (simp append-nil) c.byte.ensures c.put_share.ensures

pub returns-in-Ok-Relative : goal.returns-in-Ok-Relative
unfolding width_of operands_of
returns-in-Ok-Relative c =
    command_laid (row_from c.args.row) 4 (Column.size ∷ Column.number ∷ []) _ (is c.in-Ok-Relative.ensures c.in-Ok-Relative.field-0-is) refl (simp append-nil) c.byte.ensures c.put_number-in-Ok-Relative.ensures

pub returns-in-Ok-Open : goal.returns-in-Ok-Open
unfolding width_of operands_of
returns-in-Ok-Open c =
    command_laid (row_from c.args.row) 5 (Column.amount ∷ []) _ (is c.in-Ok-Open.ensures c.in-Ok-Open.field-0-is) refl (simp append-nil) c.byte.ensures c.put_two_words.ensures

pub returns-in-Ok-Quarter : goal.returns-in-Ok-Quarter
unfolding operands_of
returns-in-Ok-Quarter c =
    bare_laid (row_from c.args.row) (ap operands_of (is c.in-Ok-Quarter.ensures c.in-Ok-Quarter.field-0-is)) c.byte.ensures

pub returns-in-Ok-Close : goal.returns-in-Ok-Close
unfolding operands_of
returns-in-Ok-Close c =
    bare_laid (row_from c.args.row) (ap operands_of (is c.in-Ok-Close.ensures c.in-Ok-Close.field-0-is)) c.byte.ensures

-- a byte that asks for no command
pub returns-in-Err : goal.returns-in-Err
returns-in-Err c = bare_laid (row_from c.args.row) (bare c.args.row.kind c.in-Err.ensures.1) c.byte.ensures
