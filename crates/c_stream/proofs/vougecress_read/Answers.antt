-- `vougecress_read`: what is read as the interface gives it, in each arm with the bytes that `taken` answers.
use mathlib.Core.Path.{◌≡◌, sym, ap, ap₂, ◌∙◌}
use Prim.Native.Nat.{ℕ}
use Rattle.rules.specs.Refusals.{Judged}
use Rattle.rules.specs.Stream.{Front}
use Rattle.std.proofs.Common.{Option, Result, Ok}
use Rattle.refusals.specs.declared.Refusal.{Refusal}
use Rattle.stream_read.specs.declared.Command.{Command}
use Rattle.stream_read.specs.Value.{reading_from}
use Rattle.c_values.specs.Reads.{nothing_read}
use Rattle.c_stream.specs.Streams.{read_from}
use Rattle.c_stream.proofs.Readings.{reads}
use Rattle.c_stream.proofs.vougecress_read.Goals as goal

-- a reading that is known beside the bytes that it takes, as the interface gives it
told : {x y : Result (Option Command) Refusal} {j : Judged Front} {n m : ℕ} → x ≡ y → reading_from x ≡ j → n ≡ m → read_from (reading_from y) n ≡ read_from j m
told same e bytes = ap₂ read_from (sym (ap reading_from same) ∙ e) bytes

pub returns-in-Ok-Some : goal.returns-in-Ok-Some
returns-in-Ok-Some c =
    let known = c.command_read.ensures ∙ told (c.in-Ok-Some.is ∙ ap Ok c.in-Ok-Some.field-0-is) c.read.ensures c.taken-taken.ensures in
    let w = reads c.args.stream.now c.command_read.result known in
    record { value = w.0; stream_value = w.1 }

pub returns-in-Ok-None : goal.returns-in-Ok-None
returns-in-Ok-None c =
    let known = c.nothing_read.ensures ∙ told (c.in-Ok-None.is ∙ ap Ok c.in-Ok-None.field-0-is) c.read.ensures c.taken-taken.ensures in
    let w = reads c.args.stream.now c.nothing_read.result known in
    record { value = w.0; stream_value = w.1 }

pub returns-in-Err : goal.returns-in-Err
returns-in-Err c =
    let known = told c.in-Err.is c.read.ensures c.taken-taken.ensures in
    let w = reads c.args.stream.now c.nothing_read-in-Err.result (c.nothing_read-in-Err.ensures ∙ ap nothing_read c.from.ensures ∙ known) in
    record { value = w.0; stream_value = w.1 }
