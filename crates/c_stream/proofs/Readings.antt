-- The bytes that a reading says are those after which the rest begins.
use mathlib.Core.Path.{◌≡◌, refl, sym, ap, ◌∙◌}
use mathlib.Core.List.{List}
use Prim.Native.Nat.{ℕ}
use lib.ListN.{get_or, drop}
use Rattle.rules.specs.Refusals.{Judged}
use Rattle.rules.specs.Stream.{Command, Front, width_of, reading, rest_of}
use Rattle.stream_read.specs.Value.{taken_by, taken_of}
use Rattle.stream_read.proofs.Unread.{rest_is}
use Rattle.c_values.specs.declared.reads.Read.{Read}
use Rattle.c_values.specs.Reads.{command_read}
use Rattle.c_stream.specs.Streams.{read_from}

command_takes : (c : Command) (n : ℕ) → (command_read c n).taken ≡ n
command_takes (Command.unit a b d) n = refl
command_takes (Command.draw a b) n = refl
command_takes (Command.share a b) n = refl
command_takes (Command.relative a b) n = refl
command_takes (Command.opens a) n = refl
command_takes Command.quarter n = refl
command_takes Command.close n = refl

reading_takes : (r : Judged Front) (width : ℕ) → (read_from r (taken_by r width)).taken ≡ taken_by r width
reading_takes (Judged.refused n) width = refl
reading_takes (Judged.given Front.ended) width = refl
reading_takes (Judged.given (Front.command c)) width = command_takes c width

-- what is read, and the rest by what it says
pub reads : (s : List ℕ) (r : Read) → r ≡ read_from (reading s) (taken_of s) → (r ≡ read_from (reading s) (taken_of s)) × (rest_of s ≡ drop r.taken s)
unfolding taken_of
reads s r e =
    let width = width_of (get_or s 0 0) in
    let bytes : r.taken ≡ taken_of s = ap (λ (x : Read). x.taken) e ∙ reading_takes (reading s) width in
    (e, rest_is s ∙ ap (λ (n : ℕ). drop n s) (sym bytes))
