-- WRITTEN AND READ: reading a written stream to its end yields the commands that were given, absent operands 0.
use Prim.Native.Nat.{ℕ, zero, suc, ◌+◌, ◌≤◌, ◌<◌}
use mathlib.Core.Path.{◌≡◌, refl, sym, ap, ap₂, ◌∙◌}
use mathlib.Core.Bool.{false}
use mathlib.Core.List.{List, [], ◌∷◌, ◌++◌, map}
use lib.ListN.{length, get_or, take, drop, length-append, length-map}
use lib.Seq.{take_at, get_or-drop}
use native.Mathlib.Omega.{arith}
use Rattle.rules.specs.Limits.{most_stream}
use Rattle.rules.specs.Tests.{outside}
use Rattle.rules.specs.Lists.{any_of}
use Rattle.rules.specs.Refusals.{Judged, written, refuse, ◌then◌}
use Rattle.rules.specs.Stream.{Column, Front, reading_refusal, reading}
use Rattle.rules.specs.Writing.{Row, Lists, lists, command_bytes, stream_of, rows_of, rows_in, stream_in, write_refusal, write_answer, write_bytes, Whole, whole_by, whole_of, row_of, command_in, columns, rows_read, too_short, written_over, read_all_refusal, read_all_answer, read_all_lists}
use Rattle.rules.proofs.Tests.{or_false}
use Rattle.rules.proofs.Refusals.{given_tells}
use Rattle.stream_write.specs.Answer.{blank}
use Rattle.stream_write.proofs.Rows.{accepted, no_stream, one_more_lem, rows_kinds, rows_length}
use Rattle.stream_all.proofs.Readings.{by_reading}
use Rattle.stream_copy.specs.Copied.{InWidths, cleared}
use Rattle.stream_copy.proofs.Front.{Fitting, reads_command, rest_behind, row_again}

nothing_left : reading [] ≡ Judged.given Front.ended
unfolding reading reading_refusal refuse ◌then◌
nothing_left = refl

known_parts : (k : ℕ) (ks : List ℕ) → any_of (outside 1 7) (k ∷ ks) ≡ false → (outside 1 7 k ≡ false) × (any_of (outside 1 7) ks ≡ false)
unfolding any_of
known_parts k ks e = or_false (outside 1 7 k) (any_of (outside 1 7) ks) e

abbrev kinds_of : List Row → List ℕ
kinds_of rs = map (λ (r : Row). r.kind) rs

-- every row of a list is in its widths
abbrev AllFitting : List Row → Type 0
AllFitting rs = (i : ℕ) → Fitting (get_or rs i blank)

rows_read_lem : (rs : List Row) → AllFitting rs → any_of (outside 1 7) (kinds_of rs) ≡ false → length (stream_of rs) ≤ most_stream
    → whole_of (stream_of rs) ≡ record { commands = map command_in rs; stop = 0 }
rows_read_lem [] f known short = ap whole_of no_stream ∙ by_reading [] (Judged.given Front.ended) nothing_left
rows_read_lem (r ∷ rs) f known short =
    let parts = known_parts r.kind (kinds_of rs) known in
    let e = one_more_lem r rs in
    let here : length (command_bytes r ++ stream_of rs) ≤ most_stream = omega (arith, ap length e) in
    let later : length (stream_of rs) ≤ most_stream = omega (arith, length-append (command_bytes r) (stream_of rs)) in
    let found = Judged.given (Front.command (command_in r)) in
    ap whole_of e
    ∙ by_reading (command_bytes r ++ stream_of rs) found (reads_command r (stream_of rs) (f 0) parts.0 here)
    ∙ ap (λ (s : List ℕ). whole_by found (whole_of s)) (rest_behind r (stream_of rs) (f 0) parts.0 here)
    ∙ ap (whole_by found) (rows_read_lem rs (λ i. f (suc i)) parts.1 later)

rows_again : (rs : List Row) → any_of (outside 1 7) (kinds_of rs) ≡ false → map row_of (map command_in rs) ≡ map cleared rs
rows_again [] known = refl
rows_again (r ∷ rs) known =
    let parts = known_parts r.kind (kinds_of rs) known in
    ap₂ (λ (q : Row) (qs : List Row). q ∷ qs) (row_again r parts.0) (rows_again rs parts.1)

-- ---- the rows of lists in their widths
later : (n : ℕ) (s : List ℕ) → ((i : ℕ) → get_or s i 0 < n) → (i : ℕ) → get_or (drop 1 s) i 0 < n
later n s b i = rw (get_or-drop 1 s i 0) (b (1 + i))

blank_fits : Fitting blank
blank_fits Column.size = omega arith
blank_fits Column.part = omega arith
blank_fits Column.number = omega arith
blank_fits Column.random = omega arith
blank_fits Column.amount = omega arith

fits_at : (ks ps gs ws rs xs : List ℕ) → InWidths (lists ks ps gs ws rs xs) → AllFitting (rows_of ks ps gs ws rs xs)
unfolding rows_of
fits_at [] ps gs ws rs xs f i c = blank_fits c
fits_at (k ∷ ks) ps gs ws rs xs f zero Column.size = f.sizes 0
fits_at (k ∷ ks) ps gs ws rs xs f zero Column.part = f.shares 0
fits_at (k ∷ ks) ps gs ws rs xs f zero Column.number = f.numbers 0
fits_at (k ∷ ks) ps gs ws rs xs f zero Column.random = f.randoms 0
fits_at (k ∷ ks) ps gs ws rs xs f zero Column.amount = f.amounts 0
fits_at (k ∷ ks) ps gs ws rs xs f (suc i) c =
    let g : InWidths (lists ks (drop 1 ps) (drop 1 gs) (drop 1 ws) (drop 1 rs) (drop 1 xs)) =
    record {
      sizes = later _ ps f.sizes;
      shares = later _ gs f.shares;
      numbers = later _ ws f.numbers;
      randoms = later _ rs f.randoms;
      amounts = later _ xs f.amounts;
    } in
    fits_at ks (drop 1 ps) (drop 1 gs) (drop 1 ws) (drop 1 rs) (drop 1 xs) g i c

-- ---- the theorem
module _ (l : Lists) (out : List ℕ) (n : ℕ) (widths : InWidths l) (answer : Judged.given n ≡ write_answer l out) where
  taken : (write_refusal l out ≡ 0) × (n ≡ length (stream_in l))
  unfolding write_answer
  taken = given_tells (write_refusal l out) (length (stream_in l)) n answer

  known : any_of (outside 1 7) (kinds_of (rows_in l)) ≡ false
  known = ap (any_of (outside 1 7)) (rows_kinds l) ∙ (accepted l out taken.0).known

  stream_is : take n (write_bytes l out) ≡ stream_in l
  unfolding write_bytes
  stream_is =
      ap (λ (k : ℕ). take n (written k (stream_in l) out)) taken.0
      ∙ take_at (stream_in l) (drop (length (stream_in l)) out) n (sym taken.1)

  -- THEOREM: the bytes written, read to their end, are exactly the commands given
  pub written_reads : whole_of (take n (write_bytes l out)) ≡ record { commands = map command_in (rows_in l); stop = 0 }
  unfolding stream_in
  written_reads =
      ap whole_of stream_is
      ∙ rows_read_lem (rows_in l) (fits_at l.kinds l.sizes l.shares l.numbers l.randoms l.amounts widths) known (accepted l out taken.0).short

  -- and as rows they are those given, absent operands 0
  pub written_rows : rows_read (take n (write_bytes l out)) ≡ map cleared (rows_in l)
  unfolding rows_read
  written_rows = ap (λ (w : Whole). map row_of w.commands) written_reads ∙ rows_again (rows_in l) known

  -- THEOREM, of the entry that reads a whole stream: into lists with the room it reads as many commands as were given, operands that a command does not have as 0
  pub written_read_all : (into : Lists) → too_short (length l.kinds) into ≡ false
      → (read_all_answer (take n (write_bytes l out)) into ≡ Judged.given (length l.kinds))
      × (read_all_lists (take n (write_bytes l out)) into ≡ written_over 0 (columns (map cleared (rows_in l))) into)
  unfolding read_all_answer read_all_lists read_all_refusal refuse ◌then◌
  written_read_all into room =
      let count : length (map cleared (rows_in l)) ≡ length l.kinds = length-map (rows_in l) cleared ∙ rows_length l in
      let stop : (whole_of (take n (write_bytes l out))).stop ≡ 0 = ap (λ (w : Whole). w.stop) written_reads in
      rw (stop, written_rows, count, room) (refl, refl)
