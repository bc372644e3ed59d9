-- READ AND WRITTEN: writing what was read from a stream that the reader takes to its end yields the same bytes.
use Prim.Native.Nat.{ℕ, zero, suc, ◌+◌, ◌≤◌, ◌<◌}
use mathlib.Core.Path.{◌≡◌, refl, sym, ap, ap₂, ◌∙◌}
use mathlib.Core.Bool.{Bool, true, false, cond}
use mathlib.Core.List.{List, [], ◌∷◌, ◌++◌, map}
use lib.ListN.{length, get_or, take, drop, length-map, take-append-drop}
use lib.Seq.{take_at, get_or-drop}
use lib.Dec.{eqb}
use native.Mathlib.Omega.{arith}
use borrow.Author.Tests.{le-ltb, ltb-false, eqb-true, eqb-false, eq-eqb}
use Rattle.rules.specs.Limits.{most_stream}
use Rattle.rules.specs.Tests.{outside, ◌or◌}
use Rattle.rules.specs.Lists.{any_of}
use Rattle.rules.specs.Refusals.{Judged, judged, written, refuse, ◌then◌}
use Rattle.rules.specs.Stream.{Command, Front, width_of, command_of, reading_refusal, reading, rest_by, rest_of}
use Rattle.rules.specs.Writing.{Row, Lists, command_bytes, stream_of, rows_of, rows_in, stream_in, differ, unequal, write_refusal, write_answer, write_bytes, Whole, whole_of, row_of, columns, rows_read, too_short, written_over, read_all_refusal, read_all_answer, read_all_lists}
use Rattle.rules.proofs.Refusals.{then_none, refuse_none, given_tells}
use Rattle.stream_read.proofs.Unread.{rest_shorter}
use Rattle.stream_write.proofs.Rows.{no_stream, one_more_lem}
use Rattle.stream_all.proofs.Readings.{by_reading}
use Rattle.stream_copy.specs.Copied.{Bytes, firsts}
use Rattle.stream_copy.proofs.Front.{front_again}

-- ---- what the reader has judged
-- a reading by its number
number_read : (n k : ℕ) (front : Front) → judged n front ≡ Judged.refused k → (n ≡ k) × (k ≡ 0 → ⊥)
number_read zero k front e = let z : ◌≡◌ {A = ℕ} 0 1 = cc in absurd (omega arith)
number_read (suc n) k front e =
    let s : suc n ≡ k = cc in
    (s, λ z. omega arith)

front_read : (n : ℕ) (front other : Front) → judged n front ≡ Judged.given other → (n ≡ 0) × (front ≡ other)
front_read n front other e =
    let t = given_tells n front other (sym e) in
    (t.0, sym t.1)

by_front : (empty : Bool) (x : Command) → (cond empty Front.ended (Front.command x) ≡ Front.ended → empty ≡ true)
    × ((c : Command) → cond empty Front.ended (Front.command x) ≡ Front.command c → (empty ≡ false) × (x ≡ c))
by_front true x = (λ e. refl, λ c e. let z : ◌≡◌ {A = ℕ} 0 1 = cc in absurd (omega arith))
by_front false x = (λ e. let z : ◌≡◌ {A = ℕ} 0 1 = cc in absurd (omega arith), λ c e. (refl, cc))

module _ (s : List ℕ) where
  abbrev its : Command
  its = command_of (get_or s 0 0) s

  refusal_some : (k : ℕ) → reading s ≡ Judged.refused k → k ≡ 0 → ⊥
  unfolding reading
  refusal_some k e = (number_read (reading_refusal s) k (cond (eqb (length s) 0) Front.ended (Front.command its)) e).1

  end_empty : reading s ≡ Judged.given Front.ended → length s ≡ 0
  unfolding reading
  end_empty e = eqb-true _ _ ((by_front (eqb (length s) 0) its).0 (front_read (reading_refusal s) _ Front.ended e).1)

  stream_front : (c : Command) → Bytes s → reading s ≡ Judged.given (Front.command c) → command_bytes (row_of c) ≡ take (width_of (get_or s 0 0)) s
  unfolding reading reading_refusal
  stream_front c b e =
      let r = front_read (reading_refusal s) (cond (eqb (length s) 0) Front.ended (Front.command its)) (Front.command c) e in
      let f = (by_front (eqb (length s) 0) its).1 c r.1 in
      let some : length s ≡ 0 → ⊥ = eqb-false _ _ f.0 in
      let late = then_none _ _ (rw f.0 at (then_none _ _ r.0).1) in
      ap (λ (x : Command). command_bytes (row_of x)) (sym f.1) ∙ front_again s b (omega arith) (refuse_none _ 15 late.0) (ltb-false _ _ (refuse_none _ 16 late.1))

  rest_of_command : (c : Command) → reading s ≡ Judged.given (Front.command c) → rest_of s ≡ drop (width_of (get_or s 0 0)) s
  unfolding rest_of
  rest_of_command c e = ap (λ (r : Judged Front). rest_by r s) e

-- ---- the stream
empty_list : (s : List ℕ) → length s ≡ 0 → [] ≡ s
empty_list [] e = refl
empty_list (x ∷ s) e = absurd (omega arith)

bytes_rest : (n : ℕ) (s : List ℕ) → Bytes s → Bytes (drop n s)
bytes_rest n s b i = rw (get_or-drop n s i 0) (b (n + i))

stream_again : (n : ℕ) (s : List ℕ) → length s < n → Bytes s → (whole_of s).stop ≡ 0 → stream_of (map row_of (whole_of s).commands) ≡ s
stream_again zero s h b e = absurd (omega arith)
stream_again (suc n) s h b e = go (reading s) refl (λ k. stream_again n (rest_of s) (omega arith))
  where
    go : (r : Judged Front) → reading s ≡ r
        → (length (rest_of s) < length s → Bytes (rest_of s) → (whole_of (rest_of s)).stop ≡ 0 → stream_of (map row_of (whole_of (rest_of s)).commands) ≡ rest_of s)
        → stream_of (map row_of (whole_of s).commands) ≡ s
    go (Judged.refused k) q rest =
        let stops : (whole_of s).stop ≡ k = ap (λ (w : Whole). w.stop) (by_reading s (Judged.refused k) q) in
        absurd (refusal_some s k q (sym stops ∙ e))
    go (Judged.given Front.ended) q rest =
        ap (λ (w : Whole). stream_of (map row_of w.commands)) (by_reading s (Judged.given Front.ended) q) ∙ no_stream ∙ empty_list s (end_empty s q)
    go (Judged.given (Front.command c)) q rest =
        let w = by_reading s (Judged.given (Front.command c)) q in
        let t = rest_of_command s c q in
        let clean : Bytes (rest_of s) = λ i. rw t (bytes_rest (width_of (get_or s 0 0)) s b i) in
        let later = rest (rest_shorter s c q) clean (sym (ap (λ (v : Whole). v.stop) w) ∙ e) in
        ap (λ (v : Whole). stream_of (map row_of v.commands)) w
        ∙ one_more_lem (row_of c) (map row_of (whole_of (rest_of s)).commands)
        ∙ ap₂ (λ (x y : List ℕ). x ++ y) (stream_front s c b q) (later ∙ t)
        ∙ take-append-drop (width_of (get_or s 0 0)) s

-- ---- the lists
rows_of_columns : (rs : List Row) → rows_in (columns rs) ≡ rs
unfolding rows_of
rows_of_columns [] = refl
rows_of_columns (r ∷ rs) = ap (λ (qs : List Row). r ∷ qs) (rows_of_columns rs)

known_commands : (cs : List Command) → any_of (outside 1 7) (columns (map row_of cs)).kinds ≡ false
unfolding any_of outside ◌or◌
known_commands [] = refl
known_commands (Command.unit a b d ∷ cs) = known_commands cs
known_commands (Command.draw a b ∷ cs) = known_commands cs
known_commands (Command.share a b ∷ cs) = known_commands cs
known_commands (Command.relative a b ∷ cs) = known_commands cs
known_commands (Command.opens a ∷ cs) = known_commands cs
known_commands (Command.quarter ∷ cs) = known_commands cs
known_commands (Command.close ∷ cs) = known_commands cs

equal_columns : (rs : List Row) → unequal (columns rs) ≡ false
unfolding differ ◌or◌
equal_columns rs =
    let n = length (columns rs).kinds in
    let same : (f : Row → ℕ) → eqb (length (map f rs)) n ≡ true = λ f. eq-eqb _ _ (length-map rs f ∙ sym (length-map rs (λ (r : Row). r.kind))) in
    simp (same (λ (r : Row). r.size), same (λ (r : Row). r.share), same (λ (r : Row). r.number), same (λ (r : Row). r.random), same (λ (r : Row). r.amount))

-- ---- the theorem
module _ (s out : List ℕ) (b : Bytes s) (to_end : (whole_of s).stop ≡ 0) (room : length s ≤ length out) where
  abbrev given : Lists
  given = columns (rows_read s)

  same_stream : stream_in given ≡ s
  unfolding stream_in rows_read
  same_stream = ap stream_of (rows_of_columns (rows_read s)) ∙ stream_again (suc (length s)) s (omega arith) b to_end

  not_long : length s ≤ most_stream
  unfolding reading reading_refusal
  not_long = go (reading s) refl
    where
      go : (r : Judged Front) → reading s ≡ r → length s ≤ most_stream
      go (Judged.refused k) q =
          let stops : (whole_of s).stop ≡ k = ap (λ (w : Whole). w.stop) (by_reading s (Judged.refused k) q) in
          absurd (refusal_some s k q (sym stops ∙ to_end))
      go (Judged.given front) q = ltb-false _ _ (refuse_none _ 14 (then_none _ _ (front_read (reading_refusal s) _ front q).0).0)

  taken : write_refusal given out ≡ 0
  unfolding write_refusal refuse ◌then◌ rows_read
  taken =
      let size = ap length same_stream in
      let short : length (stream_in given) ≤ most_stream = omega (arith, not_long) in
      let fits : length (stream_in given) ≤ length out = omega arith in
      simp (equal_columns (rows_read s), le-ltb _ _ short, known_commands (whole_of s).commands, le-ltb _ _ fits)

  -- THEOREM: the commands of a stream that the reader takes to its end, in six lists, are written as its bytes
  pub read_written : (write_answer given out ≡ Judged.given (length s)) × (write_bytes given out ≡ s ++ drop (length s) out)
  unfolding write_answer write_bytes
  read_written = rw (taken, same_stream) (refl, refl)

-- ---- the same of the entry that reads a whole stream
news : (f : Row → ℕ) (rs : List Row) (n : ℕ) (before : List ℕ) → n ≡ length rs → take n (written 0 (map f rs) before) ≡ map f rs
news f rs n before e = take_at (map f rs) (drop (length (map f rs)) before) n (length-map rs f ∙ sym e)

first_news : (rs : List Row) (n : ℕ) (l : Lists) → n ≡ length rs → firsts n (written_over 0 (columns rs) l) ≡ columns rs
first_news rs n l e =
    let k = news (λ (r : Row). r.kind) rs n l.kinds e in
    let p = news (λ (r : Row). r.size) rs n l.sizes e in
    let g = news (λ (r : Row). r.share) rs n l.shares e in
    let w = news (λ (r : Row). r.number) rs n l.numbers e in
    let r = news (λ (r : Row). r.random) rs n l.randoms e in
    let x = news (λ (r : Row). r.amount) rs n l.amounts e in
    cc

module _ (s : List ℕ) (l : Lists) (n : ℕ) (answer : Judged.given n ≡ read_all_answer s l) where
  none : (read_all_refusal s l ≡ 0) × (n ≡ length (rows_read s))
  unfolding read_all_answer
  none = given_tells (read_all_refusal s l) (length (rows_read s)) n answer

  to_end : (whole_of s).stop ≡ 0
  unfolding read_all_refusal
  to_end = (then_none (whole_of s).stop (refuse (too_short (length (rows_read s)) l) 6) none.0).0

  first_rows : firsts n (read_all_lists s l) ≡ columns (rows_read s)
  unfolding read_all_lists
  first_rows = ap (λ (k : ℕ). firsts n (written_over k (columns (rows_read s)) l)) none.0 ∙ first_news (rows_read s) n l none.1

  -- THEOREM: what was read into the first n places of six lists is written as the stream's bytes, and the bytes beyond stay
  pub reads_and_writes : (out : List ℕ) → Bytes s → length s ≤ length out
      → (write_answer (firsts n (read_all_lists s l)) out ≡ Judged.given (length s)) × (write_bytes (firsts n (read_all_lists s l)) out ≡ s ++ drop (length s) out)
  reads_and_writes out b room =
      let e = first_rows in
      let w = read_written s out b to_end room in
      (ap (λ (m : Lists). write_answer m out) e ∙ w.0, ap (λ (m : Lists). write_bytes m out) e ∙ w.1)
