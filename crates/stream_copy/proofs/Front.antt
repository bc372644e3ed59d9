-- One command: its bytes, read at the front of a part, are the command that the row says; and what was read has those bytes.
use Prim.Native.Nat.{ℕ, zero, suc, ◌+◌, ◌^◌, ◌≤◌, ◌<◌}
use mathlib.Core.Path.{◌≡◌, refl, sym, ap, ap₂, ◌∙◌}
use mathlib.Core.Bool.{false}
use mathlib.Core.List.{List, [], ◌∷◌, ◌++◌, map, append_assoc}
use lib.ListN.{length, get_or, take, drop, length-append}
use lib.Seq.{drop_at, drop-drop, take-add}
use native.Mathlib.Omega.{arith}
use borrow.Author.Tests.{le-ltb, ne_eqb}
use Rattle.rules.specs.Limits.{most_stream}
use Rattle.rules.specs.Tests.{outside, ◌or◌}
use Rattle.rules.specs.Lists.{any_of, elem}
use Rattle.rules.specs.Refusals.{Judged, refuse, ◌then◌}
use Rattle.rules.specs.Stream.{Column, Front, big_endian, bytes_in, bytes_of, operands_of, width_of, operands_from, command_by, command_of, reading_refusal, reading, rest_by, rest_of}
use Rattle.rules.specs.Writing.{Row, row, value_in, bytes_with, operand_bytes, command_bytes, row_of, command_in}
use Rattle.rules.proofs.Tests.{within}
use Rattle.stream_put.proofs.Halves.{bytes_length}
use Rattle.stream_write.proofs.Rows.{command_length}
use Rattle.stream_copy.specs.Copied.{Bytes, kept, cleared}
use Rattle.stream_copy.proofs.Numbers.{from_part, in_front, reads_back, writes_back}

-- ---- written and read
-- each value of a row is within its column's width
abbrev pub Fitting : Row → Type 0
Fitting r = (c : Column) → value_in r c < 256 ^ bytes_in c

operands_read : (cs : List Column) (s : List ℕ) (at : ℕ) (r : Row) (behind : List ℕ) → Fitting r → drop at s ≡ operand_bytes cs r ++ behind
    → operands_from cs s at ≡ map (value_in r) cs
operands_read [] s at r behind f e = refl
operands_read (c ∷ cs) s at r behind f e =
    let x = value_in r c in
    let own = bytes_with (bytes_in c) x in
    let others = operand_bytes cs r ++ behind in
    let size = bytes_length (bytes_in c) x in
    let here : drop at s ≡ own ++ others = e ∙ append_assoc own (operand_bytes cs r) behind in
    let value : big_endian (bytes_in c) s at ≡ x =
    from_part (bytes_in c) s at
    ∙ ap (λ (l : List ℕ). big_endian (bytes_in c) l 0) here
    ∙ in_front (bytes_in c) own others (omega arith)
    ∙ reads_back (bytes_in c) x (f c) in
    let next : drop (at + bytes_in c) s ≡ others = sym (drop-drop (bytes_in c) at s) ∙ ap (drop (bytes_in c)) here ∙ drop_at own others (bytes_in c) size in
    ap₂ (λ (v : ℕ) (vs : List ℕ). v ∷ vs) value (operands_read cs s (at + bytes_in c) r behind f next)

module _ (r : Row) (behind : List ℕ) (fits : Fitting r) (known : outside 1 7 r.kind ≡ false) (short : length (command_bytes r ++ behind) ≤ most_stream) where
  abbrev whole : List ℕ
  whole = command_bytes r ++ behind

  first : get_or whole 0 0 ≡ r.kind
  unfolding command_bytes
  first = refl

  enough : width_of r.kind ≤ length whole
  enough = omega (arith, length-append (command_bytes r) behind, command_length r)

  not_empty : length whole ≡ 0 → ⊥
  unfolding command_bytes
  not_empty z = omega arith

  its_command : command_of r.kind whole ≡ command_in r
  unfolding command_of command_in command_bytes
  its_command = ap (command_by r.kind) (operands_read (operands_of r.kind) whole 1 r behind fits refl)

  pub reads_command : reading whole ≡ Judged.given (Front.command (command_in r))
  unfolding reading reading_refusal refuse ◌then◌
  reads_command =
      simp (le-ltb most_stream (length whole) short, ne_eqb (length whole) 0 not_empty, its_command, first, known, le-ltb (length whole) (width_of r.kind) enough)

  pub rest_behind : rest_of whole ≡ behind
  unfolding rest_of
  rest_behind =
      ap (λ (x : Judged Front). rest_by x whole) reads_command
      ∙ ap (λ (k : ℕ). drop (width_of k) whole) first
      ∙ drop_at (command_bytes r) behind (width_of r.kind) (command_length r)

-- the seven command bytes
seven : (P : ℕ → Type 0) → P 1 → P 2 → P 3 → P 4 → P 5 → P 6 → P 7 → (k : ℕ) → outside 1 7 k ≡ false → P k
seven P a b c d e f g k known = go k (within 1 7 k known).0 (within 1 7 k known).1
  where
    go : (k : ℕ) → 1 ≤ k → k ≤ 7 → P k
    go zero h l = absurd (omega arith)
    go (suc zero) h l = a
    go (suc (suc zero)) h l = b
    go (suc (suc (suc zero))) h l = c
    go (suc (suc (suc (suc zero)))) h l = d
    go (suc (suc (suc (suc (suc zero))))) h l = e
    go (suc (suc (suc (suc (suc (suc zero)))))) h l = f
    go (suc (suc (suc (suc (suc (suc (suc zero))))))) h l = g
    go (suc (suc (suc (suc (suc (suc (suc (suc k)))))))) h l = absurd (omega arith)

-- a row's command as a row again: its absent operands are 0
pub row_again : (r : Row) → outside 1 7 r.kind ≡ false → row_of (command_in r) ≡ cleared r
unfolding command_in cleared kept operands_of elem any_of ◌or◌
row_again r known =
    seven (λ k. (p g w n x : ℕ) → row_of (command_in (row k p g w n x)) ≡ cleared (row k p g w n x))
    (λ p g w n x. refl) (λ p g w n x. refl) (λ p g w n x. refl) (λ p g w n x. refl) (λ p g w n x. refl) (λ p g w n x. refl) (λ p g w n x. refl)
    r.kind known r.size r.share r.number r.random r.amount

-- ---- read and written
-- the operands in these columns, each read at its place and written
abbrev rewritten : List Column → List ℕ → ℕ → List ℕ
rewritten [] s at = []
rewritten (c ∷ cs) s at = bytes_with (bytes_in c) (big_endian (bytes_in c) s at) ++ rewritten cs s (at + bytes_in c)

rewritten_is : (cs : List Column) (s : List ℕ) (at : ℕ) → Bytes s → at + bytes_of cs ≤ length s → rewritten cs s at ≡ take (bytes_of cs) (drop at s)
rewritten_is [] s at b h = refl
rewritten_is (c ∷ cs) s at b h =
    let w = bytes_in c in
    let n = bytes_of cs in
    ap₂ (λ (l m : List ℕ). l ++ m) (writes_back w s at b (omega arith)) (rewritten_is cs s (at + w) b (omega arith))
    ∙ ap (λ (l : List ℕ). take w (drop at s) ++ take n l) (sym (drop-drop w at s))
    ∙ sym (take-add w n (drop at s))

-- the row of a command that was read is written as its operands, each in its own column
own_bytes : (s : List ℕ) (k : ℕ) → outside 1 7 k ≡ false → command_bytes (row_of (command_of k s)) ≡ k ∷ rewritten (operands_of k) s 1
unfolding command_bytes command_of operands_of
own_bytes s = seven (λ k. command_bytes (row_of (command_of k s)) ≡ k ∷ rewritten (operands_of k) s 1) refl refl refl refl refl refl refl

headed : (s : List ℕ) (n : ℕ) → 0 < length s → get_or s 0 0 ∷ take n (drop 1 s) ≡ take (1 + n) s
headed [] n h = absurd (omega arith)
headed (x ∷ s) n h = sym (take-add 1 n (x ∷ s))

pub front_again : (s : List ℕ) → Bytes s → 0 < length s → outside 1 7 (get_or s 0 0) ≡ false → width_of (get_or s 0 0) ≤ length s
    → command_bytes (row_of (command_of (get_or s 0 0) s)) ≡ take (width_of (get_or s 0 0)) s
unfolding width_of
front_again s b some known enough =
    let k = get_or s 0 0 in
    own_bytes s k known ∙ ap (λ (l : List ℕ). k ∷ l) (rewritten_is (operands_of k) s 1 b enough) ∙ headed s (bytes_of (operands_of k)) some
