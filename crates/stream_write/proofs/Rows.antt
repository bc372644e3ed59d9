-- The stream of the first rows, one row at a time; its length by the command bytes alone; and what lists that are accepted have.
use Prim.Native.Nat.{ℕ, zero, suc, ◌+◌, ◌≤◌, ◌<◌}
use mathlib.Core.Path.{◌≡◌, refl, sym, ap, ap₂, ◌∙◌}
use mathlib.Core.Bool.{Bool, true, false, not, cond}
use mathlib.Core.List.{List, [], ◌∷◌, ◌++◌, map, append_assoc, append-nil}
use lib.ListN.{length, get_or, take, drop, length-append, length-map, take-append-drop, drop_of_length-le}
use lib.Seq.{take-suc, take_all, get_or-drop}
use lib.Dec.{eqb}
use native.Mathlib.Omega.{arith}
use native.Mathlib.Numerals.{add-one, one-add}
use borrow.Author.Tests.{eqb-true, ltb-false, not-false}
use Rattle.rules.specs.Limits.{most_stream}
use Rattle.rules.specs.Tests.{outside}
use Rattle.rules.specs.Lists.{sum, any_of}
use Rattle.rules.specs.Stream.{Column, bytes_in, bytes_of, operands_of, width_of}
use Rattle.rules.specs.Writing.{Row, Lists, row, value_in, bytes_with, operand_bytes, command_bytes, stream_of, rows_of, rows_in, stream_in, differ, write_refusal}
use Rattle.rules.proofs.Tests.{or_false}
use Rattle.rules.proofs.Lists.{drop_step}
use Rattle.rules.proofs.Refusals.{then_none, refuse_none}
use Rattle.text_decimal.specs.declared.Writer.{Writer}
use Rattle.text_decimal.specs.Wrote.{Wrote}
use Rattle.text_decimal.proofs.Writing.{then, says}
use Rattle.stream_write.specs.Answer.{blank}
use Rattle.stream_put.proofs.Halves.{bytes_length}

-- ---- lengths
operands_length : (cs : List Column) (r : Row) → length (operand_bytes cs r) ≡ bytes_of cs
operands_length [] r = refl
operands_length (c ∷ cs) r =
    length-append (bytes_with (bytes_in c) (value_in r c)) (operand_bytes cs r)
    ∙ ap₂ (λ (m n : ℕ). m + n) (bytes_length (bytes_in c) (value_in r c)) (operands_length cs r)

pub command_length : (r : Row) → length (command_bytes r) ≡ width_of r.kind
unfolding command_bytes width_of
command_length r = omega (arith, operands_length (operands_of r.kind) r)

pub some_width : (k : ℕ) → 1 ≤ width_of k
unfolding width_of
some_width k = omega arith

pub most_width : (k : ℕ) → width_of k ≤ 17
unfolding width_of operands_of
most_width k = go (eqb k 1) (eqb k 2) (eqb k 3) (eqb k 4) (eqb k 5)
  where
    go : (a b d e f : Bool)
        → 1 + bytes_of
        (cond a (Column.number ∷ Column.amount ∷ Column.random ∷ [])
        (cond b (Column.size ∷ Column.number ∷ [])
        (cond d (Column.size ∷ Column.part ∷ [])
        (cond e (Column.size ∷ Column.number ∷ [])
        (cond f (Column.amount ∷ [])
        []))))) ≤ 17
    go true b d e f = omega arith
    go false true d e f = omega arith
    go false false true e f = omega arith
    go false false false true f = omega arith
    go false false false false true = omega arith
    go false false false false false = omega arith

-- ---- a command
-- a command byte laid, and then its operands as the table has them
pub command_laid : (r : Row) (k : ℕ) (cs : List Column) (bytes : List ℕ) {w v u : Writer}
    → r.kind ≡ k → operands_of k ≡ cs → operand_bytes cs r ≡ bytes
    → Wrote w (r.kind ∷ []) v → Wrote v bytes u → Wrote w (command_bytes r) u
unfolding command_bytes
command_laid r k cs bytes kind table operands first second =
    let e : bytes ≡ operand_bytes (operands_of r.kind) r =
    sym operands ∙ ap (λ (ds : List Column). operand_bytes ds r) (sym table ∙ sym (ap operands_of kind)) in
    says (ap (λ (b : List ℕ). r.kind ∷ b) e) (then first second)

-- a command without operands
pub bare_laid : (r : Row) {w v : Writer} → operands_of r.kind ≡ [] → Wrote w (r.kind ∷ []) v → Wrote w (command_bytes r) v
unfolding command_bytes
bare_laid r none wrote = says (ap (λ (ds : List Column). r.kind ∷ operand_bytes ds r) (sym none)) wrote

-- ---- rows
pub no_stream : stream_of [] ≡ []
unfolding stream_of
no_stream = refl

pub one_more_lem : (r : Row) (rs : List Row) → stream_of (r ∷ rs) ≡ command_bytes r ++ stream_of rs
unfolding stream_of
one_more_lem r rs = refl

stream_append : (a b : List Row) → stream_of (a ++ b) ≡ stream_of a ++ stream_of b
unfolding stream_of
stream_append [] b = refl
stream_append (r ∷ a) b = ap (λ (l : List ℕ). command_bytes r ++ l) (stream_append a b) ∙ sym (append_assoc (command_bytes r) (stream_of a) (stream_of b))

-- a row that stands nowhere
module _ (rs : List Row) (i : ℕ) where
  pub next_row : i < length rs → stream_of (take (i + 1) rs) ≡ stream_of (take i rs) ++ command_bytes (get_or rs i blank)
  next_row h =
      let r = get_or rs i blank in
      ap (λ (n : ℕ). stream_of (take n rs)) (add-one i)
      ∙ ap stream_of (take-suc rs i blank h)
      ∙ stream_append (take i rs) (r ∷ [])
      ∙ ap (λ (l : List ℕ). stream_of (take i rs) ++ l) (one_more_lem r [] ∙ ap (λ (l : List ℕ). command_bytes r ++ l) no_stream ∙ append-nil (command_bytes r))

  pub room_for : i < length rs → length (stream_of (take i rs)) + width_of (get_or rs i blank).kind ≤ length (stream_of rs)
  room_for h =
      let whole = ap stream_of (take-append-drop (i + 1) rs) in
      omega (
        arith,
        ap length whole,
        ap length (stream_append (take (i + 1) rs) (drop (i + 1) rs)),
        length-append (stream_of (take (i + 1) rs)) (stream_of (drop (i + 1) rs)),
        ap length (next_row h),
        length-append (stream_of (take i rs)) (command_bytes (get_or rs i blank)),
        command_length (get_or rs i blank),
      )

  pub all_rows : length rs ≤ i → stream_of (take i rs) ≡ stream_of rs
  all_rows h = ap stream_of (take_all i rs h)

stream_length : (rs : List Row) → length (stream_of rs) ≡ sum (map width_of (map (λ (r : Row). r.kind) rs))
unfolding stream_of sum
stream_length [] = refl
stream_length (r ∷ rs) = length-append (command_bytes r) (stream_of rs) ∙ ap₂ (λ (m n : ℕ). m + n) (command_length r) (stream_length rs)

-- ---- lists
row_at_of : (ks ps gs ws rs xs : List ℕ) (i : ℕ) → i < length ks
    → get_or (rows_of ks ps gs ws rs xs) i blank ≡ row (get_or ks i 0) (get_or ps i 0) (get_or gs i 0) (get_or ws i 0) (get_or rs i 0) (get_or xs i 0)
unfolding rows_of
row_at_of [] ps gs ws rs xs i h = absurd (omega arith)
row_at_of (k ∷ ks) ps gs ws rs xs zero h = refl
row_at_of (k ∷ ks) ps gs ws rs xs (suc i) h =
    let at : (l : List ℕ) → get_or (drop 1 l) i 0 ≡ get_or l (suc i) 0 = λ l. get_or-drop 1 l i 0 ∙ ap (λ (n : ℕ). get_or l n 0) (one-add i) in
    row_at_of ks (drop 1 ps) (drop 1 gs) (drop 1 ws) (drop 1 rs) (drop 1 xs) i (omega arith) ∙ simp (at ps, at gs, at ws, at rs, at xs)

kinds_of_lem : (ks ps gs ws rs xs : List ℕ) → map (λ (r : Row). r.kind) (rows_of ks ps gs ws rs xs) ≡ ks
unfolding rows_of
kinds_of_lem [] ps gs ws rs xs = refl
kinds_of_lem (k ∷ ks) ps gs ws rs xs = ap (λ (l : List ℕ). k ∷ l) (kinds_of_lem ks (drop 1 ps) (drop 1 gs) (drop 1 ws) (drop 1 rs) (drop 1 xs))

module _ (l : Lists) where
  pub row_at : (i : ℕ) → i < length l.kinds → get_or (rows_in l) i blank
      ≡ row (get_or l.kinds i 0) (get_or l.sizes i 0) (get_or l.shares i 0) (get_or l.numbers i 0) (get_or l.randoms i 0) (get_or l.amounts i 0)
  row_at i h = row_at_of l.kinds l.sizes l.shares l.numbers l.randoms l.amounts i h

  pub rows_kinds : map (λ (r : Row). r.kind) (rows_in l) ≡ l.kinds
  rows_kinds = kinds_of_lem l.kinds l.sizes l.shares l.numbers l.randoms l.amounts

  pub rows_length : length (rows_in l) ≡ length l.kinds
  rows_length = sym (length-map (rows_in l) (λ (r : Row). r.kind)) ∙ ap length rows_kinds

  -- the bytes that the lists need, by their command bytes alone
  pub needed_length : length (stream_in l) ≡ sum (map width_of l.kinds)
  unfolding stream_in
  needed_length = stream_length (rows_in l) ∙ ap (λ (ks : List ℕ). sum (map width_of ks)) rows_kinds

-- ---- a pass over the command bytes
pub width_step : (ks : List ℕ) (i : ℕ) → i < length ks → sum (map width_of (drop i ks)) ≡ width_of (get_or ks i 0) + sum (map width_of (drop (i + 1) ks))
unfolding sum
width_step ks i h = ap (λ (l : List ℕ). sum (map width_of l)) (drop_step ks i h)

pub width_end : (ks : List ℕ) (i : ℕ) → length ks ≤ i → sum (map width_of (drop i ks)) ≡ 0
unfolding sum
width_end ks i h = ap (λ (l : List ℕ). sum (map width_of l)) (drop_of_length-le ks h)

-- ---- lists that are accepted
pub record Accepted (l : Lists) (out : List ℕ) : Type 0 where
  pub short : length (stream_in l) ≤ most_stream
  pub known : any_of (outside 1 7) l.kinds ≡ false
  pub room : length (stream_in l) ≤ length out
  pub sizes : length l.sizes ≡ length l.kinds
  pub shares : length l.shares ≡ length l.kinds
  pub numbers : length l.numbers ≡ length l.kinds
  pub randoms : length l.randoms ≡ length l.kinds
  pub amounts : length l.amounts ≡ length l.kinds

same : (m n : ℕ) → not (eqb m n) ≡ false → m ≡ n
same m n e = eqb-true m n (not-false (eqb m n) e)

pub accepted : (l : Lists) (out : List ℕ) → write_refusal l out ≡ 0 → Accepted l out
unfolding write_refusal differ
accepted l out e =
    let t1 = then_none _ _ e in
    let t2 = then_none _ _ t1.1 in
    let t3 = then_none _ _ t2.1 in
    let d4 = or_false _ _ (refuse_none _ 26 t1.0) in
    let d3 = or_false _ _ d4.0 in
    let d2 = or_false _ _ d3.0 in
    let d1 = or_false _ _ d2.0 in
    record {
      short = ltb-false _ _ (refuse_none _ 14 t2.0);
      known = refuse_none _ 15 t3.0;
      room = ltb-false _ _ (refuse_none _ 26 t3.1);
      sizes = same _ _ d1.0;
      shares = same _ _ d1.1;
      numbers = same _ _ d2.1;
      randoms = same _ _ d3.1;
      amounts = same _ _ d4.1;
    }
