-- The rows read so far stand at the front of each list. One law for a store, over the column; cited for the six lists.
use Prim.Native.Nat.{ℕ, zero, suc, ◌+◌, ◌≤◌, ◌<◌}
use mathlib.Core.Path.{◌≡◌, refl, sym, ap, ap₂, ◌∙◌}
use mathlib.Core.Bool.{false}
use mathlib.Core.List.{List, [], ◌∷◌, map}
use lib.ListN.{length, drop, set, length-map, length-set, length-drop, get_or}
use lib.Seq.{drop-drop}
use native.Mathlib.Omega.{arith}
use native.Mathlib.Numerals.{add-one}
use borrow.Author.Tests.{ltb-false}
use Rattle.rules.specs.Refusals.{Judged, written}
use Rattle.rules.specs.Stream.{Command, Front, reading, rest_of}
use Rattle.rules.specs.Writing.{Row, Lists, lists, row_of, columns, rows_read, below, too_short, written_over}
use Rattle.rules.proofs.Tests.{or_false}
use Rattle.rules.proofs.Lists.{written_to, written_to_next, written_to_all}
use Rattle.stream_all.proofs.Readings.{found}

-- ---- one list
-- the value of a column in the row at i, where the rows from i on begin with r
value_at : (f : Row → ℕ) (rs later : List Row) (r : Row) (i : ℕ) → drop i rs ≡ r ∷ later → get_or (map f rs) i 0 ≡ f r
value_at f [] later r zero e = absurd (omega (arith, ap length e))
value_at f [] later r (suc i) e = absurd (omega (arith, ap length e))
value_at f (x ∷ rs) later r zero e = ap (λ (qs : List Row). get_or (map f qs) 0 0) e
value_at f (x ∷ rs) later r (suc i) e = value_at f rs later r i e

module _ (f : Row → ℕ) (rs : List Row) (i : ℕ) (before list : List ℕ) (here : list ≡ written_to i (map f rs) before) where
  -- one row more
  pub stores : (later : List Row) (r : Row) → drop i rs ≡ r ∷ later → length rs ≤ length before → set list i (f r) ≡ written_to (i + 1) (map f rs) before
  stores later r next room =
      let size = length-map rs f in
      let h : i < length (map f rs) = omega (arith, ap length next, length-drop i rs) in
      let k : length (map f rs) ≤ length before = omega arith in
      ap₂ (λ (l : List ℕ) (v : ℕ). set l i v) here (sym (value_at f rs later r i next))
      ∙ written_to_next i (map f rs) before h k
      ∙ ap (λ (n : ℕ). written_to n (map f rs) before) (sym (add-one i))

  -- all rows
  pub all : i ≡ length rs → list ≡ written 0 (map f rs) before
  all e = here ∙ ap (λ (n : ℕ). written_to n (map f rs) before) (e ∙ sym (length-map rs f)) ∙ written_to_all (map f rs) before

-- ---- six lists
-- each has n places
pub record Roomy (n : ℕ) (l : Lists) : Type 0 where
  pub kinds : n ≤ length l.kinds
  pub sizes : n ≤ length l.sizes
  pub shares : n ≤ length l.shares
  pub numbers : n ≤ length l.numbers
  pub randoms : n ≤ length l.randoms
  pub amounts : n ≤ length l.amounts

pub roomy : (n : ℕ) (l : Lists) → too_short n l ≡ false → Roomy n l
unfolding below
roomy n l e =
    let d5 = or_false _ _ e in
    let d4 = or_false _ _ d5.0 in
    let d3 = or_false _ _ d4.0 in
    let d2 = or_false _ _ d3.0 in
    let d1 = or_false _ _ d2.0 in
    record {
      kinds = ltb-false _ _ d1.0;
      sizes = ltb-false _ _ d1.1;
      shares = ltb-false _ _ d2.1;
      numbers = ltb-false _ _ d3.1;
      randoms = ltb-false _ _ d4.1;
      amounts = ltb-false _ _ d5.1;
    }

-- a list as long as before, with the first i rows' values of a column at its front
pub record Column (f : Row → ℕ) (rs : List Row) (i : ℕ) (before list : List ℕ) : Type 0 where
  pub here : list ≡ written_to i (map f rs) before
  pub kept : length list ≡ length before

-- i commands of s are read, t is unread, and the lists hold their rows
pub record Filling (s : List ℕ) (before l : Lists) (t : List ℕ) (i : ℕ) : Type 0 where
  pub left : drop i (rows_read s) ≡ rows_read t
  pub count : i ≤ length (rows_read s)
  pub kinds : Column (λ (r : Row). r.kind) (rows_read s) i before.kinds l.kinds
  pub sizes : Column (λ (r : Row). r.size) (rows_read s) i before.sizes l.sizes
  pub shares : Column (λ (r : Row). r.share) (rows_read s) i before.shares l.shares
  pub numbers : Column (λ (r : Row). r.number) (rows_read s) i before.numbers l.numbers
  pub randoms : Column (λ (r : Row). r.random) (rows_read s) i before.randoms l.randoms
  pub amounts : Column (λ (r : Row). r.amount) (rows_read s) i before.amounts l.amounts

pub begins : (s : List ℕ) (before : Lists) → Filling s before before s 0
begins s before =
    let none : (f : Row → ℕ) (list : List ℕ) → Column f (rows_read s) 0 list list = λ f list. record { here = refl; kept = refl } in
    record {
      left = refl;
      count = omega arith;
      kinds = none (λ (r : Row). r.kind) before.kinds;
      sizes = none (λ (r : Row). r.size) before.sizes;
      shares = none (λ (r : Row). r.share) before.shares;
      numbers = none (λ (r : Row). r.number) before.numbers;
      randoms = none (λ (r : Row). r.random) before.randoms;
      amounts = none (λ (r : Row). r.amount) before.amounts;
    }

module _ {s : List ℕ} {before l : Lists} {t : List ℕ} {i : ℕ} (f : Filling s before l t i) where
  -- at a command that is read
  module _ (room : Roomy (length (rows_read s)) before) (c : Command) (e : reading t ≡ Judged.given (Front.command c)) where
    abbrev next : drop i (rows_read s) ≡ row_of c ∷ rows_read (rest_of t)
    next = f.left ∙ (found t c e).0

    pub some_left : i < length (rows_read s)
    some_left = omega (arith, ap length next, length-drop i (rows_read s))

    -- each list has the place
    pub places : Roomy (i + 1) l
    places =
        let h = some_left in
        record {
          kinds = omega (arith, f.kinds.kept, room.kinds);
          sizes = omega (arith, f.sizes.kept, room.sizes);
          shares = omega (arith, f.shares.kept, room.shares);
          numbers = omega (arith, f.numbers.kept, room.numbers);
          randoms = omega (arith, f.randoms.kept, room.randoms);
          amounts = omega (arith, f.amounts.kept, room.amounts);
        }

    more : (g : Row → ℕ) (b list : List ℕ) → length (rows_read s) ≤ length b → Column g (rows_read s) i b list → Column g (rows_read s) (i + 1) b (set list i (g (row_of c)))
    more g b list h column =
        record {
          here = stores g (rows_read s) i b list column.here (rows_read (rest_of t)) (row_of c) next h;
          kept = length-set list i (g (row_of c)) ∙ column.kept;
        }

    pub goes_on_lem : (r : Row) (u : List ℕ) → r ≡ row_of c → u ≡ rest_of t
        → Filling s before
        (lists (set l.kinds i r.kind) (set l.sizes i r.size) (set l.shares i r.share)
        (set l.numbers i r.number) (set l.randoms i r.random) (set l.amounts i r.amount)) u (i + 1)
    goes_on_lem r u q p =
        rw (q, p)
        (record {
          left = sym (drop-drop 1 i (rows_read s)) ∙ ap (drop 1) next;
          count = omega (arith, some_left);
          kinds = more (λ (x : Row). x.kind) before.kinds l.kinds room.kinds f.kinds;
          sizes = more (λ (x : Row). x.size) before.sizes l.sizes room.sizes f.sizes;
          shares = more (λ (x : Row). x.share) before.shares l.shares room.shares f.shares;
          numbers = more (λ (x : Row). x.number) before.numbers l.numbers room.numbers f.numbers;
          randoms = more (λ (x : Row). x.random) before.randoms l.randoms room.randoms f.randoms;
          amounts = more (λ (x : Row). x.amount) before.amounts l.amounts room.amounts f.amounts;
        })

  -- where nothing more is read
  pub ends : rows_read t ≡ [] → l ≡ written_over 0 (columns (rows_read s)) before
  ends e =
      let n : i ≡ length (rows_read s) = omega (arith, f.count, ap length (f.left ∙ e), length-drop i (rows_read s)) in
      let whole : (g : Row → ℕ) (b list : List ℕ) → Column g (rows_read s) i b list → list ≡ written 0 (map g (rows_read s)) b =
      λ g b list column. all g (rows_read s) i b list column.here n in
      same
      (whole (λ (x : Row). x.kind) before.kinds l.kinds f.kinds)
      (whole (λ (x : Row). x.size) before.sizes l.sizes f.sizes)
      (whole (λ (x : Row). x.share) before.shares l.shares f.shares)
      (whole (λ (x : Row). x.number) before.numbers l.numbers f.numbers)
      (whole (λ (x : Row). x.random) before.randoms l.randoms f.randoms)
      (whole (λ (x : Row). x.amount) before.amounts l.amounts f.amounts)
    where
      same : {k k' a a' b b' w w' r r' x x' : List ℕ} → k ≡ k' → a ≡ a' → b ≡ b' → w ≡ w' → r ≡ r' → x ≡ x' → lists k a b w r x ≡ lists k' a' b' w' r' x'
      same e₁ e₂ e₃ e₄ e₅ e₆ = cc
