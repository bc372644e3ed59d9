-- Joined bytes: a number of m + n bytes is that of the first m, times 256 for each of the last n, and that of the last n.
-- One law over the widths; the code joins 1 + 1, 2 + 2 and 4 + 4 bytes.
use Prim.Native.Nat.{ℕ, zero, suc, ◌+◌, ◌*◌, ◌^◌, ◌≤◌}
use mathlib.Core.Path.{◌≡◌, refl, sym, ap, ◌∙◌}
use mathlib.Core.List.{List}
use lib.ListN.{get_or, take, drop}
use lib.Seq.{get_or-take, get_or-drop}
use native.Mathlib.Omega.{arith}
use native.Mathlib.Nat.{add-zero, add-suc, add_assoc, pow-suc}
use Rattle.rules.specs.Stream.{big_endian}

-- one byte more, the lowest
more : (width : ℕ) (s : List ℕ) (i : ℕ) → big_endian (suc width) s i ≡ big_endian width s i * 256 + get_or s (i + width) 0
unfolding big_endian
more width s i = refl

none : (s : List ℕ) (i : ℕ) → big_endian zero s i ≡ 0
unfolding big_endian
none s i = refl

-- one byte is its own number
pub byte : (s : List ℕ) (i : ℕ) → big_endian 1 s i ≡ get_or s i 0
byte s i = omega (arith, more zero s i, none s i, ap (λ (j : ℕ). get_or s j 0) (add-zero i))

pub join : (m n : ℕ) (s : List ℕ) (i : ℕ) → big_endian (m + n) s i ≡ big_endian m s i * 256 ^ n + big_endian n s (i + m)
join m zero s i = rw (add-zero m) (omega (arith, none s (i + m)))
join m (suc n) s i =
    let place : get_or s (i + m + n) 0 ≡ get_or s (i + (m + n)) 0 = ap (λ (j : ℕ). get_or s j 0) (add_assoc i m n) in
    rw (add-suc m n, pow-suc) (omega (arith, place, more (m + n) s i, more n s (i + m), join m n s i))

-- a number at a place is the number at the front of the part from there on
pub at_front : (width : ℕ) (s : List ℕ) (i : ℕ) → big_endian width (drop i s) 0 ≡ big_endian width s i
at_front zero s i = none (drop i s) 0 ∙ sym (none s i)
at_front (suc width) s i =
    let start : 0 + width ≡ width = omega arith in
    let last : get_or (drop i s) (0 + width) 0 ≡ get_or s (i + width) 0 = ap (λ (n : ℕ). get_or (drop i s) n 0) start ∙ get_or-drop i s width 0 in
    omega (arith, last, more width s i, more width (drop i s) 0, at_front width s i)

-- only the bytes that make it count
pub at_most : (width most : ℕ) (s : List ℕ) → width ≤ most → big_endian width (take most s) 0 ≡ big_endian width s 0
at_most zero most s h = none (take most s) 0 ∙ sym (none s 0)
at_most (suc width) most s h =
    let fewer : width ≤ most = omega arith in
    let last = get_or-take most s (0 + width) 0 (omega arith) in
    omega (arith, last, more width s 0, more width (take most s) 0, at_most width most s fewer)
