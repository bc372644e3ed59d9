-- One number: written and read, and read and written. One law each, over the width.
use Prim.Native.Nat.{ℕ, zero, suc, ◌+◌, ◌*◌, ◌/◌, ◌%◌, ◌^◌, ◌≤◌, ◌<◌}
use mathlib.Core.Path.{◌≡◌, refl, sym, ap, ap₂, ◌∙◌}
use mathlib.Core.List.{List, [], ◌∷◌, ◌++◌}
use lib.ListN.{length, get_or, take, drop, length-drop, get_or-append}
use lib.Seq.{take-suc, get_or-drop, get_or_at}
use native.Mathlib.Omega.{arith}
use native.Mathlib.Nat.{pow-suc}
use Rattle.rules.specs.Stream.{big_endian}
use Rattle.rules.specs.Writing.{bytes_with}
use Rattle.stream_put.proofs.Halves.{more, nothing, bytes_length}
use Rattle.stream_copy.specs.Copied.{Bytes}

read_more : (width : ℕ) (s : List ℕ) (i : ℕ) → big_endian (suc width) s i ≡ big_endian width s i * 256 + get_or s (i + width) 0
unfolding big_endian
read_more width s i = refl

read_none : (s : List ℕ) (i : ℕ) → big_endian zero s i ≡ 0
unfolding big_endian
read_none s i = refl

-- a number at a place is the number at the front of the part from there on
pub from_part : (width : ℕ) (s : List ℕ) (i : ℕ) → big_endian width s i ≡ big_endian width (drop i s) 0
from_part zero s i = read_none s i ∙ sym (read_none (drop i s) 0)
from_part (suc width) s i =
    let at : get_or (drop i s) (0 + width) 0 ≡ get_or s (i + (0 + width)) 0 = get_or-drop i s (0 + width) 0 in
    let e : i + (0 + width) ≡ i + width = omega arith in
    omega (arith, read_more width s i, read_more width (drop i s) 0, from_part width s i, at, ap (λ (j : ℕ). get_or s j 0) e)

-- what stands behind a number does not matter
pub in_front : (width : ℕ) (s t : List ℕ) → width ≤ length s → big_endian width (s ++ t) 0 ≡ big_endian width s 0
in_front zero s t h = read_none (s ++ t) 0 ∙ sym (read_none s 0)
in_front (suc width) s t h =
    let within : 0 + width < length s = omega arith in
    let b = get_or-append s t 0 (0 + width) within in
    omega (arith, read_more width (s ++ t) 0, read_more width s 0, in_front width s t (omega arith), b)

-- written and read
pub reads_back : (width x : ℕ) → x < 256 ^ width → big_endian width (bytes_with width x) 0 ≡ x
reads_back zero x h = read_none (bytes_with zero x) 0 ∙ omega arith
reads_back (suc width) x h =
    let p : x < 256 ^ width * 256 = rw pow-suc at h in
    let upper = bytes_with width (x / 256) in
    let size : length upper ≡ 0 + width = omega (arith, bytes_length width (x / 256)) in
    let last : get_or (upper ++ (x % 256 ∷ [])) (0 + width) 0 ≡ x % 256 = get_or_at upper (x % 256) [] 0 (0 + width) size in
    let lower = in_front width upper (x % 256 ∷ []) (omega arith) in
    ap (λ (l : List ℕ). big_endian (suc width) l 0) (more width x)
    ∙ omega (arith, read_more width (upper ++ (x % 256 ∷ [])) 0, last, lower, reads_back width (x / 256) (omega arith))

-- read and written
pub writes_back : (width : ℕ) (s : List ℕ) (i : ℕ) → Bytes s → i + width ≤ length s → bytes_with width (big_endian width s i) ≡ take width (drop i s)
writes_back zero s i b h = nothing (big_endian zero s i)
writes_back (suc width) s i b h =
    let x = big_endian (suc width) s i in
    let e = read_more width s i in
    let small = b (i + width) in
    let up : x / 256 ≡ big_endian width s i = omega arith in
    let down : x % 256 ≡ get_or s (i + width) 0 = omega arith in
    let within : width < length (drop i s) = omega (arith, length-drop i s) in
    more width x
    ∙ ap₂ (λ (y c : ℕ). bytes_with width y ++ (c ∷ [])) up (down ∙ sym (get_or-drop i s width 0))
    ∙ ap (λ (l : List ℕ). l ++ (get_or (drop i s) width 0 ∷ [])) (writes_back width s i b (omega arith))
    ∙ sym (take-suc (drop i s) width 0 within)
