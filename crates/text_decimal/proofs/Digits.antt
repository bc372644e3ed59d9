-- The digits of a 64-bit number are those of its tenth and one more. A line is its letter, spaces, digits and line feed in turn.
use Prim.Native.Nat.{ℕ, zero, suc, ◌+◌, ◌*◌, ◌/◌, ◌%◌, ◌^◌, ◌≤◌, ◌<◌}
use mathlib.Core.Path.{◌≡◌, refl, sym, ap, ◌∙◌}
use mathlib.Core.Bool.{Bool, true, false}
use mathlib.Core.List.{List, [], ◌∷◌, ◌++◌, append_assoc}
use lib.ListN.{length, length-append}
use lib.Dec.{ltb}
use native.Mathlib.Omega.{arith}
use native.Mathlib.Nat.{pow-suc}
use borrow.Author.Tests.{lt-ltb, le-ltb, ltb-true, ltb-false}
use Rattle.rules.specs.Decimal.{digits_on, decimal_on}
use Rattle.rules.specs.Lines.{line_of, line_of2}
use Rattle.text_decimal.specs.Put.{digits_of, field_of, start_of}

none : (n : ℕ) (text : List ℕ) → digits_on zero n text ≡ text
unfolding digits_on
none n text = refl

last : (most n : ℕ) (text : List ℕ) → n < 10 → digits_on (suc most) n text ≡ (48 + n) ∷ text
unfolding digits_on
last most n text h = simp (lt-ltb _ _ h)

more : (most n : ℕ) (text : List ℕ) → 10 ≤ n → digits_on (suc most) n text ≡ digits_on most (n / 10) ((48 + n % 10) ∷ text)
unfolding digits_on
more most n text h = simp (le-ltb _ _ h)

-- the last digit, or one more
by_size : {P : Type 0} (n : ℕ) → (n < 10 → P) → (10 ≤ n → P) → P
by_size {P} n small large = go (ltb n 10) refl
  where
    go : (b : Bool) → ltb n 10 ≡ b → P
    go true e = small (ltb-true _ _ e)
    go false e = large (ltb-false _ _ e)

-- digits in front of two texts are digits in front of the first
split : (most n : ℕ) (s t : List ℕ) → digits_on most n (s ++ t) ≡ digits_on most n s ++ t
split zero n s t = none n (s ++ t) ∙ sym (ap (λ (l : List ℕ). l ++ t) (none n s))
split (suc most) n s t = by_size n
    (λ h. last most n (s ++ t) h ∙ sym (ap (λ (l : List ℕ). l ++ t) (last most n s h)))
    (λ h. more most n (s ++ t) h ∙ split most (n / 10) ((48 + n % 10) ∷ s) t ∙ sym (ap (λ (l : List ℕ). l ++ t) (more most n s h)))

-- a bound on the digits that is enough gives what the next one gives
enough : (most n : ℕ) (text : List ℕ) → n < 10 ^ suc most → digits_on (suc (suc most)) n text ≡ digits_on (suc most) n text
enough zero n text small =
    let h : n < 10 = omega arith in
    last 1 n text h ∙ sym (last 0 n text h)
enough (suc most) n text small =
    let p : n < 10 ^ suc most * 10 = rw pow-suc at small in
    by_size n
    (λ h. last (suc (suc most)) n text h ∙ sym (last (suc most) n text h))
    (λ h. more (suc (suc most)) n text h ∙ enough most (n / 10) ((48 + n % 10) ∷ text) (omega arith) ∙ sym (more (suc most) n text h))

pub one_digit : (n : ℕ) → n < 10 → digits_of n ≡ (48 + n) ∷ []
unfolding decimal_on
one_digit n h = last 19 n [] h

pub one_more_lem : (n : ℕ) → 10 ≤ n → n < 2 ^ 64 → digits_of n ≡ digits_of (n / 10) ++ ((48 + n % 10) ∷ [])
unfolding decimal_on
one_more_lem n h fits =
    let d = (48 + n % 10) ∷ [] in
    let tenth : n / 10 < 10 ^ 19 = omega arith in
    more 19 n [] h ∙ sym (enough 18 (n / 10) d tenth) ∙ split 20 (n / 10) [] d

pub one_more_length : (n : ℕ) → 10 ≤ n → n < 2 ^ 64 → length (digits_of n) ≡ length (digits_of (n / 10)) + 1
one_more_length n h fits = ap length (one_more_lem n h fits) ∙ length-append (digits_of (n / 10)) ((48 + n % 10) ∷ [])

most_length : (most n : ℕ) (text : List ℕ) → length (digits_on most n text) ≤ most + length text
most_length zero n text = rw (none n text) (omega arith)
most_length (suc most) n text = by_size n
    (λ h. rw (last most n text h) (omega arith))
    (λ h. rw (more most n text h) (omega (arith, most_length most (n / 10) ((48 + n % 10) ∷ text))))

pub digits_length : (n : ℕ) → length (digits_of n) ≤ 20
unfolding decimal_on
digits_length n = omega (arith, most_length 20 n [])

-- digits in front of a text
pub on : (n : ℕ) (text : List ℕ) → decimal_on n text ≡ digits_of n ++ text
unfolding decimal_on
on n text = split 20 n [] text

-- a line, piece by piece
pub line_pieces : (letter a : ℕ) → start_of letter a ++ (10 ∷ []) ≡ line_of letter a
unfolding line_of
line_pieces letter a = ap (λ (l : List ℕ). letter ∷ 32 ∷ l) (sym (on a (10 ∷ [])))

pub line2_pieces : (letter a b : ℕ) → (start_of letter a ++ field_of b) ++ (10 ∷ []) ≡ line_of2 letter a b
unfolding line_of2
line2_pieces letter a b =
    let second : field_of b ++ (10 ∷ []) ≡ 32 ∷ decimal_on b (10 ∷ []) = ap (λ (l : List ℕ). 32 ∷ l) (sym (on b (10 ∷ []))) in
    append_assoc (start_of letter a) (field_of b) (10 ∷ []) ∙ ap (λ (l : List ℕ). start_of letter a ++ l) second
    ∙ ap (λ (l : List ℕ). letter ∷ 32 ∷ l) (sym (on a (32 ∷ decimal_on b (10 ∷ []))))

pub line_length : (letter a : ℕ) → length (line_of letter a) ≡ 3 + length (digits_of a)
line_length letter a = omega (arith, simp length-append at (ap length (line_pieces letter a)))

pub line2_length : (letter a b : ℕ) → length (line_of2 letter a b) ≡ 4 + length (digits_of a) + length (digits_of b)
line2_length letter a b = omega (arith, simp length-append at (ap length (line2_pieces letter a b)))
