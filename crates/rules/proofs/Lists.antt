-- Laws of the lists (specs/Lists.antt), cited by every pass over a list: what one turn of a loop at i takes off what is left, what is known at the
-- end, and what a test of a whole list says of each place.
use mathlib.Core.Path.{◌≡◌, refl, sym, ap, ap₂, ◌∙◌}
use mathlib.Core.Bool.{Bool, true, false}
use mathlib.Core.List.{List, [], ◌∷◌, ◌++◌, append-nil}
use Prim.Native.Nat.{ℕ, zero, suc, ◌+◌, ◌-◌, ◌*◌, ◌/◌, ◌<◌, ◌≤◌, zero-le}
use native.Mathlib.Nat.{le_of_eq, le_of_suc-le-suc, not-suc-le-zero, zero-mul, mul-zero, mul-le-mul_left, div-le_of_le-mul}
use native.Mathlib.Numerals.{add-one}
use native.Mathlib.Omega.{arith}
use lib.Dec.{ltb, eqb}
use lib.ListN.{length, get_or, take, drop, set, replicate, drop_of_length-le, length-append, get_or-append}
use lib.Seq.{drop-cons, take_all, take-take, take_at, get_or_at, get_or-take, get_or-set_same, get_or-set_other}
use borrow.Author.Count.{below_more}
use borrow.Author.Tests.{ltb-true, lt-ltb, le-ltb, eq-eqb, ne_eqb}
use Rattle.rules.specs.Tests.{◌or◌, ◌and◌}
use Rattle.rules.specs.Refusals.{written}
use Rattle.rules.specs.Lists.{sum, products, scaled, any_of, any_pair, rises_from, rising, elem}
use Rattle.rules.proofs.Tests.{and_left, and_right, and_true, or_on, or_off, or_second, or_none, or_false, by_test, by_order}

-- a turn at i takes the first element of what is left
pub drop_step : (l : List ℕ) (i : ℕ) → i < length l → drop i l ≡ get_or l i 0 ∷ drop (i + 1) l
drop_step l i h = rw (add-one, drop-cons l i 0)

pub sum_step : (l : List ℕ) (i : ℕ) → i < length l → sum (drop i l) ≡ get_or l i 0 + sum (drop (i + 1) l)
unfolding sum
sum_step l i h = ap sum (drop_step l i h)

pub sum_end : (l : List ℕ) (i : ℕ) → length l ≤ i → sum (drop i l) ≡ 0
unfolding sum
sum_end l i h = ap sum (drop_of_length-le l h)

module _ (v p : List ℕ) (i : ℕ) where
  pub products_step : i < length v → i < length p → sum (products (drop i v) (drop i p)) ≡ get_or v i 0 * get_or p i 0 + sum (products (drop (i + 1) v) (drop (i + 1) p))
  unfolding sum products
  products_step h k = ap₂ (λ (x y : List ℕ). sum (products x y)) (drop_step v i h) (drop_step p i k)

  pub products_end : length v ≤ i → sum (products (drop i v) (drop i p)) ≡ 0
  unfolding sum products
  products_end h = ap (λ (x : List ℕ). sum (products x (drop i p))) (drop_of_length-le v h)

  any_pair_step : (test : ℕ → ℕ → Bool) → i < length v → i < length p → any_pair test (drop i v) (drop i p) ≡ (test (get_or v i 0) (get_or p i 0) or any_pair test (drop (i + 1) v) (drop (i + 1) p))
  unfolding any_pair
  any_pair_step test h k = ap₂ (any_pair test) (drop_step v i h) (drop_step p i k)

-- A pass that asks a test of each pair: what is left decides the whole, `all`.
module _ (test : ℕ → ℕ → Bool) (v p : List ℕ) (i : ℕ) (all : Bool) (left : any_pair test (drop i v) (drop i p) ≡ all) where
  -- a pair for which the test holds decides
  pub pair_found : i < length v → i < length p → test (get_or v i 0) (get_or p i 0) ≡ true → true ≡ all
  pair_found h k e = sym (or_on _ _ e) ∙ sym (any_pair_step v p i test h k) ∙ left

  -- a pair for which it fails leaves the rest
  pub pair_next : i < length v → i < length p → test (get_or v i 0) (get_or p i 0) ≡ false → any_pair test (drop (i + 1) v) (drop (i + 1) p) ≡ all
  pair_next h k e = sym (or_off _ _ e) ∙ sym (any_pair_step v p i test h k) ∙ left

  -- with nothing left it held for none
  pub pair_none : length v ≤ i → false ≡ all
  unfolding any_pair
  pair_none h = sym (ap (λ (x : List ℕ). any_pair test x (drop i p)) (drop_of_length-le v h)) ∙ left

-- The same of one list.
module _ (test : ℕ → Bool) (l : List ℕ) (i : ℕ) (all : Bool) (left : any_of test (drop i l) ≡ all) where
  any_of_step : i < length l → (test (get_or l i 0) or any_of test (drop (i + 1) l)) ≡ all
  unfolding any_of
  any_of_step h = sym (ap (any_of test) (drop_step l i h)) ∙ left

  pub one_found : i < length l → test (get_or l i 0) ≡ true → true ≡ all
  one_found h e = sym (or_on _ _ e) ∙ any_of_step h

  pub one_next : i < length l → test (get_or l i 0) ≡ false → any_of test (drop (i + 1) l) ≡ all
  one_next h e = sym (or_off _ _ e) ∙ any_of_step h

  pub one_none : length l ≤ i → false ≡ all
  unfolding any_of
  one_none h = sym (ap (any_of test) (drop_of_length-le l h)) ∙ left

-- each product is within the sum of the products
pub product_le : (v p : List ℕ) (i : ℕ) → get_or v i 0 * get_or p i 0 ≤ sum (products v p)
unfolding sum products
product_le [] p i = rw zero-mul zero-le
product_le (x ∷ v) [] i = rw mul-zero zero-le
product_le (x ∷ v) (y ∷ p) zero = omega arith
product_le (x ∷ v) (y ∷ p) (suc i) = omega (arith, product_le v p i)

-- ---- scaling a list into places
-- the places after i turns: the first i hold what is scaled, the others what they held
abbrev pub scaled_onto : ℕ → ℕ → List ℕ → List ℕ → List ℕ → List ℕ
scaled_onto scale i v p out = scaled scale (take i v) (take i p) ++ drop i out

pub scaled_onto_none : (scale : ℕ) (v p out : List ℕ) → scaled_onto scale 0 v p out ≡ out
unfolding scaled
scaled_onto_none scale v p out = refl

pub scaled_onto_step : (scale i : ℕ) (v p out : List ℕ) → i < length p → length p ≤ length v → length out ≡ length p →
    set (scaled_onto scale i v p out) i (get_or v i 0 * get_or p i 0 / scale) ≡ scaled_onto scale (suc i) v p out
unfolding scaled
scaled_onto_step scale i v [] out h k m = absurd (not-suc-le-zero h)
scaled_onto_step scale i [] (y ∷ p) out h k m = absurd (omega arith)
scaled_onto_step scale i (x ∷ v) (y ∷ p) [] h k m = absurd (omega arith)
scaled_onto_step scale zero (x ∷ v) (y ∷ p) (o ∷ out) h k m = refl
scaled_onto_step scale (suc i) (x ∷ v) (y ∷ p) (o ∷ out) h k m =
    ap (λ (l : List ℕ). (x * y / scale) ∷ l) (scaled_onto_step scale i v p out (le_of_suc-le-suc h) (omega arith) (omega arith))

-- only as many places count as the second list has
pub scaled_take : (scale : ℕ) (v p : List ℕ) → scaled scale (take (length p) v) p ≡ scaled scale v p
unfolding scaled
scaled_take scale [] p = ap (λ (l : List ℕ). scaled scale l p) (take_all (length p) [] zero-le)
scaled_take scale (x ∷ v) [] = refl
scaled_take scale (x ∷ v) (y ∷ p) = ap (λ (l : List ℕ). (x * y / scale) ∷ l) (scaled_take scale v p)

pub products_take : (v p : List ℕ) → products (take (length p) v) p ≡ products v p
unfolding products
products_take [] p = ap (λ (l : List ℕ). products l p) (take_all (length p) [] zero-le)
products_take (x ∷ v) [] = refl
products_take (x ∷ v) (y ∷ p) = ap (λ (l : List ℕ). x * y ∷ l) (products_take v p)

-- with no place left all of them are scaled
pub scaled_onto_all : (scale : ℕ) (v p out : List ℕ) → length out ≡ length p → scaled_onto scale (length p) v p out ≡ scaled scale v p
scaled_onto_all scale v p out m =
    let h : length p ≤ length p = omega arith in
    let o : length out ≤ length p = omega arith in
    simp (take_all (length p) p h, drop_of_length-le out o, append-nil, scaled_take)

pub length_scaled : (scale : ℕ) (v p : List ℕ) → length v ≡ length p → length (scaled scale v p) ≡ length v
unfolding scaled
length_scaled scale [] p h = refl
length_scaled scale (x ∷ v) [] h = absurd (omega arith)
length_scaled scale (x ∷ v) (y ∷ p) h = ap suc (length_scaled scale v p (omega arith))

-- ---- rising
-- a list rises if what follows its first place rises from there
pub rises_start : (l : List ℕ) → rises_from (get_or l 0 0) (drop 1 l) ≡ rising l
unfolding rising rises_from
rises_start [] = refl
rises_start (x ∷ xs) = refl

module _ (x : ℕ) (l : List ℕ) (i : ℕ) where
  pub rises_next : i < length l → x < get_or l i 0 → rises_from (get_or l i 0) (drop (i + 1) l) ≡ rises_from x (drop i l)
  unfolding rises_from ◌and◌
  rises_next h lt = rw (drop-cons l i 0 h, lt-ltb x (get_or l i 0) lt, add-one)

  pub rises_stop : i < length l → get_or l i 0 ≤ x → rises_from x (drop i l) ≡ false
  unfolding rises_from ◌and◌
  rises_stop h le = rw (drop-cons l i 0 h, le-ltb x (get_or l i 0) le)

  pub rises_end : length l ≤ i → rises_from x (drop i l) ≡ true
  unfolding rises_from
  rises_end h = rw (drop_of_length-le l h)

-- ---- what a whole test says of each place
pub any_none : (test : ℕ → Bool) (l : List ℕ) → any_of test l ≡ false → (i : ℕ) → i < length l → test (get_or l i 0) ≡ false
unfolding any_of
any_none test [] e i h = absurd (omega arith)
any_none test (x ∷ xs) e zero h = (or_false (test x) (any_of test xs) e).0
any_none test (x ∷ xs) e (suc i) h = any_none test xs (or_false (test x) (any_of test xs) e).1 i (omega arith)

-- each place is below each later one
above_all : (x : ℕ) (l : List ℕ) → rises_from x l ≡ true → (j : ℕ) → j < length l → x < get_or l j 0
unfolding rises_from
above_all x [] e j h = absurd (omega arith)
above_all x (y ∷ ys) e zero h = ltb-true x y (and_left (ltb x y) (rises_from y ys) e)
above_all x (y ∷ ys) e (suc j) h =
    let lower : x < y = ltb-true x y (and_left (ltb x y) (rises_from y ys) e) in
    let upper : y < get_or ys j 0 = above_all y ys (and_right (ltb x y) (rises_from y ys) e) j (omega arith) in
    omega arith

rises_rest : (x : ℕ) (l : List ℕ) → rises_from x l ≡ true → rising l ≡ true
unfolding rising rises_from
rises_rest x [] e = refl
rises_rest x (y ∷ ys) e = and_right (ltb x y) (rises_from y ys) e

pub rising_below : (l : List ℕ) → rising l ≡ true → (i j : ℕ) → i < j → j < length l → get_or l i 0 < get_or l j 0
unfolding rising
rising_below [] e i j h k = absurd (omega arith)
rising_below (x ∷ xs) e i zero h k = absurd (omega arith)
rising_below (x ∷ xs) e zero (suc j) h k = above_all x xs e j (omega arith)
rising_below (x ∷ xs) e (suc i) (suc j) h k = rising_below xs (rises_rest x xs e) i j (omega arith) (omega arith)

-- ---- laying news over a buffer, a place a turn
-- the buffer after i turns: the first i of the news, the other places as they were
abbrev pub written_to : ℕ → List ℕ → List ℕ → List ℕ
written_to i news buffer = take i news ++ drop i buffer

pub length_written_to : (i : ℕ) (news buffer : List ℕ) → i ≤ length news → length news ≤ length buffer → length (written_to i news buffer) ≡ length buffer
length_written_to zero news buffer h k = refl
length_written_to (suc i) [] buffer h k = absurd (not-suc-le-zero h)
length_written_to (suc i) (x ∷ news) [] h k = absurd (not-suc-le-zero k)
length_written_to (suc i) (x ∷ news) (y ∷ buffer) h k = ap suc (length_written_to i news buffer (le_of_suc-le-suc h) (le_of_suc-le-suc k))

pub written_to_next : (i : ℕ) (news buffer : List ℕ) → i < length news → length news ≤ length buffer → set (written_to i news buffer) i (get_or news i 0) ≡ written_to (suc i) news buffer
written_to_next i [] buffer h k = absurd (not-suc-le-zero h)
written_to_next i (x ∷ news) [] h k = absurd (not-suc-le-zero k)
written_to_next zero (x ∷ news) (y ∷ buffer) h k = refl
written_to_next (suc i) (x ∷ news) (y ∷ buffer) h k = ap (λ (l : List ℕ). x ∷ l) (written_to_next i news buffer (le_of_suc-le-suc h) (le_of_suc-le-suc k))

-- all of them: what `written` says where nothing refuses
pub written_to_all : (news buffer : List ℕ) → written_to (length news) news buffer ≡ news ++ drop (length news) buffer
written_to_all news buffer = ap (λ (l : List ℕ). l ++ drop (length news) buffer) (take_all (length news) news (le_of_eq refl))

-- A pass that lays `count` news over a buffer, one a turn: what the list is after i turns gives its length, the next place, and the end.
pub laid_length : (i count : ℕ) (news buffer now : List ℕ) → now ≡ written_to i news buffer → length news ≡ count → i ≤ count → count ≤ length buffer → length now ≡ length buffer
laid_length i count news buffer now e l h k = ap length e ∙ length_written_to i news buffer (omega arith) (omega arith)

pub laid_next : (i count x : ℕ) (news buffer now : List ℕ) → now ≡ written_to i news buffer → length news ≡ count → i < count → count ≤ length buffer → x ≡ get_or news i 0 → set now i x ≡ written_to (i + 1) news buffer
laid_next i count x news buffer now e l h k v = rw (e, v, add-one) (written_to_next i news buffer (omega arith) (omega arith))

pub laid_end : (i count : ℕ) (news buffer now : List ℕ) → now ≡ written_to i news buffer → length news ≡ count → i ≤ count → count ≤ i → now ≡ written 0 news buffer
laid_end i count news buffer now e l h k =
    let last : i ≡ length news = omega arith in
    e ∙ ap (λ (n : ℕ). written_to n news buffer) last ∙ written_to_all news buffer

-- ---- sums of products with numbers within a limit
-- each place of a list is within the limit, where a test that fails says so of a number
pub any_within : (test : ℕ → Bool) (most : ℕ) → ((y : ℕ) → test y ≡ false → y ≤ most) → (l : List ℕ) → any_of test l ≡ false → (i : ℕ) → get_or l i 0 ≤ most
unfolding any_of
any_within test most says [] e i = zero-le
any_within test most says (x ∷ xs) e zero = says x (or_false (test x) (any_of test xs) e).0
any_within test most says (x ∷ xs) e (suc i) = any_within test most says xs (or_false (test x) (any_of test xs) e).1 i

pub pair_within : (test : ℕ → ℕ → Bool) (most : ℕ) → ((x y : ℕ) → test x y ≡ false → y ≤ most) →
    (v p : List ℕ) → length p ≤ length v → any_pair test v p ≡ false → (i : ℕ) → get_or p i 0 ≤ most
unfolding any_pair
pair_within test most says v [] h e i = zero-le
pair_within test most says [] (y ∷ p) h e i = absurd (omega arith)
pair_within test most says (x ∷ v) (y ∷ p) h e zero = says x y (or_false (test x y) (any_pair test v p) e).0
pair_within test most says (x ∷ v) (y ∷ p) h e (suc i) = pair_within test most says v p (omega arith) (or_false (test x y) (any_pair test v p) e).1 i

pub products_within : (most : ℕ) (v p : List ℕ) → ((i : ℕ) → get_or p i 0 ≤ most) → sum (products v p) ≤ most * sum v
unfolding sum products
products_within most [] p h = zero-le
products_within most (x ∷ v) [] h = zero-le
products_within most (x ∷ v) (y ∷ p) h = omega (arith, mul-le-mul_left x (h 0), products_within most v p (λ i. h (suc i)))

pub scaled_within : (scale : ℕ) (v p : List ℕ) → ((i : ℕ) → get_or p i 0 ≤ scale) → sum (scaled scale v p) ≤ sum v
unfolding sum scaled
scaled_within scale [] p h = zero-le
scaled_within scale (x ∷ v) [] h = zero-le
scaled_within scale (x ∷ v) (y ∷ p) h =
    let k : x * y ≤ scale * x = omega (arith, mul-le-mul_left x (h 0)) in
    omega (arith, div-le_of_le-mul scale k, scaled_within scale v p (λ i. h (suc i)))

-- ---- one more at the end
-- a list that rises still does with one more that is above all of it
rises_snoc : (x : ℕ) (l : List ℕ) (y : ℕ) → rises_from x l ≡ true → x < y → ((i : ℕ) → i < length l → get_or l i 0 < y) → rises_from x (l ++ y ∷ []) ≡ true
unfolding rises_from
rises_snoc x [] y e h above = and_true (ltb x y) true (lt-ltb x y h) refl
rises_snoc x (w ∷ ws) y e h above =
    and_true (ltb x w) (rises_from w (ws ++ y ∷ [])) (and_left (ltb x w) (rises_from w ws) e)
    (rises_snoc w ws y (and_right (ltb x w) (rises_from w ws) e) (above 0 (omega arith)) (λ i k. above (suc i) (omega arith)))

pub rising_snoc : (l : List ℕ) (y : ℕ) → rising l ≡ true → ((i : ℕ) → i < length l → get_or l i 0 < y) → rising (l ++ y ∷ []) ≡ true
unfolding rising rises_from
rising_snoc [] y e above = refl
rising_snoc (x ∷ xs) y e above = rises_snoc x xs y e (above 0 (omega arith)) (λ i k. above (suc i) (omega arith))

-- k + 1 places that are a list and one more: the k before it, and the last
pub take_last : (l xs : List ℕ) (x k : ℕ) → length xs ≡ k → take (suc k) l ≡ xs ++ (x ∷ []) → (take k l ≡ xs) × (get_or l k 0 ≡ x)
take_last l xs x k h e = (
  sym (take-take k (suc k) l (omega arith)) ∙ ap (take k) e ∙ take_at xs (x ∷ []) k h,
  sym (get_or-take (suc k) l k 0 (omega arith)) ∙ ap (λ (ys : List ℕ). get_or ys k 0) e ∙ get_or_at xs x [] 0 k h,
)

-- a list that is filled place by place: f stands below i, and after a store below i + 1
pub filled_more : (f : ℕ → ℕ) (l : List ℕ) (i v : ℕ) → i < length l → v ≡ f i → ((k : ℕ) → k < i → get_or l k 0 ≡ f k) → (k : ℕ) → k < i + 1 → get_or (set l i v) k 0 ≡ f k
filled_more f l i v h e before =
    below_more (λ k. get_or (set l i v) k 0 ≡ f k) i
    (λ k m. get_or-set_other l i k v 0 (λ q. omega arith) ∙ before k m)
    (get_or-set_same l i v 0 h ∙ e)

-- a list and one more: each is below a bound that all of them are below
pub snoc_under :
    (xs : List ℕ) (x bound : ℕ) → ((j : ℕ) → j < length xs → get_or xs j 0 < bound) → x < bound
    → (j : ℕ) → j < length (xs ++ (x ∷ [])) → get_or (xs ++ (x ∷ [])) j 0 < bound
snoc_under xs x bound each last j h =
    by_order j (length xs)
    (λ k. rw (get_or-append xs (x ∷ []) 0 j k) (each j k))
    (λ k.
    let e : length xs ≡ j = omega (arith, simp length-append at h) in
    rw (get_or_at xs x [] 0 j e) last)

-- ---- a number among those of a list, from place j on
module _ (x : ℕ) (l : List ℕ) (j : ℕ) where
  pub elem_here : j < length l → x ≡ get_or l j 0 → elem x (drop j l) ≡ true
  unfolding elem
  elem_here h e = sym (one_found (eqb x) l j _ refl h (eq-eqb x (get_or l j 0) e))

  pub elem_next : j < length l → (x ≡ get_or l j 0 → ⊥) → elem x (drop (j + 1) l) ≡ elem x (drop j l)
  unfolding elem
  elem_next h e = one_next (eqb x) l j _ refl h (ne_eqb x (get_or l j 0) e)

  pub elem_end : length l ≤ j → elem x (drop j l) ≡ false
  unfolding elem
  elem_end h = sym (one_none (eqb x) l j _ refl h)

-- a number below all of a list is not in it
pub elem_low : (x : ℕ) (l : List ℕ) → ((k : ℕ) → k < length l → x < get_or l k 0) → elem x l ≡ false
unfolding elem any_of
elem_low x [] h = refl
elem_low x (y ∷ ys) h =
    let l : x < y = h 0 (omega arith) in
    or_off (eqb x y) (any_of (eqb x) ys) (ne_eqb x y (λ e. omega arith)) ∙ elem_low x ys (λ k g. h (suc k) (omega arith))

-- what stands at a place stands in the list, and a number that stands at no place does not
pub elem_place : (l : List ℕ) (k : ℕ) → k < length l → elem (get_or l k 0) l ≡ true
unfolding elem any_of
elem_place [] k h = absurd (not-suc-le-zero h)
elem_place (y ∷ ys) zero h = or_on (eqb y y) (any_of (eqb y) ys) (eq-eqb y y refl)
elem_place (y ∷ ys) (suc k) h = or_second (eqb (get_or ys k 0) y) (any_of (eqb (get_or ys k 0)) ys) (elem_place ys k (omega arith))

pub elem_nowhere : (x : ℕ) (l : List ℕ) → ((k : ℕ) → k < length l → get_or l k 0 ≡ x → ⊥) → elem x l ≡ false
unfolding elem any_of
elem_nowhere x [] h = refl
elem_nowhere x (y ∷ ys) h =
    or_off (eqb x y) (any_of (eqb x) ys) (ne_eqb x y (λ e. h 0 (omega arith) (sym e))) ∙ elem_nowhere x ys (λ k l. h (suc k) (omega arith))

-- one number more at the end
pub elem_last : (x y : ℕ) (l : List ℕ) → elem x (l ++ (y ∷ [])) ≡ (elem x l or eqb x y)
unfolding elem any_of ◌or◌
elem_last x y [] = or_none (eqb x y) false refl
elem_last x y (z ∷ zs) = by_test (eqb x z) (λ e. rw e) (λ e. rw e (elem_last x y zs))
