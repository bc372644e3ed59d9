-- Sums, products and tests over lists of numbers.
use Rattle.std.specs.Prelude.{ℕ, ◌+◌, ◌*◌, ◌/◌, Bool, true, false, List, [], ◌∷◌, ltb, eqb}
use Rattle.rules.specs.Tests.{◌or◌, ◌and◌}

unfoldable pub sum : List ℕ → ℕ
sum [] = 0
sum (x ∷ xs) = x + sum xs

-- x × y, place by place
unfoldable pub products : List ℕ → List ℕ → List ℕ
products [] ys = []
products (x ∷ xs) [] = []
products (x ∷ xs) (y ∷ ys) = x * y ∷ products xs ys

-- floor(x × y / scale), place by place
unfoldable pub scaled : ℕ → List ℕ → List ℕ → List ℕ
scaled scale [] ys = []
scaled scale (x ∷ xs) [] = []
scaled scale (x ∷ xs) (y ∷ ys) = x * y / scale ∷ scaled scale xs ys

-- the test holds at some place of the list
unfoldable pub any_of : (ℕ → Bool) → List ℕ → Bool
any_of test [] = false
any_of test (x ∷ xs) = test x or any_of test xs

-- the test holds at some place of the two lists
unfoldable pub any_pair : (ℕ → ℕ → Bool) → List ℕ → List ℕ → Bool
any_pair test [] ys = false
any_pair test (x ∷ xs) [] = false
any_pair test (x ∷ xs) (y ∷ ys) = test x y or any_pair test xs ys

-- x is below the first, and each is below the next
unfoldable pub rises_from : ℕ → List ℕ → Bool
rises_from x [] = true
rises_from x (y ∷ ys) = ltb x y and rises_from y ys

-- "strictly rising"
unfoldable pub rising : List ℕ → Bool
rising [] = true
rising (x ∷ xs) = rises_from x xs

-- x stands in the list
unfoldable pub elem : ℕ → List ℕ → Bool
elem x xs = any_of (eqb x) xs
