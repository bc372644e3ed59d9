-- The first places of an array: an array of `places` places and a count of units stand for the list `take count` of the array.
use Prim.Native.Nat.{ℕ, zero, suc, min}
use native.Mathlib.Nat.{zero-min, min-zero, suc-min-suc}
use mathlib.Core.Path.{◌≡◌, refl, sym, ap, ◌∙◌}
use mathlib.Core.List.{List, [], ◌∷◌}
use lib.ListN.{length, take, replicate, length-take}

take_min : (l : List ℕ) (count : ℕ) → take (min count (length l)) l ≡ take count l
take_min [] zero = refl
take_min [] (suc count) = rw min-zero
take_min (x ∷ l) zero = rw zero-min
take_min (x ∷ l) (suc count) = rw suc-min-suc (ap (λ (m : List ℕ). x ∷ m) (take_min l count))

-- how many places a count names
pub named : (l : List ℕ) (count places : ℕ) → length l ≡ places → length (take count l) ≡ min count places
named l count places e = length-take count l ∙ ap (min count) e

-- the code lends the first n places, n the smaller of the count and the places
pub lent : (l : List ℕ) (n count places : ℕ) → length l ≡ places → n ≡ min count places → take n l ≡ take count l
lent l n count places h e = ap (λ (k : ℕ). take k l) (e ∙ ap (min count) (sym h)) ∙ take_min l count

-- an array that holds one number
take_replicate : (count places x : ℕ) → take count (replicate places x) ≡ replicate (min count places) x
take_replicate zero places x = rw zero-min
take_replicate (suc count) zero x = rw min-zero
take_replicate (suc count) (suc places) x = rw suc-min-suc (ap (λ (l : List ℕ). x ∷ l) (take_replicate count places x))

pub filled_front : (l : List ℕ) (count places x : ℕ) → l ≡ replicate places x → take count l ≡ replicate (min count places) x
filled_front l count places x e = ap (λ (m : List ℕ). take count m) e ∙ take_replicate count places x
