-- Rounded weights beside exact ones: n floors, each leaving at least b, lose at most n × w parts of a weight, of any sum of weights and of
-- any sum of weight × relative. Stated over the scale of the relatives and the least weight b; the number of floors is counted by `move`.
use Prim.Native.Nat.{ℕ, ◌+◌, ◌*◌, ◌/◌, ◌≤◌, ◌<◌}
use mathlib.Core.List.{List, [], ◌∷◌}
use native.Mathlib.Nat.{mul-le-mul_right, div-mul-le_self}
use native.Mathlib.Omega.{arith}
use Rattle.rules.specs.Lists.{sum, products, scaled}
use Rattle.chain_bound.proofs.Near.{Near, exactly, times, joined, floor, add, weaken}

-- Of each place: the relative is 0 (the unit is absent), or the floor of weight × relative / s is at least b.
pub data Reached (b s : ℕ) : List ℕ → List ℕ → Type 0 where
  none : Reached b s [] []
  absent : {v : ℕ} {vs ps : List ℕ} → Reached b s vs ps → Reached b s (v ∷ vs) (0 ∷ ps)
  present : {v p : ℕ} {vs ps : List ℕ} → b ≤ v * p / s → Reached b s vs ps → Reached b s (v ∷ vs) (p ∷ ps)

-- Of each place: the weight v is at most its exact weight e / q, and loses at most c parts in h of it.
pub data Tracks (h c q : ℕ) : List ℕ → List ℕ → Type 0 where
  none : Tracks h c q [] []
  unit : {v e : ℕ} {vs es : List ℕ} → v * q ≤ e → Near h c e (v * q) → Tracks h c q vs es → Tracks h c q (v ∷ vs) (e ∷ es)

-- whole weights are exact
pub whole : (h : ℕ) (vs : List ℕ) → Tracks h 0 1 vs vs
whole h [] = Tracks.none
whole h (v ∷ vs) = Tracks.unit {v = v} {e = v} (omega arith) (exactly h (omega arith)) (whole h vs)

pub loosen : {h c c' q : ℕ} {vs es : List ℕ} → c ≤ c' → Tracks h c q vs es → Tracks h c' q vs es
loosen p Tracks.none = Tracks.none
loosen p (Tracks.unit l n t) = Tracks.unit l (weaken p n) (loosen p t)

-- One floor of one weight: it stays at most exact …
pub floor_most : (s v p q e : ℕ) → v * q ≤ e → v * p / s * (q * s) ≤ e * p
floor_most s v p q e l = omega (arith, mul-le-mul_right q (div-mul-le_self (v * p) s), mul-le-mul_right p l)

-- … and loses w parts more, where h ≤ w × b and the floor leaves at least b.
pub floor_near : (h c q b w s v e p : ℕ) → 0 < s → h ≤ w * b → w ≤ h → Near h c e (v * q) → b ≤ v * p / s → Near h (c + w) (e * p) (v * p / s * (q * s))
floor_near h c q b w s v e p ps enough few n left = omega (arith, joined few first second)
  where
    first : Near h c (e * p) (v * p * q)
    first = omega (arith, times p n)

    second : Near h w (v * p * q) (v * p / s * s * q)
    second = times q (floor h w b (v * p) s ps enough left)

-- One relative more on both sides: the exact weights take it whole, the others are floored once.
pub move : {h c q b s : ℕ} {vs es ps : List ℕ} (w : ℕ) → 0 < s → h ≤ w * b → w ≤ h → Tracks h c q vs es → Reached b s vs ps →
    Tracks h (c + w) (q * s) (scaled s vs ps) (products es ps)
unfolding scaled products
move w ps enough few Tracks.none Reached.none = Tracks.none
move {q = q} {s = s} w ps enough few (Tracks.unit {v = v} {e = e} l n t) (Reached.absent r) =
    Tracks.unit {v = v * 0 / s} {e = e * 0} (floor_most s v 0 q e l) (omega arith) (move w ps enough few t r)
move {h} {c} {q} {b} {s} w ps enough few (Tracks.unit {v = v} {e = e} l n t) (Reached.present {p = p} left r) =
    Tracks.unit (floor_most s v p q e l) (floor_near h c q b w s v e p ps enough few n left) (move w ps enough few t r)

-- One relative on both sides, with no floor: nothing more is lost.
pub under : {h c q : ℕ} {vs es : List ℕ} (ps : List ℕ) → Tracks h c q vs es → Tracks h c q (products vs ps) (products es ps)
unfolding products
under ps Tracks.none = Tracks.none
under [] (Tracks.unit l n t) = Tracks.none
under (p ∷ ps) (Tracks.unit {v = v} {e = e} l n t) =
    Tracks.unit {v = v * p} {e = e * p} (omega (arith, mul-le-mul_right p l)) (omega (arith, times p n)) (under ps t)

-- What holds of each weight holds of their sum.
pub sum_most : {h c q : ℕ} {vs es : List ℕ} → Tracks h c q vs es → sum vs * q ≤ sum es
unfolding sum
sum_most Tracks.none = omega arith
sum_most (Tracks.unit l n t) = omega (arith, sum_most t)

pub sum_near : {h c q : ℕ} {vs es : List ℕ} → Tracks h c q vs es → Near h c (sum es) (sum vs * q)
unfolding sum
sum_near Tracks.none = omega arith
sum_near (Tracks.unit l n t) = omega (arith, add n (sum_near t))
