-- A whole stream by its first reading; the bound on the readings does not matter.
use Prim.Native.Nat.{ℕ, zero, suc, ◌<◌}
use mathlib.Core.Path.{◌≡◌, refl, sym, ap, ◌∙◌}
use mathlib.Core.List.{List, [], ◌∷◌, map}
use lib.ListN.{length}
use native.Mathlib.Omega.{arith}
use Rattle.rules.specs.Refusals.{Judged}
use Rattle.rules.specs.Stream.{Command, Front, reading, rest_of}
use Rattle.rules.specs.Writing.{Whole, whole_by, whole_in, whole_of, row_of, rows_read}
use Rattle.stream_read.proofs.Unread.{rest_shorter}

one : (most : ℕ) (s : List ℕ) → whole_in (suc most) s ≡ whole_by (reading s) (whole_in most (rest_of s))
unfolding whole_in
one most s = refl

enough : (m n : ℕ) (s : List ℕ) → length s < m → length s < n → whole_in m s ≡ whole_in n s
enough zero n s h k = absurd (omega arith)
enough (suc m) zero s h k = absurd (omega arith)
enough (suc m) (suc n) s h k = one m s ∙ go (reading s) refl (λ l. enough m n (rest_of s) (omega arith) (omega arith)) ∙ sym (one n s)
  where
    go : (r : Judged Front) → reading s ≡ r → (length (rest_of s) < length s → whole_in m (rest_of s) ≡ whole_in n (rest_of s))
        → whole_by r (whole_in m (rest_of s)) ≡ whole_by r (whole_in n (rest_of s))
    go (Judged.refused k) e later = refl
    go (Judged.given Front.ended) e later = refl
    go (Judged.given (Front.command c)) e later = ap (whole_by (Judged.given (Front.command c))) (later (rest_shorter s c e))

module _ (s : List ℕ) where
  pub by_reading : (r : Judged Front) → reading s ≡ r → whole_of s ≡ whole_by r (whole_of (rest_of s))
  unfolding whole_of
  by_reading r e = one (length s) s ∙ ap (λ (x : Judged Front). whole_by x (whole_in (length s) (rest_of s))) e ∙ go r e
    where
      go : (r : Judged Front) → reading s ≡ r → whole_by r (whole_in (length s) (rest_of s)) ≡ whole_by r (whole_in (suc (length (rest_of s))) (rest_of s))
      go (Judged.refused k) e = refl
      go (Judged.given Front.ended) e = refl
      go (Judged.given (Front.command c)) e =
          ap (whole_by (Judged.given (Front.command c))) (enough (length s) (suc (length (rest_of s))) (rest_of s) (rest_shorter s c e) (omega arith))

  -- the rows and the refusal at which the reader stops, by what stands at the front
  pub found : (c : Command) → reading s ≡ Judged.given (Front.command c) → (rows_read s ≡ row_of c ∷ rows_read (rest_of s)) × ((whole_of s).stop ≡ (whole_of (rest_of s)).stop)
  unfolding rows_read
  found c e =
      let w = by_reading (Judged.given (Front.command c)) e in
      (ap (λ (v : Whole). map row_of v.commands) w, ap (λ (v : Whole). v.stop) w)

  pub ended : reading s ≡ Judged.given Front.ended → (rows_read s ≡ []) × ((whole_of s).stop ≡ 0)
  unfolding rows_read
  ended e =
      let w = by_reading (Judged.given Front.ended) e in
      (ap (λ (v : Whole). map row_of v.commands) w, ap (λ (v : Whole). v.stop) w)

  pub stopped : (k : ℕ) → reading s ≡ Judged.refused k → (rows_read s ≡ []) × ((whole_of s).stop ≡ k)
  unfolding rows_read
  stopped k e =
      let w = by_reading (Judged.refused k) e in
      (ap (λ (v : Whole). map row_of v.commands) w, ap (λ (v : Whole). v.stop) w)
