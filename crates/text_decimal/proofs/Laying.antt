-- Texts laid one after the other are one text laid, so a line is laid piece by piece.
use Prim.Native.Nat.{ℕ, ◌+◌, ◌≤◌, ◌<◌}
use mathlib.Core.Path.{◌≡◌, refl, sym, ap, subst, ◌∙◌}
use mathlib.Core.List.{List, [], ◌∷◌, ◌++◌, append_assoc}
use lib.ListN.{length, take, drop, set, length-append, length-drop, take-append-drop}
use lib.Seq.{set_split, take_at, drop-append-add, drop-drop, length-take-le}
use native.Mathlib.Omega.{arith}
use native.Mathlib.Nat.{add-zero}
use native.Mathlib.Numerals.{add-one}
use Rattle.text_decimal.specs.Put.{laid_at, Put}

-- one byte stored
byte : (buffer : List ℕ) (at b : ℕ) → at + 1 ≤ length buffer → set buffer at b ≡ laid_at at (b ∷ []) buffer
unfolding laid_at
byte buffer at b room =
    let h : at < length buffer = omega arith in
    set_split buffer at b h ∙ ap (λ (n : ℕ). take at buffer ++ (b ∷ drop n buffer)) (sym (add-one at))

pub stored : (buffer : List ℕ) (at b : ℕ) → at + 1 ≤ length buffer → Put at (b ∷ []) buffer (set buffer at b) (at + 1)
stored buffer at b room = record { place = refl; bytes = byte buffer at b room }

-- a buffer with a text in it is as long as it was
pub as_long : (buffer text : List ℕ) (at : ℕ) → at + length text ≤ length buffer → length (laid_at at text buffer) ≡ length buffer
unfolding laid_at
as_long buffer text at room =
    let front : length (take at buffer) ≡ at = length-take-le at buffer (omega arith) in
    omega (
      arith,
      front,
      length-append (take at buffer) (text ++ drop (at + length text) buffer),
      length-append text (drop (at + length text) buffer),
      length-drop (at + length text) buffer,
    )

module _ (buffer a : List ℕ) (at : ℕ) (room : at + length a ≤ length buffer) where
  abbrev front : List ℕ
  front = take at buffer ++ a

  abbrev front_length : length front ≡ at + length a
  front_length =
      let h : at ≤ length buffer = omega arith in
      length-append (take at buffer) a ∙ ap (λ (n : ℕ). n + length a) (length-take-le at buffer h)

  abbrev parts : laid_at at a buffer ≡ front ++ drop (at + length a) buffer
  unfolding laid_at
  parts = sym (append_assoc (take at buffer) a (drop (at + length a) buffer))

  pub kept : take (at + length a) (laid_at at a buffer) ≡ take at buffer ++ a
  kept = ap (take (at + length a)) parts ∙ take_at front (drop (at + length a) buffer) (at + length a) front_length

  -- what lies beyond the text has not changed
  pub beyond : (n : ℕ) → drop (at + length a + n) (laid_at at a buffer) ≡ drop (at + length a + n) buffer
  beyond n =
      ap (drop (at + length a + n)) parts
      ∙ ap (λ (k : ℕ). drop (k + n) (front ++ drop (at + length a) buffer)) (sym front_length)
      ∙ drop-append-add front (drop (at + length a) buffer) n
      ∙ drop-drop n (at + length a) buffer

  -- a text laid after a text
  pub next : (b : List ℕ) → laid_at (at + length a) b (laid_at at a buffer) ≡ laid_at at (a ++ b) buffer
  unfolding laid_at
  next b =
      let rest = drop (at + length a + length b) buffer in
      let place : at + length a + length b ≡ at + length (a ++ b) = rw (length-append a b) (omega arith) in
      ap (λ (l : List ℕ). l ++ (b ++ drop (at + length a + length b) (laid_at at a buffer))) kept
      ∙ ap (λ (l : List ℕ). (take at buffer ++ a) ++ (b ++ l)) (beyond (length b))
      ∙ append_assoc (take at buffer) a (b ++ rest)
      ∙ ap (λ (l : List ℕ). take at buffer ++ l) (sym (append_assoc a b rest))
      ∙ ap (λ (n : ℕ). take at buffer ++ ((a ++ b) ++ drop n buffer)) place

-- the same, as the contracts say it
pub in_turn : {at p q : ℕ} {a b o o₁ o₂ : List ℕ} → Put at a o o₁ p → Put p b o₁ o₂ q → p ≤ length o → Put at (a ++ b) o o₂ q
in_turn {at} {p} {q} {a} {b} {o} {o₁} {o₂} first second room =
    let here = first.place in
    let h : at + length a ≤ length o = omega arith in
    let laying = next o a at h b in
    let e = first.bytes in
    let e₂ = second.bytes in
    record {
      place = omega (arith, first.place, second.place, length-append a b);
      bytes = cc;
    }

pub says : {at p : ℕ} {a b o o₁ : List ℕ} → a ≡ b → Put at a o o₁ p → Put at b o o₁ p
says {at} {p} {a} {b} {o} {o₁} e put = subst (λ (l : List ℕ). Put at l o o₁ p) e put

-- nothing laid
pub nothing_at : (at : ℕ) (o : List ℕ) → Put at [] o o at
unfolding laid_at
nothing_at at o =
    record {
      place = sym (add-zero at);
      bytes = sym (ap (λ (n : ℕ). take at o ++ drop n o) (add-zero at) ∙ take-append-drop at o);
    }

-- a text laid at the front
pub counted : {text o o₁ : List ℕ} {r : ℕ} → Put 0 text o o₁ r → r ≡ length text
counted {text} put =
    let start : 0 + length text ≡ length text = omega arith in
    put.place ∙ start

pub fronted : {text o o₁ : List ℕ} {r : ℕ} → Put 0 text o o₁ r → o₁ ≡ text ++ drop (length text) o
unfolding laid_at
fronted {text} {o} put =
    let start : 0 + length text ≡ length text = omega arith in
    put.bytes ∙ ap (λ (n : ℕ). text ++ drop n o) start
