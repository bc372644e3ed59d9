-- The unread part is what is left after the bytes that the reading takes. A command that was read lies within the part, so the rest is shorter.
use Prim.Native.Nat.{ℕ, zero, suc, ◌+◌, ◌-◌, ◌≤◌, ◌<◌}
use mathlib.Core.Path.{◌≡◌, refl, sym, ap, ◌∙◌}
use mathlib.Core.List.{List}
use mathlib.Core.Bool.{Bool, true, false, cond}
use lib.ListN.{length, get_or, take, drop, length-drop}
use lib.Seq.{take_all}
use lib.Dec.{eqb}
use native.Mathlib.Omega.{arith}
use native.Mathlib.Nat.{le_of_eq}
use borrow.Author.Tests.{ltb-false, eqb-false}
use Rattle.rules.specs.Refusals.{Judged, judged}
use Rattle.rules.proofs.Refusals.{then_none, refuse_none}
use Rattle.rules.specs.Stream.{Command, Front, width_of, command_of, reading_refusal, reading, rest_by, rest_of}
use Rattle.std.proofs.Common.{Option, Result}
use Rattle.refusals.specs.declared.Refusal.{Refusal}
use Rattle.stream_read.specs.declared.Command as code
use Rattle.stream_read.specs.Value.{reading_from, taken_by, taken_of}

-- the part from n on, as `&s[n..]` gives it
pub tail : (n : ℕ) (s : List ℕ) → take (length s - n) (drop n s) ≡ drop n s
tail n s = take_all (length s - n) (drop n s) (le_of_eq (length-drop n s))

-- a command is given where no refusal applies and the part is not empty
given_command : (n : ℕ) (empty : Bool) (x c : Command)
    → judged n (cond empty Front.ended (Front.command x)) ≡ Judged.given (Front.command c) → (n ≡ 0) × (empty ≡ false)
given_command zero false x c e = (refl, refl)
given_command zero true x c e = let z : ◌≡◌ {A = ℕ} 0 1 = cc in absurd (omega arith)
given_command (suc n) empty x c e = let z : ◌≡◌ {A = ℕ} 0 1 = cc in absurd (omega arith)

module _ (s : List ℕ) (c : Command) (found : reading s ≡ Judged.given (Front.command c)) where
  abbrev some : (reading_refusal s ≡ 0) × (eqb (length s) 0 ≡ false)
  unfolding reading
  some = given_command (reading_refusal s) (eqb (length s) 0) (command_of (get_or s 0 0) s) c found

  pub not_empty : 0 < length s
  not_empty =
      let e : length s ≡ 0 → ⊥ = eqb-false _ _ some.1 in
      omega arith

  pub within : width_of (get_or s 0 0) ≤ length s
  unfolding reading_refusal
  within = ltb-false _ _ (refuse_none _ _ (then_none _ _ (rw some.1 at (then_none _ _ some.0).1)).1)

-- the bytes taken are those of a command within the part, or none
pub taken_within : (s : List ℕ) → taken_of s ≤ length s
unfolding taken_of
taken_within s = go (reading s) refl
  where
    go : (r : Judged Front) → reading s ≡ r → taken_by r (width_of (get_or s 0 0)) ≤ length s
    go (Judged.refused n) e = omega arith
    go (Judged.given Front.ended) e = omega arith
    go (Judged.given (Front.command c)) e = within s c e

-- the bytes that the code's reading takes
pub taken_told : (s : List ℕ) (r read : Result (Option code.Command) Refusal) → r ≡ read → reading_from r ≡ reading s
    → taken_by (reading_from read) (width_of (get_or s 0 0)) ≡ taken_of s
unfolding taken_of
taken_told s r read e told = ap (λ (f : Judged Front). taken_by f (width_of (get_or s 0 0))) (sym (ap reading_from e) ∙ told)

pub rest_is : (s : List ℕ) → rest_of s ≡ drop (taken_of s) s
unfolding rest_of taken_of
rest_is s = go (reading s)
  where
    go : (r : Judged Front) → rest_by r s ≡ drop (taken_by r (width_of (get_or s 0 0))) s
    go (Judged.refused n) = refl
    go (Judged.given Front.ended) = refl
    go (Judged.given (Front.command c)) = refl

pub rest_length : (s : List ℕ) → length (rest_of s) + taken_of s ≡ length s
rest_length s = omega (arith, ap length (rest_is s), length-drop (taken_of s) s, taken_within s)

-- every command has its command byte, so a loop over the commands ends
pub rest_shorter : (s : List ℕ) (c : Command) → reading s ≡ Judged.given (Front.command c) → length (rest_of s) < length s
unfolding taken_of width_of
rest_shorter s c e = omega (arith, rest_length s, ap (λ (f : Judged Front). taken_by f (width_of (get_or s 0 0))) e)
