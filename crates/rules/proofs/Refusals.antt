-- Laws of refusals and answers (specs/Refusals.antt), cited by every crate: which number a sequence comes to, and what an answer and a buffer then are.
use mathlib.Core.Path.{◌≡◌, refl, ap}
use mathlib.Core.Bool.{Bool, true, false}
use mathlib.Core.List.{List, ◌++◌}
use lib.ListN.{length, drop}
use Prim.Native.Nat.{ℕ, zero, suc}
use native.Mathlib.Omega.{arith}
use Rattle.rules.specs.Refusals.{Judged, refuse, ◌then◌, judged, stays, written}

-- ---- one number
pub refuse_on : (test : Bool) (n : ℕ) → test ≡ true → refuse test n ≡ n
unfolding refuse
refuse_on test n h = rw h

pub refuse_off : (test : Bool) (n : ℕ) → test ≡ false → refuse test n ≡ 0
unfolding refuse
refuse_off test n h = rw h

-- none: the test does not apply. The number is n and one more, since 0 is no number: `refuse_none _ 23` is of 24.
pub refuse_none : (test : Bool) (n : ℕ) → refuse test (suc n) ≡ 0 → test ≡ false
unfolding refuse
refuse_none true n e = absurd (omega arith)
refuse_none false n e = refl

-- ---- a sequence
-- the first that applies stands, whatever follows
pub then_stops : (a b : ℕ) → (a ≡ 0 → ⊥) → (a then b) ≡ a
unfolding ◌then◌
then_stops zero b some = absurd (some refl)
then_stops (suc n) b some = refl

-- one that does not apply leaves it to what follows
pub then_goes : (a b : ℕ) → a ≡ 0 → (a then b) ≡ b
unfolding ◌then◌
then_goes a b e = rw e

-- none: no part of it applies
pub then_none : (a b : ℕ) → (a then b) ≡ 0 → (a ≡ 0) × (b ≡ 0)
unfolding ◌then◌
then_none zero b e = (refl, e)
then_none (suc n) b e = absurd (omega arith)

-- 0 is its unit, and it may be read from either end
pub then_zero : (a : ℕ) → (a then 0) ≡ a
unfolding ◌then◌
then_zero zero = refl
then_zero (suc n) = refl

pub then_assoc : (a b c : ℕ) → ((a then b) then c) ≡ (a then (b then c))
unfolding ◌then◌
then_assoc zero b c = refl
then_assoc (suc n) b c = refl

-- ---- what follows from the number
module _ {A : Type 0} where
  pub judged_given : (n : ℕ) (a : A) → n ≡ 0 → judged n a ≡ Judged.given a
  judged_given n a e = rw e

  pub judged_refused : (n : ℕ) (a : A) → (n ≡ 0 → ⊥) → judged n a ≡ Judged.refused n
  judged_refused zero a some = absurd (some refl)
  judged_refused (suc n) a some = refl

  pub stays_goes : (n : ℕ) (before next : A) → n ≡ 0 → stays n before next ≡ next
  stays_goes n before next e = rw e

  pub stays_stops : (n : ℕ) (before next : A) → (n ≡ 0 → ⊥) → stays n before next ≡ before
  stays_stops zero before next some = absurd (some refl)
  stays_stops (suc n) before next some = refl

  -- an answer tells the number, and what was asked for
  pub given_tells : (n : ℕ) (a b : A) → Judged.given b ≡ judged n a → (n ≡ 0) × (b ≡ a)
  given_tells zero a b e = (refl, cc)
  given_tells (suc n) a b e = absurd (let z : ◌≡◌ {A = ℕ} 0 1 = cc in omega arith)

  pub refused_tells : (n m : ℕ) (a : A) → Judged.refused m ≡ judged n a → m ≡ n
  refused_tells zero m a e = cc
  refused_tells (suc n) m a e = cc

pub written_goes : (n : ℕ) (news buffer : List ℕ) → n ≡ 0 → written n news buffer ≡ news ++ drop (length news) buffer
written_goes n news buffer e = stays_goes n buffer _ e

pub written_stops : (n : ℕ) (news buffer : List ℕ) → (n ≡ 0 → ⊥) → written n news buffer ≡ buffer
written_stops n news buffer some = stays_stops n buffer _ some

-- what follows a refusal need only be the same where none applies
pub then_same : (a b c : ℕ) → (a ≡ 0 → b ≡ c) → (a then b) ≡ (a then c)
unfolding ◌then◌
then_same zero b c h = h refl
then_same (suc n) b c h = refl

pub judged_same : {A : Type 0} (n : ℕ) (a b : A) → (n ≡ 0 → a ≡ b) → judged n a ≡ judged n b
judged_same zero a b h = ap Judged.given (h refl)
judged_same (suc n) a b h = refl

pub written_same : (n : ℕ) (a b buffer : List ℕ) → (n ≡ 0 → a ≡ b) → written n a buffer ≡ written n b buffer
written_same zero a b buffer h = ap (λ (xs : List ℕ). xs ++ drop (length xs) buffer) (h refl)
written_same (suc n) a b buffer h = refl
