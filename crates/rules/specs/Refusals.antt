-- Document 01, "A refusal answers its number alone and changes nothing. The lowest that applies is given."
-- A refusal is document 01's number; 0 says that none applies. An entry's refusals are one sequence, in the order in which they are given.
use Rattle.std.specs.Prelude.{ℕ, zero, suc, Bool, true, false, List, ◌++◌, length, drop}

infixr 20 ◌then◌
-- the number where its test says that it applies
unfoldable pub refuse : Bool → ℕ → ℕ
refuse true number = number
refuse false number = 0

-- the first number that is not 0
unfoldable pub ◌then◌ : ℕ → ℕ → ℕ
zero then later = later
suc n then later = suc n

-- What an entry answers: a refusal's number alone, or what it was asked for.
pub data Judged (A : Type 0) : Type 0 where
  refused : ℕ → Judged A
  given : A → Judged A

-- the answer of an entry whose refusals come to a number
abbrev pub judged : {A : Type 0} → ℕ → A → Judged A
judged zero answer = given answer
judged (suc n) answer = refused (suc n)

-- "changes nothing": what was there stays after a refusal, and becomes the next where there is none
abbrev pub stays : {A : Type 0} → ℕ → A → A → A
stays zero before next = next
stays (suc n) before next = before

-- what a lent buffer holds after a call: the news in its first places and the rest as it was; after a refusal all of it as it was
abbrev pub written : ℕ → List ℕ → List ℕ → List ℕ
written refusal news buffer = stays refusal buffer (news ++ drop (length news) buffer)
