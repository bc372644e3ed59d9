-- Document 02, [4]: what the code's lists and its answer are in the definitions of `rules`.
use Rattle.std.specs.Prelude.{◌≡◌, ℕ, List, [], ◌∷◌, length, Result}
use Rattle.rules.specs.Refusals.{Judged}
use Rattle.rules.specs.Writing as rules
use Rattle.refusals.specs.declared.Refusal.{Refusal}
use Rattle.refusals.specs.Number.{answer_of}
use Rattle.stream_write.specs.declared.Lists.{Lists}

abbrev pub lists_of : Lists → rules.Lists
lists_of l = rules.lists l.kinds.now l.sizes.now l.shares.now l.numbers.now l.randoms.now l.amounts.now

-- the lengths of all but the first
abbrev pub lengths_of : rules.Lists → List ℕ
lengths_of l = length l.sizes ∷ length l.shares ∷ length l.numbers ∷ length l.randoms ∷ length l.amounts ∷ []

-- no list is longer or shorter than the first
pub record OneLength (l : rules.Lists) : Type 0 where
  pub sizes : length l.sizes ≡ length l.kinds
  pub shares : length l.shares ≡ length l.kinds
  pub numbers : length l.numbers ≡ length l.kinds
  pub randoms : length l.randoms ≡ length l.kinds
  pub amounts : length l.amounts ≡ length l.kinds

abbrev pub answer_from : Result ℕ Refusal → Judged ℕ
answer_from = answer_of (λ bytes. bytes)

-- the row beyond the lists
abbrev pub blank : rules.Row
blank = rules.row 0 0 0 0 0 0
