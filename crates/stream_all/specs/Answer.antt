-- Document 02, [4]: what the code's lists and its answer are in the definitions of `rules`.
use Rattle.std.specs.Prelude.{ℕ, ◌≡◌, List, [], ◌∷◌, length, Result}
use Rattle.rules.specs.Refusals.{Judged}
use Rattle.rules.specs.Writing as rules
use Rattle.refusals.specs.declared.Refusal.{Refusal}
use Rattle.refusals.specs.Number.{answer_of}
use Rattle.stream_all.specs.declared.Places.{Places}

abbrev pub answer_from : Result ℕ Refusal → Judged ℕ
answer_from = answer_of (λ commands. commands)

abbrev pub places_of : Places → rules.Lists
places_of p = rules.lists p.kinds.now p.sizes.now p.shares.now p.numbers.now p.randoms.now p.amounts.now

abbrev pub lengths_of : rules.Lists → List ℕ
lengths_of l = length l.kinds ∷ length l.sizes ∷ length l.shares ∷ length l.numbers ∷ length l.randoms ∷ length l.amounts ∷ []

-- the lists that are lent afterwards are those that were lent
pub record SameLists (before after : Places) : Type 0 where
  pub kinds : after.kinds.ghost_name ≡ before.kinds.ghost_name
  pub sizes : after.sizes.ghost_name ≡ before.sizes.ghost_name
  pub shares : after.shares.ghost_name ≡ before.shares.ghost_name
  pub numbers : after.numbers.ghost_name ≡ before.numbers.ghost_name
  pub randoms : after.randoms.ghost_name ≡ before.randoms.ghost_name
  pub amounts : after.amounts.ghost_name ≡ before.amounts.ghost_name
