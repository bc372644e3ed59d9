-- Words over unit numbers, turnovers, a panel size and the parameters of document 02, [9], said of what a take-all group is found from.
use Rattle.std.specs.Prelude.{List, ℕ}
use Rattle.rules.specs.Kept.{Keeping}
use Rattle.group_keeping.specs.Keeping.{keeping_of}
use Rattle.group_kept.specs.declared.TakeAll.{TakeAll}

abbrev pub over {ℓ} : {A : Type ℓ} → (List ℕ → List ℕ → ℕ → Keeping → A) → TakeAll → A
over word t = word t.numbers.now t.turnovers.now t.z (keeping_of t.keeping)
