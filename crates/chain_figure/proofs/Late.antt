-- 23 and 24 by what the two tests say.
use mathlib.Core.Path.{◌≡◌}
use mathlib.Core.Bool.{true, false}
use Prim.Native.Nat.{ℕ}
use Rattle.rules.specs.Refusals.{refuse, ◌then◌}
use Rattle.rules.specs.Chain.{bad_index}
use Rattle.chain_record.specs.declared.Numbers.{Numbers}
use Rattle.chain_record.specs.Record.{spent_by}
use Rattle.chain_figure.specs.Steps.{late_refusal}

module _ (f : ℕ) (n : Numbers) where
  pub range_refused : bad_index f ≡ true → late_refusal f n ≡ 23
  unfolding late_refusal refuse ◌then◌
  range_refused out = rw out

  module _ (within : bad_index f ≡ false) where
    pub spent_refused : spent_by n ≡ true → late_refusal f n ≡ 24
    unfolding late_refusal refuse ◌then◌
    spent_refused spent = rw (within, spent)

    pub none_late : spent_by n ≡ false → late_refusal f n ≡ 0
    unfolding late_refusal refuse ◌then◌
    none_late more = rw (within, more)
