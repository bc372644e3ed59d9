-- Refused: 31, and 0 in every place. Else the three lists are those of `allot`.
use mathlib.Core.Path.{◌≡◌, refl, sym, ◌∙◌}
use mathlib.Core.Bool.{true, false}
use mathlib.Core.List.{List}
use Prim.Native.Nat.{ℕ}
use Rattle.rules.specs.Refusals.{refuse}
use Rattle.rules.specs.Allocation.{Sharing, no_places, count_list, whole_list, remainder_list, bad_sharing, sample_refusal, sample_counts, sample_wholes, sample_remainders}
use Rattle.sector_quota.proofs.Accepted.{accepted}
use Rattle.sector_sample.proofs.share.Goals as goal

-- the answer's number and lists, as the contract has them
abbrev Answers : Sharing → ℕ → List ℕ → List ℕ → List ℕ → Type 0
Answers a n cs ws rs = (n ≡ sample_refusal a) × ((cs ≡ sample_counts a) × ((ws ≡ sample_wholes a) × (rs ≡ sample_remainders a)))

refused : (a : Sharing) (cs ws rs : List ℕ) → bad_sharing a ≡ true → cs ≡ no_places → ws ≡ no_places → rs ≡ no_places → Answers a 31 cs ws rs
unfolding sample_refusal sample_counts sample_wholes sample_remainders refuse
refused a cs ws rs bad c w r = rw (bad, c, w, r) (refl, (refl, (refl, refl)))

given : (a : Sharing) (cs ws rs : List ℕ) → bad_sharing a ≡ false → cs ≡ count_list a → ws ≡ whole_list a → rs ≡ remainder_list a → Answers a 0 cs ws rs
unfolding sample_refusal sample_counts sample_wholes sample_remainders refuse
given a cs ws rs good c w r = rw good (refl, (c, (w, r)))

pub returns-then-bad_sharing : goal.returns-then-bad_sharing
returns-then-bad_sharing c =
    let bad = sym c.bad_sharing.ensures ∙ c.if-bad_sharing.true in
    let all = refused _ _ _ _ bad refl refl refl in
    record { verdict_value = all.0; counts_value = all.1.0; wholes_value = all.1.1.0; remainders_value = all.1.1.1 }

pub allot-requires : goal.allot-requires
allot-requires c = accepted _ (sym c.bad_sharing.ensures ∙ c.if-bad_sharing.false)

pub returns : goal.returns
returns c =
    let good = sym c.bad_sharing.ensures ∙ c.if-bad_sharing.false in
    let all = given _ _ _ _ good c.allot.ensures.counts_value c.allot.ensures.wholes_value c.allot.ensures.remainders_value in
    record { verdict_value = all.0; counts_value = all.1.0; wholes_value = all.1.1.0; remainders_value = all.1.1.1 }
