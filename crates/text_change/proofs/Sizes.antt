-- A change between two figures within their limits: its sign, and its size within the largest.
use Prim.Native.Nat.{ℕ, suc, ◌+◌, ◌-◌, ◌*◌, ◌/◌, ◌%◌, ◌<◌, ◌≤◌}
use mathlib.Core.Path.{◌≡◌, sym, ap, ◌∙◌}
use lib.IntN.{pos, negsuc, neg_ℤ}
use native.Mathlib.Omega.{arith}
use native.Mathlib.Nat.{div-lt_iff_lt-mul, div-le_of_le-mul}
use native.Mathlib.Numerals.{add-one}
use Rattle.rules.specs.Limits.{lowest_index, highest_index, change_scale}
use Rattle.rules.specs.Sheet.{divided_by, change_of}
use Rattle.rules.proofs.Tests.{by_order}
use Rattle.text_change.specs.Values.{most_change, Sized}
use Rattle.text_change.proofs.Quotient.{scaled_rise, scaled_fall}

-- ---- a fall, as the code has it: −(n + 1) divided
abbrev pub below : ℕ → ℕ → ℕ
below new old = (old - new) * change_scale - 1

pub fall : (new old : ℕ) → new < old
    → record { hundredths = neg_ℤ (pos (below new old / old + 1)); rest = old - 1 - below new old % old } ≡ change_of new old
unfolding change_of divided_by
fall new old h =
    let n = below new old in
    let rest : old - 1 - n % old ≡ old - suc (n % old) = omega arith in
    rw (add-one (n / old)) (ap (λ (r : ℕ). record { hundredths = negsuc (n / old); rest = r }) rest) ∙ ap (divided_by old) (sym (scaled_fall new old h))

-- it is at most 100 percent
pub fall_size : (new old : ℕ) → new < old → below new old / old + 1 ≤ most_change
fall_size new old h =
    let n = below new old in
    let some : 0 < old = omega arith in
    let less : n < change_scale * old = omega arith in
    omega (arith, (div-lt_iff_lt-mul {k = old} {x = n} {y = change_scale} some).1 less)

-- ---- a rise
pub rise : (new old : ℕ) → old ≤ new
    → record { hundredths = pos ((new - old) * change_scale / old); rest = (new - old) * change_scale % old } ≡ change_of new old
unfolding change_of divided_by
rise new old h = ap (divided_by old) (sym (scaled_rise new old h))

pub rise_size : (new old : ℕ) → new ≤ highest_index → lowest_index ≤ old → (new - old) * change_scale / old ≤ most_change
rise_size new old high low =
    let few : (new - old) * change_scale ≤ old * most_change = omega arith in
    div-le_of_le-mul old few

-- ---- either
pub change_sized : (new old : ℕ) → new ≤ highest_index → lowest_index ≤ old → Sized (change_of new old).hundredths
change_sized new old high low =
    by_order new old
    (λ h. rw (sym (fall new old h), add-one (below new old / old)) (rw (add-one (below new old / old)) at (fall_size new old h)))
    (λ h. rw (sym (rise new old h)) (rise_size new old high low))
