-- An input that refusal 31 leaves is accepted (specs/Accepted.antt): each test that fails says its part.
use mathlib.Core.Path.{◌≡◌, refl, subst}
use mathlib.Core.Logic.{◌≢◌}
use mathlib.Core.Bool.{false}
use Prim.Native.Nat.{ℕ, ◌≤◌, ◌<◌}
use native.Mathlib.Omega.{arith}
use lib.ListN.{length}
use borrow.Author.Tests.{ltb-false, eqb-true, eqb-false, not-false}
use Rattle.rules.specs.Limits.{lowest_strength, highest_strength}
use Rattle.rules.specs.Tests.{outside}
use Rattle.rules.specs.Selection.{sum_of, every}
use Rattle.rules.specs.Allocation.{Sharing, sectors, strength, minimum, bad_sharing, sample_refusal}
use Rattle.rules.proofs.Tests.{or_false, within}
use Rattle.rules.proofs.Refusals.{refuse_none}
use Rattle.rules.proofs.Lists.{any_none}
use Rattle.selection.proofs.Sums.{sum_list, sum_has}
use Rattle.sector_quota.specs.Accepted.{Accepted}

pub accepted : (a : Sharing) → bad_sharing a ≡ false → Accepted a
unfolding bad_sharing
accepted a h =
    let f = or_false _ _ h in
    let e = or_false _ _ f.0 in
    let d = or_false _ _ e.0 in
    let c = or_false _ _ d.0 in
    let b = or_false _ _ c.0 in
    let same : length a.minima ≡ sectors a = eqb-true _ _ (not-false _ b.0) in
    record {
      same = same;
      some = let ne : sectors a ≢ 0 = eqb-false _ _ b.1 in omega arith;
      few = ltb-false _ _ c.1;
      strong = λ i l. within lowest_strength highest_strength (strength a i) (any_none (outside lowest_strength highest_strength) a.strengths d.1 i l);
      most = ltb-false _ _ e.1;
      fits = subst (λ (n : ℕ). sum_of every (minimum a) n ≤ a.interviews) same (rw (sum_list a.minima) (ltb-false _ _ f.1));
    }

pub accepted_by : (a : Sharing) → sample_refusal a ≡ 0 → Accepted a
unfolding sample_refusal
accepted_by a e = accepted a (refuse_none (bad_sharing a) 30 e)

-- so each minimum is within T
pub minimum_fits : (a : Sharing) → Accepted a → (i : ℕ) → i < sectors a → minimum a i ≤ a.interviews
minimum_fits a ok i l = omega (arith, sum_has every (minimum a) (sectors a) i l refl, ok.fits)
