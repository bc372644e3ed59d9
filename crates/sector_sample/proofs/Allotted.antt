-- The passes are made: what is divided and given from there on is what the definitions say.
use mathlib.Core.Path.{◌≡◌, sym, ap, ap₂, ◌∙◌, subst}
use mathlib.Core.Bool.{Bool, false, cond}
use mathlib.Core.List.{List}
use Prim.Native.Nat.{ℕ, ◌+◌, ◌-◌, ◌*◌, ◌/◌, ◌≤◌, ◌<◌, zero-le}
use native.Mathlib.Nat.{mul-le-mul}
use native.Mathlib.Omega.{arith}
use lib.ListN.{length, get_or, take}
use lib.Seq.{ext_get_or}
use Rattle.rules.specs.Limits.{most_sectors, most_interviews}
use Rattle.rules.specs.Selection.{sum_of, firsts, listed, every}
use Rattle.rules.specs.TakeAll.{larger}
use Rattle.rules.specs.Allocation.{Sharing, sectors, strength, minimum, remaining, strengths_left, stayed, whole_part, remainder, in_places, to_give, one_more, count_for}
use Rattle.rules.proofs.Tests.{by_test, by_order, and_off}
use Rattle.selection.proofs.Sums.{sum_has}
use Rattle.selection.proofs.Terms.{sum_most, sum_equal, length_terms, term_at}
use Rattle.sector_quota.specs.Accepted.{Accepted}
use Rattle.sector_quota.proofs.Accepted.{minimum_fits}
use Rattle.sector_quota.proofs.Passes.{Settled, given_fits, stayed_settled}
use Rattle.sector_quota.proofs.Counts.{total_some, whole_is, whole_fits, few_more}
use Rattle.sector_passes.specs.Marks.{still_in, value_of, Summable}
use Rattle.sector_passes.proofs.Settling.{rest_low}
use Rattle.sector_divide.specs.Quotas.{count_by, whole_by, remainder_by, Dividable}
use Rattle.sector_more.specs.Given.{Givable, Given}
use Rattle.sector_sample.proofs.Places.{places_length, places_front, places_at, places_beyond}

-- who has left is not given one more
not_more : (a : Sharing) (still : ℕ → Bool) (i : ℕ) → still i ≡ false → one_more a still i ≡ false
unfolding one_more firsts
not_more a still i h = and_off (still i) _ h

-- the marks are those of the last pass, and what is left to share is what they leave
pub record Ready (a : Sharing) (gone : List ℕ) (rest total : ℕ) : Type 0 where
  pub ok : Accepted a
  pub full : length gone ≡ most_sectors
  pub settled : still_in gone ≡ stayed a
  pub rest_same : rest ≡ remaining a (still_in gone)
  pub total_same : total ≡ strengths_left a (still_in gone)

pub ready :
    {a : Sharing} {gone : List ℕ} {rest total : ℕ} → Accepted a → length gone ≡ most_sectors → still_in gone ≡ stayed a
    → rest ≡ remaining a (still_in gone) → total ≡ strengths_left a (still_in gone) → Ready a gone rest total
ready ok full settled rest total = record { ok = ok; full = full; settled = settled; rest_same = rest; total_same = total }

module _ (a : Sharing) (gone : List ℕ) (rest total : ℕ) (known : Ready a gone rest total) where
  abbrev ok : Accepted a
  ok = known.ok

  abbrev still : ℕ → Bool
  still = still_in gone

  done : Settled a still
  done = subst (Settled a) (sym known.settled) (stayed_settled a ok)

  abbrev rest_same : rest ≡ remaining a still
  rest_same = known.rest_same

  abbrev total_same : total ≡ strengths_left a still
  total_same = known.total_same

  -- ---- the division
  pub dividable : Dividable rest total a gone
  dividable = record {
    same = ok.same;
    room = omega (arith, known.full, ok.few);
    places = ok.few;
    some = omega (arith, total_same, total_some a ok still done);
    few = omega (arith, rest_low a ok gone known.full rest total rest_same total_same, ok.most);
    strong = λ i l. (ok.strong i l).1;
  }

  wholes_same : whole_by rest total a gone ≡ whole_part a still
  unfolding whole_part
  wholes_same = ap₂ {C = ℕ → ℕ} (λ (r t : ℕ). whole_by r t a gone) rest_same total_same

  remainders_same : remainder_by rest total a gone ≡ remainder a still
  unfolding remainder
  remainders_same = ap₂ {C = ℕ → ℕ} (λ (r t : ℕ). remainder_by r t a gone) rest_same total_same

  -- a count before one more: the whole part, or the minimum
  first_count : (i : ℕ) → count_by rest total a gone i ≡ cond (still i) (whole_part a still i) (minimum a i)
  first_count i =
      by_test (still i)
      (λ h. rw h (ap₂ (λ (r t : ℕ). r * strength a i / t) rest_same total_same ∙ sym (whole_is a ok still done i h)))
      (λ h. rw h)

  whole_low : (i : ℕ) → i < sectors a → whole_part a still i ≤ a.interviews
  unfolding whole_part
  whole_low i l =
      by_test (still i)
      (λ h. omega (arith, sum_has still (whole_part a still) (sectors a) i l h, whole_fits a ok still done, given_fits a ok still))
      (λ h. rw h zero-le)

  -- ---- what is left to give
  module _ (ws : List ℕ) (w : ws ≡ in_places (sectors a) (whole_by rest total a gone)) where
    pub wholes_are : ws ≡ in_places (sectors a) (whole_part a (stayed a))
    wholes_are = w ∙ ap (in_places (sectors a)) (wholes_same ∙ ap (whole_part a) known.settled)

    pub wholes_room : sectors a ≤ length ws
    wholes_room = omega (arith, ap length w, places_length (sectors a) (whole_by rest total a gone) ok.few, ok.few)

    front : take (sectors a) ws ≡ listed every (whole_part a still) (sectors a)
    front = ap (take (sectors a)) (w ∙ ap (in_places (sectors a)) wholes_same) ∙ places_front (sectors a) (whole_part a still)

    pub front_length : length (take (sectors a) ws) ≡ sectors a
    front_length = ap length front ∙ length_terms (whole_part a still) (sectors a)

    front_sum : (mark : ℕ → Bool) → sum_of mark (value_of (take (sectors a) ws)) (length (take (sectors a) ws)) ≡ sum_of mark (whole_part a still) (sectors a)
    front_sum mark =
        ap (sum_of mark (value_of (take (sectors a) ws))) front_length
        ∙ sum_equal mark (value_of (take (sectors a) ws)) (whole_part a still) (sectors a)
        (λ i l h. ap (λ (xs : List ℕ). get_or xs i 0) front ∙ term_at (whole_part a still) (sectors a) i l)

    pub wholes_summable : Summable (take (sectors a) ws) gone
    wholes_summable = record {
      room = omega (arith, front_length, known.full, ok.few);
      low = omega (
        arith,
        front_sum every,
        sum_most every (whole_part a still) a.interviews (sectors a) (λ i l h. whole_low i l),
        mul-le-mul ok.few ok.most,
      );
    }

    module _ (sum : ℕ) (s : sum ≡ sum_of still (value_of (take (sectors a) ws)) (length (take (sectors a) ws))) where
      pub sum_fits : sum ≤ rest
      sum_fits = omega (arith, s, front_sum still, whole_fits a ok still done, rest_same)

      more_same : rest - sum ≡ to_give a still
      unfolding to_give
      more_same = ap₂ (λ (r t : ℕ). r - t) rest_same (s ∙ front_sum still)

      -- ---- one more each
      module _ (rs cs : List ℕ) (r : rs ≡ in_places (sectors a) (remainder_by rest total a gone))
          (c : cs ≡ in_places (sectors a) (count_by rest total a gone)) where
        pub remainders_are : rs ≡ in_places (sectors a) (remainder a (stayed a))
        remainders_are = r ∙ ap (in_places (sectors a)) (remainders_same ∙ ap (remainder a) known.settled)

        count_at : (i : ℕ) → i < sectors a → get_or cs i 0 ≡ cond (still i) (whole_part a still i) (minimum a i)
        count_at i l = ap (λ (xs : List ℕ). get_or xs i 0) c ∙ places_at (sectors a) _ i l ∙ first_count i

        count_low : (i : ℕ) → i < sectors a → get_or cs i 0 ≤ most_interviews
        count_low i l =
            by_test (still i)
            (λ h. rw (count_at i l, h) (omega (arith, whole_low i l, ok.most)))
            (λ h. rw (count_at i l, h) (omega (arith, minimum_fits a ok i l, ok.most)))

        pub givable : Givable rs gone (sectors a) (rest - sum) cs
        givable = record {
          few = ok.few;
          keys = omega (arith, ap length r, places_length (sectors a) (remainder_by rest total a gone) ok.few, ok.few);
          marks = omega (arith, known.full, ok.few);
          room = omega (arith, ap length c, places_length (sectors a) (count_by rest total a gone) ok.few, ok.few);
          enough = omega (arith, more_same, few_more a ok still done);
          low = count_low;
        }

        -- after it each count is the definition's
        module _ (new : List ℕ) (g : Given still (larger rs) (sectors a) (rest - sum) cs new) where
          more_at : (i : ℕ) → firsts still (larger rs) (sectors a) (rest - sum) i ≡ one_more a still i
          unfolding one_more
          more_at i =
              ap₂ (λ (xs : List ℕ) (k : ℕ). firsts still (larger xs) (sectors a) k i) (r ∙ ap (in_places (sectors a)) remainders_same) more_same

          given_at : (i : ℕ) → i < sectors a → get_or new i 0 ≡ count_for a still i
          unfolding count_for
          given_at i l =
              by_test (still i)
              (λ h. rw h (g.at i l ∙ ap₂ (λ (x : ℕ) (b : Bool). x + cond b 1 0) (rw h at (count_at i l)) (more_at i)))
              (λ h.
              let none : one_more a still i ≡ false = not_more a still i h in
              rw h (g.at i l ∙ ap₂ (λ (x : ℕ) (b : Bool). x + cond b 1 0) (rw h at (count_at i l)) (more_at i ∙ none) ∙ omega arith))

          long : length new ≡ most_sectors
          long = g.same ∙ ap length c ∙ places_length (sectors a) _ ok.few

          pub counts_are : new ≡ in_places (sectors a) (count_for a (stayed a))
          counts_are =
              ext_get_or 0 new (in_places (sectors a) (count_for a still)) (long ∙ sym (places_length (sectors a) (count_for a still) ok.few))
              (λ i h. by_order i (sectors a)
              (λ l. given_at i l ∙ sym (places_at (sectors a) (count_for a still) i l))
              (λ l. g.beyond i l ∙ ap (λ (xs : List ℕ). get_or xs i 0) c ∙ places_beyond (sectors a) _ i l ∙ sym (places_beyond (sectors a) (count_for a still) i l)))
              ∙ ap (λ (f : ℕ → Bool). in_places (sectors a) (count_for a f)) known.settled
