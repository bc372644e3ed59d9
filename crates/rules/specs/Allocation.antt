-- Document 02, [10]: the sample shared over sectors. A sector is its place in the two lists, and `still` marks the sectors that have not left.
use Rattle.std.specs.Prelude.{ℕ, zero, suc, ◌+◌, ◌-◌, ◌*◌, ◌/◌, ◌%◌, Bool, not, cond, List, ◌++◌, length, get_or, replicate, ltb, eqb}
use Rattle.rules.specs.Limits.{most_sectors, lowest_strength, highest_strength, most_interviews}
use Rattle.rules.specs.Tests.{◌or◌, ◌and◌, outside}
use Rattle.rules.specs.Refusals.{refuse, stays}
use Rattle.rules.specs.Lists.{sum, any_of}
use Rattle.rules.specs.Selection.{sum_of, count, firsts, listed, every}
use Rattle.rules.specs.TakeAll.{larger}

-- "T interviews for up to 64 sectors, each with a strength … and a minimum"
pub record Sharing : Type 0 where
  pub interviews : ℕ
  pub strengths : List ℕ
  pub minima : List ℕ

abbrev pub sharing : ℕ → List ℕ → List ℕ → Sharing
sharing t ss ms = record { interviews = t; strengths = ss; minima = ms }

abbrev pub sectors : Sharing → ℕ
sectors a = length a.strengths

abbrev pub strength : Sharing → ℕ → ℕ
strength a i = get_or a.strengths i 0

abbrev pub minimum : Sharing → ℕ → ℕ
minimum a i = get_or a.minima i 0

-- "T' is T less what has been given": each sector that left has its minimum
unfoldable pub remaining : Sharing → (ℕ → Bool) → ℕ
remaining a still = a.interviews - sum_of (λ i. not (still i)) (minimum a) (sectors a)

-- "the strengths left"
unfoldable pub strengths_left : Sharing → (ℕ → Bool) → ℕ
strengths_left a still = sum_of still (strength a) (sectors a)

-- "exact quota, T' × strength over the strengths left, is below their minimum"
unfoldable pub quota_below : Sharing → (ℕ → Bool) → ℕ → Bool
quota_below a still =
    let rest = remaining a still in
    let total = strengths_left a still in
    λ i. ltb (rest * strength a i) (minimum a i * total)

-- who leaves in a pass and who does not: "all such in one pass"
unfoldable pub leaving : Sharing → (ℕ → Bool) → ℕ → Bool
leaving a still = let below = quota_below a still in λ i. still i and below i

unfoldable pub staying : Sharing → (ℕ → Bool) → ℕ → Bool
staying a still = let below = quota_below a still in λ i. still i and not (below i)

-- "the passes repeat until none leaves"
unfoldable pub passes : ℕ → Sharing → (ℕ → Bool) → ℕ → Bool
passes zero a still = still
passes (suc most) a still =
    let next = passes most a (staying a still) in
    cond (eqb (count (leaving a still) (sectors a)) 0) still next

-- who stays in the end: a sector leaves in each pass but the last, so that there are no more passes than sectors
unfoldable pub stayed : Sharing → ℕ → Bool
stayed a = passes (sectors a) a every

-- "each quota's whole part and its division's whole-number remainder (both 0 for sectors that left)"
unfoldable pub whole_part : Sharing → (ℕ → Bool) → ℕ → ℕ
whole_part a still =
    let rest = remaining a still in
    let total = strengths_left a still in
    λ i. cond (still i) (rest * strength a i / total) 0

unfoldable pub remainder : Sharing → (ℕ → Bool) → ℕ → ℕ
remainder a still =
    let rest = remaining a still in
    let total = strengths_left a still in
    λ i. cond (still i) (rest * strength a i % total) 0

-- "64 places a list, 0 beyond the sectors"
abbrev pub no_places : List ℕ
no_places = replicate most_sectors 0

abbrev pub in_places : ℕ → (ℕ → ℕ) → List ℕ
in_places n f = listed every f n ++ replicate (most_sectors - n) 0

-- "until all T are given": what the whole parts leave of T'
unfoldable pub to_give : Sharing → (ℕ → Bool) → ℕ
to_give a still = remaining a still - sum_of still (whole_part a still) (sectors a)

-- "one more each by largest remainder, earlier sector first"
unfoldable pub one_more : Sharing → (ℕ → Bool) → ℕ → Bool
one_more a still =
    let more = to_give a still in
    let remainders = in_places (sectors a) (remainder a still) in
    λ i. firsts still (larger remainders) (sectors a) more i

-- "get the minimum"; "The rest get the whole part of their quota, and one more each"
unfoldable pub count_for : Sharing → (ℕ → Bool) → ℕ → ℕ
count_for a still i = cond (still i) (whole_part a still i + cond (one_more a still i) 1 0) (minimum a i)

-- "the lists are unequal, empty or over 64, a strength is out of range, T is over 6,400 or the minima together exceed T"
unfoldable pub bad_sharing : Sharing → Bool
bad_sharing a =
    not (eqb (length a.minima) (sectors a))
    or eqb (sectors a) 0
    or ltb most_sectors (sectors a)
    or any_of (outside lowest_strength highest_strength) a.strengths
    or ltb most_interviews a.interviews
    or ltb a.interviews (sum a.minima)

unfoldable pub sample_refusal : Sharing → ℕ
sample_refusal a = refuse (bad_sharing a) 31

-- The three lists of what is answered; after a refusal every place is 0.
abbrev pub count_list : Sharing → List ℕ
count_list a = let still = stayed a in in_places (sectors a) (count_for a still)

abbrev pub whole_list : Sharing → List ℕ
whole_list a = let still = stayed a in in_places (sectors a) (whole_part a still)

abbrev pub remainder_list : Sharing → List ℕ
remainder_list a = let still = stayed a in in_places (sectors a) (remainder a still)

unfoldable pub sample_counts : Sharing → List ℕ
sample_counts a = stays (sample_refusal a) no_places (count_list a)

unfoldable pub sample_wholes : Sharing → List ℕ
sample_wholes a = stays (sample_refusal a) no_places (whole_list a)

unfoldable pub sample_remainders : Sharing → List ℕ
sample_remainders a = stays (sample_refusal a) no_places (remainder_list a)
