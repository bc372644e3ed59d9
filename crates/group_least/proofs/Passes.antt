-- One pass of the search for q. The units of at least one turnover are the largest, as many as they are. If a turnover `at` reaches X at q, and m units
-- have it, then no number from q up to m fits: each unit that goes takes at least `at` from X, as much as one unit less asks for.
use mathlib.Core.Path.{◌≡◌, refl, sym, ap, ◌∙◌, subst}
use mathlib.Core.Logic.{⊎_elim}
use mathlib.Core.Bool.{true, not}
use mathlib.Core.List.{List}
use Prim.Native.Nat.{ℕ, zero, suc, ◌+◌, ◌-◌, ◌*◌, ◌≤◌, ◌<◌}
use native.Mathlib.Nat.{le_trans, le_refl, mul-le-mul_left, mul-le-mul_right, eq-or-lt_of_le, le_of_suc-le-suc}
use native.Mathlib.Omega.{arith}
use native.Mathlib.Numerals.{add-one}
use lib.ListN.{length, get_or}
use lib.Dec.{leb}
use borrow.Author.Tests.{lt-ltb, le-ltb, le-leb, lt-leb, leb-true, leb-false}
use Rattle.rules.specs.Lists.{sum}
use Rattle.rules.specs.Selection.{sum_of, count, least_from, every, firsts}
use Rattle.rules.specs.TakeAll.{turnover, more_turnover, larger, largest, rest_without, reaches_rest, fits, take_all_size}
use Rattle.rules.proofs.Tests.{and_on, by_order}
use Rattle.selection.specs.Ranked.{Ranked}
use Rattle.selection.proofs.Sums.{sum_le, sum_same, sum_both, sum_list, sum_has, count_every, count_le, place_le}
use Rattle.selection.proofs.Orders.{by_left}
use Rattle.selection.proofs.Places.{ranked_short, all_ranked}
use Rattle.selection.proofs.Least.{least_hit, least_miss, least_end}
use Rattle.selection.proofs.Segment.{Segment, segment_firsts}
use Rattle.selection.proofs.TakeAll.{larger_order, largest_none, rest_none, rest_step, fits_is, group_size, size_start, rest_hit, rest_cut}
use Rattle.group_least.specs.Size.{Sized, has_least, IsSize}

-- ---- units of at least one turnover
module _ (ts : List ℕ) (least : ℕ) where
  segment : Segment every (larger ts) (length ts) (has_least ts least)
  unfolding larger more_turnover has_least
  segment = record {
    marked = λ i li h. refl;
    ahead = λ i j li lj ci aj cj.
        by_left (more_turnover ts) i j
        (lt-ltb (turnover ts j) (turnover ts i) (omega (arith, leb-true least (turnover ts i) ci, leb-false least (turnover ts j) cj)));
  }

  pub least_largest : (m : ℕ) → count (has_least ts least) (length ts) ≡ m → (i : ℕ) → i < length ts → has_least ts least i ≡ largest ts m i
  unfolding largest
  least_largest m e i li = segment_firsts (larger_order ts (length ts)) segment m e i li

  -- what they leave is X
  pub rest_of : (m : ℕ) → count (has_least ts least) (length ts) ≡ m → sum_of (has_least ts least) (turnover ts) (length ts) + rest_without ts m ≡ sum ts
  unfolding rest_without
  rest_of m e =
      let same =
      sum_same (λ i. not (has_least ts least i)) (λ i. not (largest ts m i)) (turnover ts) (length ts) (λ i l. ap not (least_largest m e i l)) in
      omega (arith, same, sum_both (has_least ts least) (turnover ts) (length ts), sum_list ts)

-- ---- a turnover that reaches X at q
module _ (ts : List ℕ) (z : ℕ) (w : Sized ts z) where
  top : List ℕ
  top = (all_ranked (larger_order ts (length ts))).0

  whole : Ranked every (larger ts) (length ts) top (length ts)
  unfolding top
  whole =
      ranked_short every (larger ts) (length ts) (count every (length ts)) (length ts) top (omega (arith, count_every (length ts)))
      (all_ranked (larger_order ts (length ts))).1

  ranked : Ranked every (larger ts) (length ts) top z
  ranked = ranked_short every (larger ts) (length ts) (length ts) z top w.within whole

  -- q units are taken, and from there on q is looked for; the turnover `at` reaches X
  pub record Reaches (at q : ℕ) : Type 0 where
    pub rest_low : rest_without ts q ≤ (z - q) * at
    pub least : take_all_size ts z ≡ least_from (fits ts z) (z - q) q

  module _ (at m : ℕ) (many : count (has_least ts at) (length ts) ≡ m) where
    many_low : m ≤ length ts
    many_low = omega (arith, many, count_le (has_least ts at) (length ts))

    -- each of the m largest has it
    held : (j : ℕ) → j < m → at ≤ turnover ts (get_or top j 0)
    unfolding largest firsts has_least
    held j l =
        let unit = get_or top j 0 in
        let low : unit < length ts = whole.low j (omega (arith, many_low)) in
        let one : largest ts m unit ≡ true = and_on true _ refl ∙ lt-ltb _ m (omega (arith, whole.at j (omega (arith, many_low)))) in
        leb-true at (turnover ts unit) (least_largest ts at m many unit low ∙ one)

    -- one number further
    climb_one : (j : ℕ) → j < z → j < m → Reaches at j → Reaches at (suc j)
    climb_one j lz lm r =
        let t = turnover ts (get_or top j 0) in
        let more = held j lm in
        let falls : rest_without ts j ≡ rest_without ts (suc j) + t = rw add-one at (rest_step ts ranked j lz) in
        let one : z - j ≡ suc (z - suc j) = omega arith in
        let less : (z - j) * at ≡ suc (z - suc j) * at = ap (λ (n : ℕ). n * at) one in
        let reach : rest_without ts j ≤ (z - j) * t = le_trans r.rest_low (mul-le-mul_left (z - j) more) in
        let missed = least_miss (fits ts z) z j lz (fits_is ts ranked j lz ∙ le-ltb _ _ reach) in
        record {
          rest_low = omega (arith, falls, less, r.rest_low, more);
          least = r.least ∙ rw add-one at missed;
        }

    climb : (q j : ℕ) → q ≤ j → j ≤ z → j ≤ m → Reaches at q → Reaches at j
    climb q zero l lz lm r = let e : q ≡ 0 = omega arith in subst (Reaches at) e r
    climb q (suc j) l lz lm r =
        ⊎_elim (λ e. subst (Reaches at) e r)
        (λ k. climb_one j (omega arith) (omega arith) (climb q j (le_of_suc-le-suc k) (omega arith) (omega arith) r))
        (eq-or-lt_of_le l)

    -- no more than z units have it: all z of the panel would leave X at 0, while another unit has a turnover
    pub few : (q : ℕ) → q ≤ z → Reaches at q → m ≤ z
    unfolding rest_without largest firsts
    few q l r =
        by_order z m
        (λ h.
        let unit = get_or top z 0 in
        let low = whole.low z (omega (arith, many_low)) in
        let out : not (largest ts z unit) ≡ true = ap not (and_on true _ refl ∙ le-ltb _ z (omega (arith, whole.at z (omega (arith, many_low))))) in
        let has = sum_has (λ i. not (largest ts z i)) (turnover ts) (length ts) unit low out in
        let none : (z - z) * at ≡ 0 * at = ap (λ (n : ℕ). n * at) (omega arith) in
        absurd (omega (arith, (climb q z l (le_refl z) (omega arith) r).rest_low, none, has, w.positive unit low)))
        (λ h. h)

    pub climbed : (q : ℕ) → q ≤ z → q ≤ m → Reaches at q → Reaches at m
    climbed q l k r = climb q m k (few q l r) (le_refl m) r

-- ---- the search: q units are taken, those of the least turnover or more; X is what they leave, and they reach it
pub record Grown (ts : List ℕ) (z q rest least : ℕ) : Type 0 where
  pub within : q ≤ z
  pub rest_is : rest ≡ rest_without ts q
  pub size : take_all_size ts z ≡ least_from (fits ts z) (z - q) q
  pub group : (i : ℕ) → i < length ts → has_least ts least i ≡ largest ts q i
  pub reach : rest ≤ (z - q) * least

module _ (ts : List ℕ) (z : ℕ) (w : Sized ts z) where
  -- at first nobody has more than all of the turnover
  pub grown_none : Grown ts z 0 (sum ts) (sum ts + 1)
  unfolding has_least
  grown_none =
      let one : 1 * (sum ts + 1) ≤ (z - 0) * (sum ts + 1) = mul-le-mul_right (sum ts + 1) (omega (arith, w.some)) in
      record {
        within = omega arith;
        rest_is = sym (rest_none ts (ranked ts z w));
        size = size_start ts z;
        group = λ i l. lt-leb (sum ts + 1) (turnover ts i) (omega (arith, place_le ts i l)) ∙ sym (largest_none ts i);
        reach = omega (arith, one);
      }

  module _ {q rest least : ℕ} (g : Grown ts z q rest least) (l : q < z) (at m : ℕ)
      (reaching : (t : ℕ) → leb rest ((z - q) * t) ≡ leb at t) (many : m ≡ count (has_least ts at) (length ts)) where
    reaches : Reaches ts z w at q
    reaches = record {
      rest_low = omega (arith, leb-true rest ((z - q) * at) (reaching at ∙ le-leb at at (le_refl at)), g.rest_is);
      least = g.size;
    }

    -- who is taken still reaches X
    taken_reach : at ≤ least
    taken_reach = leb-true at least (sym (reaching least) ∙ le-leb rest ((z - q) * least) g.reach)

    pub no_fewer : q ≤ m
    unfolding has_least count
    no_fewer =
        let size = group_size ts z w.within q (omega arith) in
        let more =
        sum_le (largest ts q) (has_least ts at) (λ i. 1) (length ts)
        (λ i li h. le-leb at (turnover ts i) (le_trans taken_reach (leb-true least (turnover ts i) (g.group i li ∙ h)))) in
        omega (arith, size, more, many)

    pub no_more : m ≤ z
    no_more = few ts z w at m (sym many) q (omega arith) reaches

    -- where nobody more reaches X, q fits
    pub found : m ≡ q → IsSize ts z (record { q = q; n = z - q; rest = rest; least = least })
    unfolding fits reaches_rest has_least count
    found e =
        let same =
        sum_same (reaches_rest ts z q (rest_without ts q)) (has_least ts at) (λ i. 1) (length ts)
        (λ i li. ap (λ (x : ℕ). leb x ((z - q) * turnover ts i)) (sym g.rest_is) ∙ reaching (turnover ts i)) in
        let fit = le-leb (count (reaches_rest ts z q (rest_without ts q)) (length ts)) q (omega (arith, same, many, e)) in
        let size : take_all_size ts z ≡ q = g.size ∙ least_hit (fits ts z) z q l fit in
        record { size = sym size; sample = refl; rest_is = g.rest_is ∙ sym (rest_hit ts z q size l); group = g.group }

    -- else all who reach it are taken
    pub grown_next : Grown ts z m (sum ts - sum_of (has_least ts at) (turnover ts) (length ts)) at
    grown_next =
        let next = climbed ts z w at m (sym many) q (omega arith) no_fewer reaches in
        let x : sum ts - sum_of (has_least ts at) (turnover ts) (length ts) ≡ rest_without ts m = omega (arith, rest_of ts at m (sym many)) in
        record {
          within = no_more;
          rest_is = x;
          size = next.least;
          group = least_largest ts at m (sym many);
          reach = omega (arith, x, next.rest_low);
        }

  -- all of the panel is taken
  pub found_all : {q rest least : ℕ} → Grown ts z q rest least → z ≤ q → IsSize ts z (record { q = z; n = 0; rest = 0; least = least })
  found_all {q} {rest} {least} g l =
      let e : q ≡ z = omega (arith, g.within) in
      let size : take_all_size ts z ≡ z = g.size ∙ least_end (fits ts z) z q l ∙ e in
      record {
        size = sym size;
        sample = omega arith;
        rest_is = sym (rest_cut ts z size);
        group = subst (λ (n : ℕ). (i : ℕ) → i < length ts → has_least ts least i ≡ largest ts n i) e g.group;
      }
