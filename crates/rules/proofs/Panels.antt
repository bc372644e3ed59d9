-- Laws of the opening with an outside share (specs/Panel.antt): what 29 lets pass, that the inner floor's own 21 never decides, and that with no
-- sampled unit the opening is the one without G.
use mathlib.Core.Path.{◌≡◌, refl, ap}
use mathlib.Core.Bool.{true, false, not, false≢true}
use mathlib.Core.List.{List, [], ◌∷◌}
use Prim.Native.Nat.{ℕ, zero, suc, ◌*◌, ◌/◌, ◌<◌, ◌≤◌}
use native.Mathlib.Nat.{pos_of_ne-zero, mul-le-mul_left, div-le_of_le-mul}
use native.Mathlib.Omega.{arith}
use lib.Dec.{eqb}
use lib.ListN.{length, get_or}
use borrow.Author.Tests.{ltb-true, ltb-false, lt-ltb, eqb-true, eqb-false, eq-eqb, not-false}
use Rattle.rules.specs.Limits.{share_scale, least_weight}
use Rattle.rules.specs.Refusals.{refuse, ◌then◌}
use Rattle.rules.specs.Lists.{sum, scaled, any_of, any_pair}
use Rattle.rules.specs.Chain.{shared, bad_weight, open_weight_refusal, open_refusal, open_answer}
use Rattle.rules.specs.Panel.{of_sampled, sampled_size, sampled_base, sampled_shares, inner_floor, each_unit, shared_unit, outside_shared}
use Rattle.rules.specs.Panel.{bad_outside, bad_inner, outside_input_refusal, outside_refusal, with_domain, panel_answer}
use Rattle.rules.proofs.Tests.{or_on, or_second, or_false, by_test}
use Rattle.rules.proofs.Refusals.{refuse_on, refuse_off, then_goes, then_zero}

-- a number for each unit
pub length_each : (f : ℕ → ℕ → ℕ → ℕ) (ms ws gs : List ℕ) → length ms ≡ length ws → length gs ≡ length ws → length (each_unit f ms ws gs) ≡ length ws
unfolding each_unit
length_each f [] [] gs l k = refl
length_each f [] (w ∷ ws) gs l k = absurd (omega arith)
length_each f (m ∷ ms) [] gs l k = absurd (omega arith)
length_each f (m ∷ ms) (w ∷ ws) [] l k = absurd (omega arith)
length_each f (m ∷ ms) (w ∷ ws) (g ∷ gs) l k = ap suc (length_each f ms ws gs (omega arith) (omega arith))

pub each_at : (f : ℕ → ℕ → ℕ → ℕ) (ms ws gs : List ℕ) (i : ℕ) → i < length ms → length ms ≡ length ws → length gs ≡ length ws →
    get_or (each_unit f ms ws gs) i 0 ≡ f (get_or ms i 0) (get_or ws i 0) (get_or gs i 0)
unfolding each_unit
each_at f [] ws gs i h l k = absurd (omega arith)
each_at f (m ∷ ms) [] gs i h l k = absurd (omega arith)
each_at f (m ∷ ms) (w ∷ ws) [] i h l k = absurd (omega arith)
each_at f (m ∷ ms) (w ∷ ws) (g ∷ gs) zero h l k = refl
each_at f (m ∷ ms) (w ∷ ws) (g ∷ gs) (suc i) h l k = each_at f ms ws gs i (omega arith) (omega arith) (omega arith)

-- ---- n and T
-- n is the same beside any list of the panel
pub size_beside : (ms xs ys : List ℕ) → length ms ≡ length xs → length ms ≡ length ys → sampled_size ms xs ≡ sampled_size ms ys
unfolding sampled_size of_sampled
size_beside [] xs ys l k = refl
size_beside (m ∷ ms) [] ys l k = absurd (omega arith)
size_beside (m ∷ ms) (x ∷ xs) [] l k = absurd (omega arith)
size_beside (zero ∷ ms) (x ∷ xs) (y ∷ ys) l k = size_beside ms xs ys (omega arith) (omega arith)
size_beside (suc m ∷ ms) (x ∷ xs) (y ∷ ys) l k = ap suc (size_beside ms xs ys (omega arith) (omega arith))

-- with a sampled unit, a mark is not 0
pub some_sampled : (ms ws : List ℕ) (i : ℕ) → i < length ms → length ms ≡ length ws → (get_or ms i 0 ≡ 0 → ⊥) → 0 < sampled_size ms ws
unfolding sampled_size of_sampled
some_sampled [] ws i h l some = absurd (omega arith)
some_sampled (m ∷ ms) [] i h l some = absurd (omega arith)
some_sampled (zero ∷ ms) (w ∷ ws) zero h l some = absurd (some refl)
some_sampled (zero ∷ ms) (w ∷ ws) (suc i) h l some = some_sampled ms ws i (omega arith) (omega arith) some
some_sampled (suc m ∷ ms) (w ∷ ws) i h l some = omega arith

-- ---- 29
-- 29 does not apply although some unit is sampled
pub record Sampled (domain : ℕ) (ms ws gs : List ℕ) : Type 0 where
  pub some : 0 < domain
  pub most : domain ≤ share_scale
  pub divides : 0 < sampled_shares ms gs
  pub alike : any_of (λ w. not (eqb w (sampled_base ms ws))) (of_sampled ms ws) ≡ false

pub sampled : (domain : ℕ) (ms ws gs : List ℕ) (n : ℕ) → sampled_size ms ws ≡ suc n → bad_outside domain ms ws gs ≡ false → Sampled domain ms ws gs
unfolding bad_outside
sampled domain ms ws gs n e bad =
    let last : _ = or_false _ _ (rw e at bad) in
    let shares : _ = or_false _ _ last.0 in
    let range : _ = or_false _ _ shares.0 in
    record {
      some = pos_of_ne-zero (eqb-false _ _ range.0);
      most = ltb-false _ _ range.1;
      divides = pos_of_ne-zero (eqb-false _ _ shares.1);
      alike = last.1;
    }

-- n × X is what the sampled W add to
alike_sum : (x : ℕ) (xs : List ℕ) → any_of (λ w. not (eqb w x)) xs ≡ false → length xs * x ≡ sum xs
unfolding any_of sum
alike_sum x [] e = omega arith
alike_sum x (y ∷ ys) e =
    let b = or_false (not (eqb y x)) (any_of (λ w. not (eqb w x)) ys) e in
    let same : y ≡ x = eqb-true y x (not-false _ b.0) in
    omega (arith, same, alike_sum x ys b.1)

sampled_part : (ms xs : List ℕ) → sum (of_sampled ms xs) ≤ sum xs
unfolding of_sampled sum
sampled_part [] xs = omega arith
sampled_part (mark ∷ ms) [] = omega arith
sampled_part (zero ∷ ms) (x ∷ xs) = omega (arith, sampled_part ms xs)
sampled_part (suc mark ∷ ms) (x ∷ xs) = omega (arith, sampled_part ms xs)

-- so that it is within their limit
pub sampled_within : (ms ws : List ℕ) → any_of (λ w. not (eqb w (sampled_base ms ws))) (of_sampled ms ws) ≡ false → sampled_size ms ws * sampled_base ms ws ≤ sum ws
unfolding sampled_size
sampled_within ms ws e = omega (arith, alike_sum (sampled_base ms ws) (of_sampled ms ws) e, sampled_part ms ws)

pub shares_within : (ms gs : List ℕ) → sampled_shares ms gs ≤ sum gs
unfolding sampled_shares
shares_within ms gs = sampled_part ms gs

-- ---- the inner floor's 21
-- Where it is below 1,000,000, so is the u of every sampled unit, since g is at most T; and T is not 0, so that one of them is present.
u_low : (inner t : ℕ) → inner < least_weight → (ms ws gs : List ℕ) → length ms ≡ length ws → length gs ≡ length ws →
    sum (of_sampled ms gs) ≤ t → 0 < sum (of_sampled ms gs) → any_pair bad_weight gs (each_unit (shared_unit inner t) ms ws gs) ≡ true
unfolding of_sampled sum each_unit any_pair bad_weight
u_low inner t low [] ws gs l k most some = absurd (omega arith)
u_low inner t low (mark ∷ ms) [] gs l k most some = absurd (omega arith)
u_low inner t low (mark ∷ ms) (w ∷ ws) [] l k most some = absurd (omega arith)
u_low inner t low (zero ∷ ms) (w ∷ ws) (g ∷ gs) l k most some =
    or_second _ _ (u_low inner t low ms ws gs (omega arith) (omega arith) most some)
u_low inner t low (suc mark ∷ ms) (w ∷ ws) (zero ∷ gs) l k most some =
    or_second _ _ (u_low inner t low ms ws gs (omega arith) (omega arith) (omega (arith, most)) (omega (arith, some)))
u_low inner t low (suc mark ∷ ms) (w ∷ ws) (suc g ∷ gs) l k most some =
    let within : suc g ≤ t = omega arith in
    let part : inner * suc g ≤ t * inner = omega (arith, mul-le-mul_left inner within) in
    let below : inner * suc g / t < least_weight = omega (arith, low, div-le_of_le-mul t part) in
    or_on _ _ (lt-ltb _ _ below)

module _ (domain : ℕ) (ms ws gs rs : List ℕ) (marked : length ms ≡ length ws) (long : length gs ≡ length ws) where
  inner_low : bad_outside domain ms ws gs ≡ false → bad_inner domain ms ws ≡ true → any_pair bad_weight gs (outside_shared domain ms ws gs) ≡ true
  unfolding bad_inner outside_shared sampled_shares
  inner_low passes bad = go (sampled_size ms ws) refl
    where
      go : (n : ℕ) → sampled_size ms ws ≡ n → any_pair bad_weight gs (outside_shared domain ms ws gs) ≡ true
      go zero e = absurd (false≢true (rw e at bad))
      go (suc n) e =
          let s = sampled domain ms ws gs n e passes in
          u_low (inner_floor domain ms ws) (sampled_shares ms gs) (ltb-true _ _ (rw e at bad)) ms ws gs marked long (omega arith) s.divides

  -- "The inner floor must also reach 1,000,000, else 21" is always the 21 of some u
  pub inner_never_decides : bad_outside domain ms ws gs ≡ false →
      (refuse (bad_inner domain ms ws) 21 then open_weight_refusal gs (outside_shared domain ms ws gs) rs) ≡ open_weight_refusal gs (outside_shared domain ms ws gs) rs
  unfolding ◌then◌
  inner_never_decides passes =
      by_test (bad_inner domain ms ws)
      (λ e. rw (refuse_on _ 21 e, refuse_on _ 21 (inner_low passes e)))
      (λ e. then_goes _ _ (refuse_off _ 21 e))

-- ---- no sampled unit
unsampled : (inner t : ℕ) (ms ws gs : List ℕ) → length ms ≡ length ws → length (of_sampled ms ws) ≡ 0 → each_unit (shared_unit inner t) ms ws gs ≡ scaled share_scale ws gs
unfolding of_sampled each_unit scaled
unsampled inner t [] [] gs l e = refl
unsampled inner t [] (w ∷ ws) gs l e = absurd (omega arith)
unsampled inner t (mark ∷ ms) [] gs l e = absurd (omega arith)
unsampled inner t (mark ∷ ms) (w ∷ ws) [] l e = refl
unsampled inner t (zero ∷ ms) (w ∷ ws) (g ∷ gs) l e = ap (λ (us : List ℕ). w * g / share_scale ∷ us) (unsampled inner t ms ws gs (omega arith) e)
unsampled inner t (suc mark ∷ ms) (w ∷ ws) (g ∷ gs) l e = absurd (omega arith)

-- "With no sampled unit G isn't read": the answer and the record are those of the opening without G
module _ (domain : ℕ) (ms ws gs rs : List ℕ) (start : ℕ) (marked : length ms ≡ length ws) (none : sampled_size ms ws ≡ 0) where
  pub shared_without : outside_shared domain ms ws gs ≡ shared ws gs
  unfolding outside_shared sampled_size
  shared_without = unsampled _ _ ms ws gs marked none

  pub refusal_without : outside_refusal domain ms ws gs rs start ≡ open_refusal ws gs rs start
  unfolding outside_refusal outside_input_refusal open_refusal bad_outside bad_inner refuse ◌then◌
  refusal_without = rw (eq-eqb _ _ marked, none, shared_without, then_zero)

  pub opens_without : panel_answer (with_domain domain ms ws gs rs) start ≡ open_answer ws gs rs start
  unfolding panel_answer open_answer
  opens_without = rw (refusal_without, shared_without)
