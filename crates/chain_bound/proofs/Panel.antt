-- One panel, without D's start index: from the index at which the panel began, its figures grow with the mean of its exact weights, the sum of all e over E.
-- Stated over `floored`, the floors that a weight had at the panel's opening. All other numbers come from `Limits` and `Losses`.
use mathlib.Core.Path.{◌≡◌, ap, ◌∙◌}
use Prim.Native.Nat.{ℕ, zero, suc, ◌+◌, ◌*◌, ◌≤◌, ◌<◌}
use mathlib.Core.List.{List}
use native.Mathlib.Nat.{mul-le-mul_left, mul-le-mul_right, mul-pos, le-div_iff_mul-le}
use native.Mathlib.Omega.{arith}
use lib.ListN.{length, drop}
use lib.Seq.{take_at}
use Rattle.rules.specs.Limits.{relative_scale, link_scale, least_weight, lowest_index, most_closes}
use Rattle.rules.specs.Lists.{sum, products}
use Rattle.rules.specs.Chain.{Chain, Call, held, opening, open_record, link, figure_at, figure_of, moved, accepted}
use Rattle.rules.specs.Renewal.{with_links}
use Rattle.rules.specs.Direct.{Exact, exact_open, exact_moved, mean_top, mean_bottom}
use Rattle.chain_bound.specs.Losses.{parts, weight_loss, least_link, link_loss, index_loss, figure_loss, floors, settled_floors, most_floors}
use Rattle.chain_bound.proofs.Near.{Near, exactly, times}
use Rattle.chain_bound.proofs.Growth.{Grown, whole_grown, looser, multiplied, figure_grown, figure_exact, close_grown}
use Rattle.chain_bound.proofs.Weights.{Tracks, Reached, whole, loosen, move, under, sum_most, sum_near}
use Rattle.chain_bound.proofs.Accepted.{Accepted, Opened, mean_least, reached_length}

-- F follows C × A / B: n floors of a weight and the floors of c figures were lost on the way.
pub record Follows (n c A B C F : ℕ) : Type 0 where
  pub grown : Grown parts (weight_loss * n) (weight_loss * n + figure_loss * c) A B C F

-- nothing lost
pub unmoved : {A B C F : ℕ} → F * B ≡ C * A → Follows 0 0 A B C F
unmoved e = record { grown = looser (whole_grown e) (omega arith) (omega arith) }

-- Panels multiply: where one index follows another, and a third follows that, the fractions multiply and the floors add.
pub follows_on : {n c n' c' A B A' B' C F G : ℕ} → n ≤ most_floors → n' ≤ most_floors → c' ≤ most_floors →
    Follows n c A B C F → Follows n' c' A' B' F G → Follows (n + n') (c + c') (A * A') (B * B') C G
follows_on few few' figures first second =
    record { grown = looser (multiplied first.grown (omega arith) (omega arith) second.grown) (omega arith) (omega arith) }

-- ---- a panel
-- The record r of a panel that began at the index `from`, beside its exact weights: its weights, its index beside them, and its index beside the panel's
-- mean, which is what a panel that is left has made of the index. `floored` are the floors of a weight at its opening.
pub record Beside (floored : ℕ) (x : Exact) (from : ℕ) (r : Chain) : Type 0 where
  pub tracks : Tracks parts (weight_loss * floors floored r.closes) x.scale (held r) x.weights
  pub index : Grown parts (weight_loss * floors floored r.closes) (figure_loss * r.closes) (x.total_scale * sum (held r)) x.total from r.index
  pub settled : Follows (settled_floors floored r.closes) r.closes (mean_top x) (mean_bottom x) from r.index
  pub full : length (held r) ≡ r.units
  pub begun : 0 < from
  pub scale_positive : 0 < x.scale
  pub total_scale_positive : 0 < x.total_scale

-- it does not look at the links
pub relinked : {floored from : ℕ} {x : Exact} {r : Chain} (n : ℕ) → Beside floored x from r → Beside floored x from (with_links n r)
unfolding held
relinked n b =
    record {
      tracks = b.tracks;
      index = b.index;
      settled = b.settled;
      full = b.full;
      begun = b.begun;
      scale_positive = b.scale_positive;
      total_scale_positive = b.total_scale_positive;
    }

-- ---- its opening
module _ (us rs : List ℕ) (start : ℕ) (o : Opened us rs start) where
  -- the units' weights are the opening weights, whatever fills the other places
  held_open : held (open_record us rs start) ≡ opening us rs
  unfolding held open_record
  held_open = take_at (opening us rs) _ (length us) o.long

  -- The u beside exact ones, es over q, from which they lost c parts; v has one floor more.
  pub panel_opens : {c : ℕ} (floored q : ℕ) (es : List ℕ) → 0 < q → c + weight_loss ≤ weight_loss * floors floored 0 → Tracks parts c q us es →
      Beside floored (exact_open es q rs) start (open_record us rs start)
  unfolding open_record exact_open
  panel_opens {c} floored q es qPositive enough t =
      record {
        tracks = rw held_open vs;
        index = rw held_open (record { above = omega (arith, times start (sum_near vs)); below = exactly parts most });
        settled = unmoved (omega arith);
        full = ap length held_open ∙ o.long;
        begun = omega (arith, o.started);
        scale_positive = mul-pos qPositive (omega arith);
        total_scale_positive = mul-pos qPositive (omega arith);
      }
    where
      vs : Tracks parts (weight_loss * floors floored 0) (q * relative_scale) (opening us rs) (products es rs)
      vs = loosen enough (move weight_loss (omega arith) (omega arith) (omega arith) t o.updates)

      most : start * (q * relative_scale * sum (opening us rs)) ≤ start * sum (products es rs)
      most = omega (arith, mul-le-mul_left start (sum_most vs))

-- ---- its figures and closes
figure_step : (r : Chain) (ps : List ℕ) → Accepted r ps →
    Grown parts 0 figure_loss (sum (products (held r) ps)) (relative_scale * sum (held r)) r.index (figure_of r ps)
unfolding figure_at link
figure_step r ps a =
    figure_grown parts least_link link_loss lowest_index index_loss link_scale relative_scale r.index (sum (held r)) (sum (products (held r) ps))
    (omega arith)
    (omega arith)
    a.weighted
    (omega arith)
    (omega arith)
    ((le-div_iff_mul-le a.weighted).1 (omega (arith, mean_least a.fits)))
    (omega arith)
    a.high

-- E is not 0: the index has hardly fallen behind the weights, and it began above 0
total_positive : (c x i total : ℕ) → c ≤ most_closes → Near parts (figure_loss * c) x (i * total) → 0 < x → 0 < total
total_positive c x i zero few near p = absurd (omega (arith, near.holds, mul-le-mul_right x few))
total_positive c x i (suc total) few near p = omega arith

pub mean_defined : {floored from : ℕ} {x : Exact} {r : Chain} → Beside floored x from r → 0 < sum (held r) → r.closes ≤ most_closes → 0 < mean_bottom x
mean_defined {r = r} b weighted few =
    let some = mul-pos b.begun (mul-pos b.total_scale_positive weighted) in
    mul-pos b.scale_positive (total_positive r.closes _ r.index _ few b.index.below some)

-- the units' weights after a close are the moved ones, whatever stands in the other places
held_closed : (r : Chain) (ps : List ℕ) → length (moved r ps) ≡ r.units → held (accepted r (Call.close ps)) ≡ moved r ps
unfolding held
held_closed r ps l = take_at (moved r ps) (drop r.units r.weights) r.units l

module _ (floored : ℕ) (small : floored + most_closes ≤ most_floors) (x : Exact) (from : ℕ) (r : Chain) (ps : List ℕ)
    (b : Beside floored x from r) (a : Accepted r ps) where
  -- the losses of the index are small
  up_few : weight_loss * floors floored r.closes ≤ parts
  up_few = omega (arith, a.few)

  down_few : figure_loss * r.closes + figure_loss ≤ parts
  down_few = omega (arith, a.few)

  sums : Tracks parts (weight_loss * floors floored r.closes) x.scale (products (held r) ps) (products x.weights ps)
  sums = under ps b.tracks

  -- A panel's part of demand 3: F beside the index at which the panel began, times the panel's mean with the relatives of this call.
  pub panel_figure : Follows (floors floored r.closes) (suc r.closes) (mean_top (exact_moved x ps)) (mean_bottom (exact_moved x ps)) from (figure_of r ps)
  unfolding exact_moved
  panel_figure =
      let f = figure_exact x.total_scale relative_scale (sum (held r)) (sum (products (held r) ps)) a.weighted up_few down_few b.index (figure_step r ps a) in
      record { grown = looser (f (sum (products x.weights ps)) x.scale (sum_most sums) (sum_near sums)) (omega arith) (omega arith) }

  -- what an accepted close carries on
  pub panel_closes : Reached least_weight relative_scale (held r) ps → Beside floored (exact_moved x ps) from (accepted r (Call.close ps))
  unfolding exact_moved
  panel_closes reached =
      record {
        tracks = rw held_now (loosen (omega arith) (move weight_loss (omega arith) (omega arith) (omega arith) b.tracks reached));
        index = rw held_now (looser grown (omega arith) (omega arith));
        settled = panel_figure;
        full = ap length held_now ∙ long;
        begun = b.begun;
        scale_positive = mul-pos b.scale_positive (omega arith);
        total_scale_positive = b.total_scale_positive;
      }
    where
      long : length (moved r ps) ≡ r.units
      long = reached_length reached ∙ a.long

      held_now : held (accepted r (Call.close ps)) ≡ moved r ps
      held_now = held_closed r ps long

      -- the new sum beside N: this close's floors alone
      once : Tracks parts (0 + weight_loss) (1 * relative_scale) (moved r ps) (products (held r) ps)
      once = move weight_loss (omega arith) (omega arith) (omega arith) (whole parts (held r)) reached

      grown : Grown parts (weight_loss * floors floored r.closes + (0 + weight_loss)) (figure_loss * r.closes + figure_loss)
          (x.total_scale * sum (moved r ps)) x.total from (figure_of r ps)
      grown =
          close_grown x.total_scale relative_scale (sum (held r)) (sum (products (held r) ps)) a.weighted up_few down_few b.index (figure_step r ps a)
          (sum (moved r ps)) (omega arith) (omega arith) (omega (arith, sum_most once)) (omega (arith, sum_near once))
