-- The u of an accepted opening beside the exact ones: each is floored once, and with an outside share a sampled unit's twice, since its inner floor is one more.
use mathlib.Core.Path.{◌≡◌, refl}
use Prim.Native.Nat.{ℕ, zero, suc, ◌+◌, ◌*◌, ◌/◌, ◌≤◌, ◌<◌}
use mathlib.Core.Bool.{false}
use mathlib.Core.List.{List, [], ◌∷◌}
use native.Mathlib.Nat.{mul-le-mul_right, div-mul-le_self, mul-pos}
use native.Mathlib.Omega.{arith}
use borrow.Author.Tests.{ltb-false}
use lib.ListN.{length}
use Rattle.rules.specs.Limits.{share_scale, least_weight, most_panel}
use Rattle.rules.specs.Lists.{any_pair}
use Rattle.rules.specs.Chain.{bad_weight}
use Rattle.rules.specs.Panel.{Outside, of_sampled, sampled_size, sampled_shares, outside_whole, inner_floor, each_unit, shared_unit, outside_shared, bad_outside, bad_inner, shared_by, refusal_by}
use Rattle.rules.specs.Direct.{divisor, exact_unit, exact_shared, exact_scale, extra_for, extra_by}
use Rattle.rules.proofs.Tests.{or_false}
use Rattle.rules.proofs.Panels.{sampled}
use Rattle.chain_bound.specs.Losses.{parts, weight_loss, most_shared}
use Rattle.chain_bound.proofs.Near.{Near, exactly, times, floor, weaken}
use Rattle.chain_bound.proofs.Weights.{Tracks, whole, move, floor_most, floor_near}
use Rattle.chain_bound.proofs.Accepted.{Opened, accepted_open, accepted_outside}

-- a u beside the exact one, e over q
record Unit-near (u e c q : ℕ) : Type 0 where
  most : u * q ≤ e
  near : Near parts c e (u * q)

-- Where a unit is sampled: T, by which its u is divided, is the common denominator t, and the inner floor i has lost one floor of n × X × G, so that the u loses two.
record Inner (i T t all c : ℕ) : Type 0 where
  same : T ≡ t
  most : i * share_scale ≤ all
  near : Near parts weight_loss all (i * share_scale)
  twice : weight_loss + weight_loss ≤ c

module _ (i T t all c : ℕ) (positive : 0 < t) (once : weight_loss ≤ c) where
  take_all_near : (w g : ℕ) → bad_weight g (w * g / share_scale) ≡ false → Unit-near (w * g / share_scale) (w * g * t) c (share_scale * t)
  unfolding bad_weight
  take_all_near w zero e = record { most = omega (arith, mul-le-mul_right t (floor_most share_scale w 0 1 w (omega arith))); near = omega arith }
  take_all_near w (suc g) e =
      record {
        most = omega (arith, mul-le-mul_right t (floor_most share_scale w (suc g) 1 w (omega arith)));
        near = weaken once (omega (arith, times t floored));
      }
    where
      floored : Near parts (0 + weight_loss) (w * suc g) (w * suc g / share_scale * (1 * share_scale))
      floored =
          floor_near parts 0 1 least_weight weight_loss share_scale w w (suc g) (omega arith) (omega arith) (omega arith)
          (exactly parts (omega arith))
          (ltb-false _ least_weight e)

  sampled_near : (g : ℕ) → Inner i T t all c → bad_weight g (i * g / T) ≡ false → Unit-near (i * g / T) (all * g) c (share_scale * t)
  unfolding bad_weight
  sampled_near zero n e = rw n.same (record { most = floor_most t i 0 share_scale all n.most; near = omega arith })
  sampled_near (suc g) n e =
      let left = ltb-false (i * suc g / t) least_weight (rw n.same at e) in
      rw n.same (record {
        most = floor_most t i (suc g) share_scale all n.most;
        near =
            weaken n.twice
            (floor_near parts weight_loss share_scale least_weight weight_loss t i all (suc g) positive (omega arith) (omega arith) n.near left);
      })

  units_near : (ms ws gs : List ℕ) → (0 < length (of_sampled ms ws) → Inner i T t all c) → any_pair bad_weight gs (each_unit (shared_unit i T) ms ws gs) ≡ false →
      Tracks parts c (share_scale * t) (each_unit (shared_unit i T) ms ws gs) (each_unit (exact_unit all t) ms ws gs)
  unfolding of_sampled each_unit any_pair
  units_near [] ws gs n e = Tracks.none
  units_near (mark ∷ ms) [] gs n e = Tracks.none
  units_near (mark ∷ ms) (w ∷ ws) [] n e = Tracks.none
  units_near (zero ∷ ms) (w ∷ ws) (g ∷ gs) n e =
      let b : _ = or_false (bad_weight g (w * g / share_scale)) _ e in
      let u : _ = take_all_near w g b.0 in
      Tracks.unit u.most u.near (units_near ms ws gs n b.1)
  units_near (suc mark ∷ ms) (w ∷ ws) (g ∷ gs) n e =
      let b : _ = or_false (bad_weight g (i * g / T)) _ e in
      let inner : Inner i T t all c = n (omega arith) in
      let u : _ = sampled_near g inner b.0 in
      Tracks.unit u.most u.near (units_near ms ws gs (λ some. inner) b.1)

-- ---- either opening
-- a panel's u beside the exact ones
pub record SharesNear (o : Outside) (ws gs : List ℕ) : Type 0 where
  pub tracks : Tracks parts (weight_loss * extra_by o ws) (exact_scale o ws gs) (shared_by o ws gs) (exact_shared o ws gs)
  pub scale_positive : 0 < exact_scale o ws gs
  pub few : extra_by o ws ≤ most_shared
  pub long : length (shared_by o ws gs) ≡ length ws
  pub most : length ws ≤ most_panel

-- the parts that depend on whether some unit is sampled
record Divided (domain : ℕ) (ms ws gs : List ℕ) : Type 0 where
  positive : 0 < divisor ms ws gs
  once : weight_loss ≤ weight_loss * extra_for (sampled_size ms ws)
  few : extra_for (sampled_size ms ws) ≤ most_shared
  within : 0 < sampled_size ms ws →
      Inner (inner_floor domain ms ws) (sampled_shares ms gs) (divisor ms ws gs) (outside_whole domain ms ws) (weight_loss * extra_for (sampled_size ms ws))

divided : (domain : ℕ) (ms ws gs : List ℕ) (n : ℕ) → sampled_size ms ws ≡ n → bad_outside domain ms ws gs ≡ false → bad_inner domain ms ws ≡ false → Divided domain ms ws gs
unfolding bad_inner
divided domain ms ws gs zero e passes low =
    record { positive = rw e (omega arith); once = rw e (omega arith); few = rw e (omega arith); within = λ some. absurd (omega arith) }
divided domain ms ws gs (suc n) e passes low =
    let s = sampled domain ms ws gs n e passes in
    let left = ltb-false (inner_floor domain ms ws) least_weight (rw e at low) in
    record {
      positive = rw e s.divides;
      once = rw e (omega arith);
      few = rw e (omega arith);
      within = λ some. rw e (record {
        same = refl;
        most = div-mul-le_self (outside_whole domain ms ws) share_scale;
        near = floor parts weight_loss least_weight (outside_whole domain ms ws) share_scale (omega arith) (omega arith) left;
        twice = omega arith;
      });
    }

pub shares_near : (o : Outside) (ws gs rs : List ℕ) (start : ℕ) → refusal_by o ws gs rs start ≡ 0 → SharesNear o ws gs × Opened (shared_by o ws gs) rs start
unfolding outside_shared sampled_size
shares_near Outside.none ws gs rs start e =
    let a = accepted_open ws gs rs start e in (
      record {
        tracks = move weight_loss (omega arith) (omega arith) (omega arith) (whole parts ws) a.0.shares;
        scale_positive = omega arith;
        few = omega arith;
        long = a.0.long;
        most = a.0.most;
      },
      a.1,
    )
shares_near (Outside.share domain ms) ws gs rs start e =
    let a = accepted_outside domain ms ws gs rs start e in
    let d = divided domain ms ws gs _ refl a.0.outside a.0.inner in (
      record {
        tracks = units_near _ _ _ _ _ d.positive d.once ms ws gs d.within a.0.present;
        scale_positive = mul-pos (omega arith) d.positive;
        few = d.few;
        long = a.0.long;
        most = a.0.most;
      },
      a.1,
    )
