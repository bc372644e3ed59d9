-- The definitions of the draw are the intended ones, by either method and for every accepted frame and start: exactly n units are sampled, exactly z are in
-- the panel with as many weights, and the panel's numbers rise. Cited from the laws over an arbitrary order, for the order by the keys of a method.
use mathlib.Core.Path.{◌≡◌, ap, ◌∙◌}
use mathlib.Core.Bool.{true, false}
use Prim.Native.Nat.{ℕ, ◌+◌, ◌*◌, ◌≤◌, ◌<◌}
use native.Mathlib.Omega.{arith}
use lib.ListN.{length, get_or}
use Rattle.rules.specs.Lists.{rising}
use Rattle.rules.specs.Selection.{count, by_key, firsts, listed}
use Rattle.rules.specs.TakeAll.{Frame, Group, turnover, take_all_group, base_weight}
use Rattle.rules.specs.Draw.{Method, key_below, not_take_all, sampled_by, drawn_by, panel_numbers, panel_weights, frame_refusal}
use Rattle.rules.specs.Kept.{Keeping, enlarged_group}
use Rattle.frame.proofs.Accepted.{Accepted, accepted}
use Rattle.group.specs.Group.{Sound}
use Rattle.group.proofs.Accepted.{sound}
use Rattle.group_kept.proofs.Enlarged.{enlarged_sound}
use Rattle.draw_key.proofs.Keys.{keys_compare}
use Rattle.selection.specs.Smallest.{Smallest}
use Rattle.selection.proofs.Orders.{Order, KeyOrder, key_order_lem, firsts_zero}
use Rattle.selection.proofs.Smallest.{smallest}
use Rattle.selection.proofs.Panel.{sampled_count, panel_count, panel_rises}
use Rattle.selection.proofs.Sums.{listed_length, count_both}

-- "the n smallest are taken, ties by number", by the key of a method, outside a group
abbrev pub SmallestOf : Method → Frame → Group → ℕ → Type 0
SmallestOf m f g start = Smallest (not_take_all g) (key_below m f g start) (length f.turnovers) g.sample_size (sampled_by m f g start)

-- ---- with any sound group: the base group, and the enlarged one of document 02, [9]
module _ (m : Method) (f : Frame) (z start : ℕ) (none : frame_refusal f z start ≡ 0) (g : Group) (w : Sound f.turnovers z g) where
  facts : Accepted f z start
  facts = accepted f z start none

  few : count g.takes_all (length f.turnovers) + g.sample_size ≤ length f.turnovers
  few = omega (arith, w.parts, facts.units.size_within)

  keys : KeyOrder (not_take_all g) (key_below m f g start) (length f.turnovers)
  keys = keys_compare m f start (length f.turnovers) facts.units.positive facts.random_low (not_take_all g) g

  order : Order (not_take_all g) (by_key (key_below m f g start)) (length f.turnovers)
  order = key_order_lem keys

  -- the sampled units have the n smallest keys, ties by number
  pub smallest_of : SmallestOf m f g start
  unfolding sampled_by
  smallest_of = smallest keys g.sample_size (omega (arith, few, count_both g.takes_all (length f.turnovers)))

  -- exactly n units are sampled
  pub sampled_of_lem : count (sampled_by m f g start) (length f.turnovers) ≡ g.sample_size
  unfolding sampled_by
  sampled_of_lem = sampled_count g.takes_all (by_key (key_below m f g start)) (length f.turnovers) g.sample_size few order

  -- exactly z are in the panel, each with its weight
  pub drawn_of_lem : count (drawn_by m f g start) (length f.turnovers) ≡ z
  unfolding drawn_by sampled_by
  drawn_of_lem = panel_count g.takes_all (by_key (key_below m f g start)) (length f.turnovers) g.sample_size few order ∙ w.parts

  listed_of : (value : ℕ → ℕ) → length (listed (drawn_by m f g start) value (length f.turnovers)) ≡ z
  listed_of value = listed_length (drawn_by m f g start) value (length f.turnovers) ∙ drawn_of_lem

  pub numbers_of_lem : length (panel_numbers m f g start) ≡ z
  unfolding panel_numbers
  numbers_of_lem = listed_of (λ i. get_or f.numbers i 0)

  pub weights_of : length (panel_weights m f g start) ≡ z
  unfolding panel_weights
  weights_of = listed_of (base_weight f.turnovers g)

  -- the panel's numbers rise
  pub rise_of : rising (panel_numbers m f g start) ≡ true
  unfolding panel_numbers
  rise_of = panel_rises (drawn_by m f g start) f.numbers facts.rises (length f.turnovers) (omega (arith, facts.numbers_length))

-- nobody is sampled where n is 0, though units may remain outside the group ([9])
pub none_sampled : (m : Method) (f : Frame) (g : Group) (start i : ℕ) → g.sample_size ≡ 0 → sampled_by m f g start i ≡ false
unfolding sampled_by
none_sampled m f g start i e =
    ap (λ (k : ℕ). firsts (not_take_all g) (by_key (key_below m f g start)) (length f.turnovers) k i) e
    ∙ firsts_zero (not_take_all g) (by_key (key_below m f g start)) (length f.turnovers) i

-- ---- the base group
abbrev pub SmallestBy : Method → Frame → ℕ → ℕ → Type 0
SmallestBy m f z start = SmallestOf m f (take_all_group f.turnovers z) start

module _ (m : Method) (f : Frame) (z start : ℕ) (none : frame_refusal f z start ≡ 0) where
  abbrev g : Group
  g = take_all_group f.turnovers z

  sound_group : Sound f.turnovers z g
  sound_group = sound f.turnovers z (accepted f z start none).units.size_within

  n_smallest : SmallestBy m f z start
  n_smallest = smallest_of m f z start none g sound_group

  pub n_sampled : count (sampled_by m f g start) (length f.turnovers) ≡ g.sample_size
  n_sampled = sampled_of_lem m f z start none g sound_group

  pub z_drawn : count (drawn_by m f g start) (length f.turnovers) ≡ z
  z_drawn = drawn_of_lem m f z start none g sound_group

  pub z_numbers : length (panel_numbers m f g start) ≡ z
  z_numbers = numbers_of_lem m f z start none g sound_group

  pub z_weights : length (panel_weights m f g start) ≡ z
  z_weights = weights_of m f z start none g sound_group

  pub numbers_rise : rising (panel_numbers m f g start) ≡ true
  numbers_rise = rise_of m f z start none g sound_group

  -- outside take-all, where any is sampled, n × turnover < X: every key's numerator is what the formula says, with no cut at 0
  pub gap_positive :
      0 < g.sample_size → (i : ℕ) → i < length f.turnovers → g.takes_all i ≡ false → g.sample_size * turnover f.turnovers i < g.rest
  gap_positive = sound_group.below

-- "proved for an arbitrary key and cited twice" (document 02, [8])
pub pareto_smallest : (f : Frame) (z start : ℕ) → frame_refusal f z start ≡ 0 → SmallestBy Method.pareto f z start
pareto_smallest = n_smallest Method.pareto

pub poisson_smallest : (f : Frame) (z start : ℕ) → frame_refusal f z start ≡ 0 → SmallestBy Method.sequential_poisson f z start
poisson_smallest = n_smallest Method.sequential_poisson

-- ---- the enlarged group: EQUALITY WITH THE PAPER EXTENDS TO IT
module _ (m : Method) (f : Frame) (z start : ℕ) (none : frame_refusal f z start ≡ 0) (p : Keeping) where
  kept_sound : Sound f.turnovers z (enlarged_group f.numbers f.turnovers z p)
  kept_sound = enlarged_sound f.numbers f.turnovers z (accepted f z start none).units.size_within p

  pub kept_smallest : SmallestOf m f (enlarged_group f.numbers f.turnovers z p) start
  kept_smallest = smallest_of m f z start none (enlarged_group f.numbers f.turnovers z p) kept_sound

  pub kept_numbers : length (panel_numbers m f (enlarged_group f.numbers f.turnovers z p) start) ≡ z
  kept_numbers = numbers_of_lem m f z start none (enlarged_group f.numbers f.turnovers z p) kept_sound

  pub kept_weights_lem : length (panel_weights m f (enlarged_group f.numbers f.turnovers z p) start) ≡ z
  kept_weights_lem = weights_of m f z start none (enlarged_group f.numbers f.turnovers z p) kept_sound
