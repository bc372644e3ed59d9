-- What refusals 6, 30, 7, 25 and 26 leave of the old panel, the fraction, the births, γ with the lists, and the leavers' buffer.
use mathlib.Core.Path.{◌≡◌}
use mathlib.Core.Bool.{true, false}
use mathlib.Core.List.{List}
use Prim.Native.Nat.{ℕ, ◌+◌, ◌≤◌}
use lib.ListN.{length}
use borrow.Author.Tests.{ltb-false, not-false}
use Rattle.rules.specs.Limits.{fraction_scale, most_panel}
use Rattle.rules.specs.Lists.{rising}
use Rattle.rules.specs.Kept.{Keeping, keeping_refusal}
use Rattle.rules.specs.Rotation.{Births, short_leavers, bad_old_panel, bad_previous, bad_births, kept_lists_refusal}
use Rattle.rules.proofs.Tests.{or_false}
use Rattle.rules.proofs.Refusals.{refuse_none, then_none}

pub record ListsAccepted (panel : List ℕ) (fraction : ℕ) (b : Births) (p : Keeping) (buffer : List ℕ) : Type 0 where
  pub long : length panel + length b.units ≤ length buffer
  pub scaled : fraction ≤ fraction_scale
  pub most : length panel ≤ most_panel
  pub rises : rising panel ≡ true
  pub previous : bad_previous b.size b.rest ≡ false
  pub births_rise : rising b.units ≡ true
  pub kept : keeping_refusal p ≡ 0

pub lists_accepted :
    (numbers panel : List ℕ) (fraction : ℕ) (b : Births) (p : Keeping) (buffer : List ℕ)
    → kept_lists_refusal numbers panel fraction b p buffer ≡ 0 → ListsAccepted panel fraction b p buffer
unfolding kept_lists_refusal short_leavers bad_old_panel bad_births
lists_accepted numbers panel fraction b p buffer none =
    let room = then_none _ _ none in
    let given = then_none _ _ room.1 in
    let old-panel = then_none _ _ given.1 in
    let later = then_none _ _ old-panel.1 in
    let old = or_false _ _ (refuse_none _ 6 old-panel.0) in
    let sizes = or_false _ _ old.0 in
    let units = or_false _ _ (or_false _ _ (refuse_none _ 25 later.1)).0 in
    record {
      long = ltb-false _ _ (refuse_none _ 5 room.0);
      scaled = ltb-false _ _ sizes.0;
      most = ltb-false _ _ sizes.1;
      rises = not-false _ old.1;
      previous = refuse_none _ 24 later.0;
      births_rise = not-false _ units.1;
      kept = given.0;
    }
