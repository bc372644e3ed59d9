-- What an open and a call that the tests of their input let pass have (specs/Chain.antt): each test that did not refuse, as a fact.
use mathlib.Core.Path.{◌≡◌, refl}
use mathlib.Core.Bool.{Bool, true, false}
use mathlib.Core.List.{List}
use Prim.Native.Nat.{ℕ, ◌<◌, ◌≤◌}
use native.Mathlib.Nat.{pos_of_ne-zero, le_trans}
use native.Mathlib.Omega.{arith}
use lib.Dec.{ltb}
use lib.ListN.{length}
use borrow.Author.Tests.{lt-ltb, ltb-true, ltb-false, eqb-true, eqb-false, not-false}
use Rattle.rules.specs.Tests.{◌or◌}
use Rattle.rules.specs.Limits.{share_scale, most_panel, most_weight, most_closes, lowest_index, highest_index}
use Rattle.rules.specs.Lists.{sum, any_of, any_pair}
use Rattle.rules.specs.Chain.{Chain, held, bad_units, bad_index, bad_relative, bad_open_lists, bad_base, bad_shares, open_input_refusal, bad_links, broken, call_input_refusal}
use Rattle.rules.proofs.Tests.{by_test, or_false, within}
use Rattle.rules.proofs.Refusals.{refuse_none, then_none}

pub units_most : (n : ℕ) → bad_units n ≡ false → n ≤ most_panel
unfolding bad_units
units_most n e = ltb-false most_panel n (or_false _ _ e).1

-- ---- open
-- 9 does not apply: lists of one length, at most a panel
pub record Even (ws gs rs : List ℕ) : Type 0 where
  pub most : length ws ≤ most_panel
  pub shares : length gs ≡ length ws
  pub relatives : length rs ≡ length ws

-- nor do 10 to 13
pub record Openable (ws gs rs : List ℕ) : Type 0 where
  pub lists : Even ws gs rs
  pub limit : sum ws ≤ most_weight
  pub shares : any_of (λ g. ltb share_scale g) gs ≡ false
  pub relatives : any_pair bad_relative gs rs ≡ false

module _ (ws gs rs : List ℕ) where
  pub even : bad_open_lists ws gs rs ≡ false → Even ws gs rs
  unfolding bad_open_lists
  even e =
      let units : _ = or_false _ _ (or_false _ _ e).0 in
      record {
        most = units_most (length ws) units.0;
        shares = eqb-true _ _ (not-false _ units.1);
        relatives = eqb-true _ _ (not-false _ (or_false _ _ e).1);
      }

  pub openable : (start : ℕ) → open_input_refusal ws gs rs start ≡ 0 → Openable ws gs rs
  unfolding open_input_refusal bad_base bad_shares
  openable start e =
      let lists : _ = then_none _ _ e in
      let base : _ = then_none _ _ lists.1 in
      let shares : _ = then_none _ _ base.1 in
      record {
        lists = even (refuse_none _ 8 lists.0);
        limit = ltb-false _ _ (or_false _ _ (refuse_none _ 9 base.0)).1;
        shares = (or_false _ _ (refuse_none _ 10 shares.0)).0;
        relatives = refuse_none _ 12 (then_none _ _ shares.1).1;
      }

-- ---- quarter and close
-- 19 does not apply: a record within its limits
pub record Sound (r : Chain) : Type 0 where
  pub most : r.units ≤ most_panel
  pub closes : r.closes ≤ most_closes
  pub links : r.links ≤ most_closes
  pub linked : r.closes ≤ r.links
  pub low : lowest_index ≤ r.index
  pub index : r.index ≤ highest_index
  pub present : 0 < sum (held r)
  pub limit : sum (held r) ≤ most_weight

pub links_few : (closes links : ℕ) → bad_links closes links ≡ false → (links ≤ most_closes) × (closes ≤ links)
unfolding bad_links
links_few closes links e =
    let last : _ = or_false _ _ e in
    (ltb-false _ _ (or_false _ _ last.0).1, ltb-false _ _ last.1)

-- "more than forty closes" need no test of their own: with at most forty links they are fewer links than closes
pub closes_follow : (closes links : ℕ) → bad_links closes links ≡ ltb most_closes links or ltb links closes
unfolding bad_links ◌or◌
closes_follow closes links = by_test (ltb most_closes links) (λ e. rw e (many (ltb most_closes closes))) (λ e. rw e (few (ltb-false most_closes links e)))
  where
    many : (b : Bool) → (b or true) or ltb links closes ≡ true or ltb links closes
    many true = refl
    many false = refl

    few : links ≤ most_closes → (ltb most_closes closes or false) or ltb links closes ≡ false or ltb links closes
    few h = by_test (ltb most_closes closes) (λ e. rw (e, lt-ltb links closes (omega (arith, h, ltb-true most_closes closes e)))) (λ e. rw e)

pub index_within : (r : Chain) → broken r ≡ false → bad_index r.index ≡ false
unfolding broken
index_within r e = (or_false _ _ (or_false _ _ (or_false _ _ (or_false _ _ e).0).0).0).1

pub sound : (r : Chain) → broken r ≡ false → Sound r
unfolding broken bad_index
sound r e =
    let present : _ = or_false _ _ (or_false _ _ e).0 in
    let index : _ = or_false _ _ (or_false _ _ present.0).0 in
    let counts : _ = or_false _ _ index.0 in
    let links = links_few r.closes r.links counts.1 in
    record {
      most = units_most r.units counts.0;
      closes = le_trans links.1 links.0;
      links = links.0;
      linked = links.1;
      low = (within _ _ _ index.1).0;
      index = (within _ _ _ index.1).1;
      present = pos_of_ne-zero (eqb-false _ _ present.1);
      limit = ltb-false _ _ (or_false _ _ e).1;
    }

-- nor do 9 and 13
pub record Admitted (r : Chain) (ps : List ℕ) : Type 0 where
  pub whole : broken r ≡ false
  pub sound : Sound r
  pub long : length ps ≡ r.units
  pub relatives : any_pair bad_relative (held r) ps ≡ false

pub admitted : (r : Chain) (ps : List ℕ) → call_input_refusal r ps ≡ 0 → Admitted r ps
unfolding call_input_refusal
admitted r ps e =
    let state : _ = then_none _ _ e in
    let lists : _ = then_none _ _ state.1 in
    let whole : _ = refuse_none _ 18 state.0 in
    record {
      whole = whole;
      sound = sound r whole;
      long = eqb-true _ _ (not-false _ (refuse_none _ 8 lists.0));
      relatives = refuse_none _ 12 lists.1;
    }
