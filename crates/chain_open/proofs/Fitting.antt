-- An open whose input passes can be weighed: shares of at most 1 keep W × g and u small, with an outside share too, and relatives in range keep u × a small.
use mathlib.Core.Path.{◌≡◌, ◌∙◌, sym}
use mathlib.Core.Bool.{false}
use mathlib.Core.List.{List}
use Prim.Native.Nat.{ℕ, ◌≤◌}
use native.Mathlib.Omega.{arith}
use lib.Dec.{ltb}
use lib.ListN.{length, get_or, take, replicate, length-replicate}
use lib.Seq.{length-take-le}
use borrow.Author.Tests.{ltb-false}
use Rattle.rules.specs.Limits.{share_scale, most_panel}
use Rattle.rules.specs.Chain.{shared}
use Rattle.rules.proofs.Lists.{any_within, products_within, scaled_within, length_scaled}
use Rattle.rules.proofs.Chains.{Openable}
use Rattle.rules.specs.Panel.{outside_shared, bad_outside}
use Rattle.rules.proofs.Panels.{length_each}
use Rattle.chain_sums.proofs.Relatives.{products_bound}
use Rattle.chain_share.specs.Outsideable.{Outsideable}
use Rattle.chain_share.proofs.Bounds.{u_sum}
use Rattle.chain_open_weights.specs.Weighable.{Shareable, Weighable}

-- a record's places before anything is laid there, and the first n of them
abbrev pub blank : List ℕ
blank = replicate most_panel 0

pub blank_room : (n : ℕ) → n ≤ most_panel → n ≤ length blank
blank_room n h = omega (arith, h, length-replicate {A = ℕ} most_panel 0)

pub front : (n : ℕ) → n ≤ most_panel → length (take n blank) ≡ n
front n h = length-take-le n blank (blank_room n h)

module _ (ws gs rs : List ℕ) (o : Openable ws gs rs) where
  small : (i : ℕ) → get_or gs i 0 ≤ share_scale
  small = any_within (λ g. ltb share_scale g) share_scale (ltb-false share_scale) gs o.shares

  pub shareable : (us : List ℕ) → length us ≡ length ws → Shareable ws gs us
  shareable us room =
      record { shares = o.lists.shares; room = room; fit = omega (arith, o.limit, products_within share_scale ws gs small) }

  -- a u for each W
  pub length_shared : length (shared ws gs) ≡ length ws
  length_shared = length_scaled share_scale ws gs (sym o.lists.shares)

  pub weighable : Weighable gs (shared ws gs) rs
  weighable =
      let h : length rs ≤ length gs = omega (arith, o.lists.shares, o.lists.relatives) in
      record {
        marked = o.lists.shares ∙ sym length_shared;
        relatives = o.lists.relatives ∙ sym length_shared;
        fit = omega (arith, o.limit, scaled_within share_scale ws gs small, products_bound (shared ws gs) gs rs o.relatives h);
      }

-- ---- with an outside share
module _ (domain : ℕ) (ms ws gs rs : List ℕ) (o : Openable ws gs rs) (marks : length ms ≡ length ws) (passes : bad_outside domain ms ws gs ≡ false) where
  pub outsideable : (us : List ℕ) → length us ≡ length ws → Outsideable domain ms ws gs us
  outsideable us room =
      record {
        marked = record { marks = marks; shares = o.lists.shares; most = o.lists.most };
        room = room;
        limit = o.limit;
        small = small ws gs rs o;
        passes = passes;
      }

  pub length_outside : length (outside_shared domain ms ws gs) ≡ length ws
  unfolding outside_shared
  length_outside = length_each _ ms ws gs marks o.lists.shares

  pub outside_weighable : Weighable gs (outside_shared domain ms ws gs) rs
  outside_weighable =
      let us = outside_shared domain ms ws gs in
      let h : length rs ≤ length gs = omega (arith, o.lists.shares, o.lists.relatives) in
      record {
        marked = o.lists.shares ∙ sym length_outside;
        relatives = o.lists.relatives ∙ sym length_outside;
        fit = omega (arith, u_sum domain ms ws gs marks o.limit (small ws gs rs o) passes, products_bound us gs rs o.relatives h);
      }
