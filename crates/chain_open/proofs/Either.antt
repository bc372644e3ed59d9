-- An opening with an outside share or without: once its input passes, the u have a place each and can be weighed, and what is made of them is the opening.
-- No test of the inner floor is made: its 21 is always the 21 of some u.
use mathlib.Core.Path.{◌≡◌}
use mathlib.Core.Bool.{false}
use mathlib.Core.List.{List}
use Prim.Native.Nat.{ℕ, ◌≤◌}
use lib.ListN.{length}
use borrow.Author.Tests.{eqb-true, not-false}
use Rattle.refusals.specs.Number.{number_of}
use Rattle.refusals.specs.declared.Refusal.{Refusal}
use Rattle.refusals.proofs.Answers.{stops_by_lem, refused_by}
use Rattle.rules.specs.Limits.{most_panel}
use Rattle.rules.specs.Refusals.{Judged, ◌then◌}
use Rattle.rules.specs.Chain.{open_refusal}
use Rattle.rules.specs.Panel.{Outside, none, share, Panel, shared_by, bad_outside, outside_input_refusal, outside_refusal, panel_answer}
use Rattle.rules.proofs.Refusals.{refuse_none, then_none}
use Rattle.rules.proofs.Chains.{Openable, openable}
use Rattle.rules.proofs.Panels.{inner_never_decides}
use Rattle.chain_open_weights.specs.Weighable.{Weighable}
use Rattle.chain_open.specs.Opened.{weighed_answer}
use Rattle.chain_open.specs.Panel.{input_refusal_by, CanShare}
use Rattle.chain_open.proofs.Fitting.{shareable, length_shared, weighable, outsideable, length_outside, outside_weighable}

-- with an outside share: 9 to 13 and 29 do not apply
record Passed (domain : ℕ) (ms ws gs rs : List ℕ) : Type 0 where
  marks : length ms ≡ length ws
  opens : Openable ws gs rs
  outside : bad_outside domain ms ws gs ≡ false

passed : (domain : ℕ) (ms ws gs rs : List ℕ) (start : ℕ) → outside_input_refusal domain ms ws gs rs start ≡ 0 → Passed domain ms ws gs rs
unfolding outside_input_refusal
passed domain ms ws gs rs start e =
    let marks : _ = then_none _ _ e in
    let lists : _ = then_none _ _ marks.1 in
    record {
      marks = eqb-true _ _ (not-false _ (refuse_none _ 8 marks.0));
      opens = openable ws gs rs start lists.0;
      outside = refuse_none _ 28 lists.1;
    }

-- the u that either way makes
pub record Fits (o : Outside) (ws gs rs : List ℕ) : Type 0 where
  pub most : length ws ≤ most_panel
  pub long : length (shared_by o ws gs) ≡ length ws
  pub shares : (us : List ℕ) → length us ≡ length ws → CanShare o ws gs us
  pub weighs : Weighable gs (shared_by o ws gs) rs

pub fits : (o : Outside) (ws gs rs : List ℕ) (start : ℕ) → input_refusal_by o ws gs rs start ≡ 0 → Fits o ws gs rs
fits none ws gs rs start e =
    let p = openable ws gs rs start e in
    record { most = p.lists.most; long = length_shared ws gs rs p; shares = shareable ws gs rs p; weighs = weighable ws gs rs p }
fits (share domain ms) ws gs rs start e =
    let p = passed domain ms ws gs rs start e in
    record {
      most = p.opens.lists.most;
      long = length_outside domain ms ws gs rs p.opens p.marks p.outside;
      shares = outsideable domain ms ws gs rs p.opens p.marks p.outside;
      weighs = outside_weighable domain ms ws gs rs p.opens p.marks p.outside;
    }

abbrev pub panel_with : Outside → List ℕ → List ℕ → List ℕ → Panel
panel_with o ws gs rs = record { base = ws; shares = gs; updates = rs; outside = o }

pub refused_input : (o : Outside) (ws gs rs : List ℕ) (start : ℕ) (why : Refusal) → number_of why ≡ input_refusal_by o ws gs rs start →
    Judged.refused (number_of why) ≡ panel_answer (panel_with o ws gs rs) start
unfolding panel_answer open_refusal outside_refusal
refused_input none ws gs rs start why e = refused_by why _ (stops_by_lem why _ _ e) _
refused_input (share domain ms) ws gs rs start why e = refused_by why _ (stops_by_lem why _ _ e) _

-- with the input passed, the opening from these u is the panel's
pub weighed : (o : Outside) (ws gs rs : List ℕ) (start : ℕ) (us : List ℕ) → us ≡ shared_by o ws gs → input_refusal_by o ws gs rs start ≡ 0 →
    weighed_answer gs us rs start ≡ panel_answer (panel_with o ws gs rs) start
unfolding panel_answer open_refusal outside_refusal ◌then◌
weighed none ws gs rs start us e input = rw (e, input)
weighed (share domain ms) ws gs rs start us e input =
    let p = passed domain ms ws gs rs start input in
    rw (e, input, inner_never_decides domain ms ws gs rs p.marks p.opens.lists.shares p.outside)
