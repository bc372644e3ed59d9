-- `open`: a refusal of the input is the opening's; else what `open_from` makes of the u is the opening.
use native.Mathlib.Omega.{arith}
use mathlib.Core.Path.{◌≡◌, sym, ap, ◌∙◌}
use mathlib.Core.List.{List, ◌++◌}
use Prim.Native.Nat.{ℕ, ◌≤◌}
use lib.ListN.{length, take, drop, length-append}
use lib.Seq.{length-take-le, take_at}
use Rattle.std.proofs.lemmas.Result.{err_from_is_err_and}
use Rattle.rules.specs.Panel.{Outside, shared_by}
use Rattle.chain_open.specs.Panel.{outside_of, input_refusal_by}
use Rattle.chain_open.specs.declared.Panel.{Panel}
use Rattle.chain_open.proofs.Fitting.{blank, front}
use Rattle.chain_open.proofs.Either.{Fits, fits, refused_input, weighed}
use Rattle.chain_open.proofs.Panel.open.Goals as goal

-- the u in the first places of theirs
module _ (o : Outside) (ws gs rs us : List ℕ) (f : Fits o ws gs rs) (e : us ≡ shared_by o ws gs) where
  length_u : length us ≡ length ws
  length_u = ap length e ∙ f.long

  u_room : length ws ≤ length (us ++ drop (length ws) blank)
  u_room = simp length-append (omega (arith, length_u))

  u_is : take (length ws) (us ++ drop (length ws) blank) ≡ shared_by o ws gs
  u_is = take_at _ _ _ length_u ∙ e

-- what a panel's input that passes shows
module _ (p : Panel) (start : ℕ)
    (input : input_refusal_by (outside_of p.outside) p.lists.weights.now p.lists.shares.now p.lists.relatives.now start ≡ 0) where
  shown : Fits (outside_of p.outside) p.lists.weights.now p.lists.shares.now p.lists.relatives.now
  shown = fits _ _ _ _ _ input

pub returns-in_err-judge : goal.returns-in_err-judge
returns-in_err-judge c = let p = err_from_is_err_and c.from_residual.result c.from_residual.ensures.1 in
    let a = c.args.self.now in
    rw (p.1, p.2) (refused_input (outside_of a.outside) a.lists.weights.now a.lists.shares.now a.lists.relatives.now c.args.start _ c.in_err-judge.ensures)

pub slice_bounds-u-end : goal.slice_bounds-u-end
slice_bounds-u-end c = (shown c.args.self.now c.args.start (sym c.in_ok-judge.ensures)).most

pub slice_bounds-share_into-end : goal.slice_bounds-share_into-end
slice_bounds-share_into-end c = sym (front _ (shown c.args.self.now c.args.start (sym c.in_ok-judge.ensures)).most)

pub share_into-requires : goal.share_into-requires
share_into-requires c = let f = shown c.args.self.now c.args.start (sym c.in_ok-judge.ensures) in
    f.shares _ (front _ f.most)

pub slice_bounds-u-end-2 : goal.slice_bounds-u-end-2
slice_bounds-u-end-2 c = u_room _ _ _ _ _ (shown c.args.self.now c.args.start (sym c.in_ok-judge.ensures)) c.share_into.ensures

pub slice_bounds-open_from-end : goal.slice_bounds-open_from-end
slice_bounds-open_from-end c = sym (length-take-le _ _ (u_room _ _ _ _ _ (shown c.args.self.now c.args.start (sym c.in_ok-judge.ensures)) c.share_into.ensures))

pub open_from-requires : goal.open_from-requires
open_from-requires c = let f = shown c.args.self.now c.args.start (sym c.in_ok-judge.ensures) in
    rw (u_is _ _ _ _ _ f c.share_into.ensures) (f.weighs, omega (arith, f.long, f.most))

pub returns : goal.returns
returns c = let input = sym c.in_ok-judge.ensures in
    let a = c.args.self.now in
    c.open_from.ensures
    ∙ weighed (outside_of a.outside) a.lists.weights.now a.lists.shares.now a.lists.relatives.now c.args.start _ (u_is _ _ _ _ _ (shown a c.args.start input) c.share_into.ensures) input
