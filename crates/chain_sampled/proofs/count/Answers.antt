-- `count`: what was counted and what is left make n and T; a list has few units, so that neither passes 64 bits.
use native.Mathlib.Omega.{arith}
use mathlib.Core.Path.{◌≡◌, ap, ap₂, ◌∙◌}
use mathlib.Core.List.{List, [], ◌∷◌, ◌++◌}
use Prim.Native.Nat.{ℕ, ◌+◌, ◌<◌, ◌≤◌, min}
use lib.ListN.{length, get_or, length-append}
use Rattle.std.proofs.Common.{rules}
use Rattle.std.proofs.lemmas.Slice.Zip.{zip_turn, zip_end}
use Rattle.rules.specs.Limits.{most_short}
use Rattle.rules.specs.Lists.{sum}
use Rattle.rules.specs.Panel.{sampled_size, sampled_shares}
use Rattle.chain_sampled.specs.declared.Tally.{Tally}
use Rattle.chain_sampled.proofs.Turns.{passed, took, ended}
use Rattle.chain_sampled.proofs.count.Invariants.{Counted}
use Rattle.chain_sampled.proofs.count.Goals as goal

none_counted : (ms gs : List ℕ) → Counted ms gs 0 0 0
unfolding sampled_size sampled_shares
none_counted ms gs = record { some = omega arith; few = omega arith; sizes = omega arith; totals = omega arith }

module _ (ms gs : List ℕ) (i size shares : ℕ) (before : Counted ms gs i size shares) (h : i < length ms) (k : i < length gs) where
  pass_counted : get_or ms i 0 ≡ 0 → Counted ms gs (i + 1) size shares
  pass_counted e =
      let same = passed ms gs i h k e in
      record {
        some = omega (arith, before.some);
        few = omega (arith, before.few);
        sizes = omega (arith, before.sizes, ap length same);
        totals = omega (arith, before.totals, ap sum same);
      }

  take_counted : (get_or ms i 0 ≡ 0 → ⊥) → (g : ℕ) → g ≡ get_or gs i 0 → g ≤ most_short → Counted ms gs (i + 1) (size + 1) (shares + g)
  unfolding sum
  take_counted marked g is small =
      let same = took ms gs i h k marked in
      record {
        some = omega (arith, before.some);
        few = omega (arith, before.few);
        sizes = omega (arith, before.sizes, ap length same);
        totals = omega (arith, before.totals, ap sum same);
      }

abbrev tally_from : ℕ → ℕ → Tally
tally_from size shares = record { size = size; shares = shares }

pub loop-mark-init : goal.loop-mark-init
loop-mark-init c = none_counted _ _

pub loop-mark-preserved-then-mark-ne0 : goal.loop-mark-preserved-then-mark-ne0
loop-mark-preserved-then-mark-ne0 c = let turn = zip_turn c.args.marks.now c.args.g.now c.loop-mark.yielded c.into_iter-mark-iterator.result c.loop-mark.mark-iterator c.next.new.self c.next.result (search rules) (search rules) c.loop-mark.yielded_by (c.in-Some.mark, c.in-Some.share) c.in-Some.is c.next.ensures.steps in
    let i = length c.loop-mark.yielded in
    let share : c.from-shares.result ≡ get_or c.args.g.now i 0 = c.from-shares.ensures ∙ turn.3 0 in
    let next : length (c.loop-mark.yielded ++ (c.in-Some.mark, c.in-Some.share) ∷ []) ≡ i + 1 = length-append _ _ in
    rw next (take_counted _ _ _ _ _ c.loop-mark.invariant turn.0 turn.1 (λ e. c.if-mark-ne0.true (turn.2 0 ∙ e)) _ share (omega (arith, share, c.type_inv.g i)))

pub loop-mark-preserved : goal.loop-mark-preserved
loop-mark-preserved c = let turn = zip_turn c.args.marks.now c.args.g.now c.loop-mark.yielded c.into_iter-mark-iterator.result c.loop-mark.mark-iterator c.next.new.self c.next.result (search rules) (search rules) c.loop-mark.yielded_by (c.in-Some.mark, c.in-Some.share) c.in-Some.is c.next.ensures.steps in
    let i = length c.loop-mark.yielded in
    let next : length (c.loop-mark.yielded ++ (c.in-Some.mark, c.in-Some.share) ∷ []) ≡ i + 1 = length-append _ _ in
    rw next (pass_counted _ _ _ _ _ c.loop-mark.invariant turn.0 turn.1 (omega (arith, turn.2 0, c.if-mark-ne0.false)))

pub returns : goal.returns
unfolding sum
returns c = let all : length c.loop-mark.yielded ≡ min (length c.args.marks.now) (length c.args.g.now) = zip_end c.args.marks.now c.args.g.now c.loop-mark.yielded c.into_iter-mark-iterator.result c.loop-mark.mark-iterator c.next.new.self c.next.result (search rules) (search rules) c.loop-mark.yielded_by c.in-None.is c.next.ensures.steps in
    let none = ended c.args.marks.now c.args.g.now (length c.loop-mark.yielded) (omega arith) in
    let n : c.loop-mark.size ≡ sampled_size c.args.marks.now c.args.g.now = omega (arith, c.loop-mark.invariant.sizes, ap length none) in
    let t : c.loop-mark.shares ≡ sampled_shares c.args.marks.now c.args.g.now = omega (arith, c.loop-mark.invariant.totals, ap sum none) in
    ap₂ tally_from n t
