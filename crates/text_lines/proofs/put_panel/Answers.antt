-- The text so far, and the line of one unit more (`next_line`).
use mathlib.Core.Path.{ap, ◌∙◌}
use mathlib.Core.Logic.{⊎_elim, inl, inr}
use mathlib.Core.List.{[], ◌++◌}
use lib.ListN.{length}
use native.Mathlib.Omega.{arith}
use borrow.Author.Rules.{rules}
use Rattle.rules.specs.Lines.{line_of2}
use Rattle.text_decimal.proofs.Writing.{then, says, nothing}
use Rattle.text_lines.proofs.Room.{line2_fits, line2_next}
use Rattle.text_lines.proofs.Panel.{next_line, no_line}
use Rattle.text_lines.proofs.put_panel.Goals as goal

pub loop-number-init : goal.loop-number-init
loop-number-init c =
    let all = c.zip-number-items in
    let ns = ap (λ z. z.a.rest.now) c.into_iter-number-iterator.ensures.into_iter_gives ∙ ap (λ z. z.rest.now) all.ensures.first ∙ c.iter.ensures.rest in
    let ws = ap (λ z. z.b.rest.now) c.into_iter-number-iterator.ensures.into_iter_gives ∙ all.ensures.second.0 in
    rw (ns, ws) (omega arith, ([], nothing c.args.w.now (omega arith), search rules))

pub line2-requires : goal.line2-requires
line2-requires c = let more = c.in-Some.ensures.steps.0 in line2_fits _ _ _ _ _ (omega (arith, ap length more))

pub loop-number-preserved : goal.loop-number-preserved
loop-number-preserved c =
    let l = c.loop-number.invariant in
    let steps = c.in-Some.ensures.steps in
    let line = line_of2 80 c.in-Some.number.now c.in-Some.weight.now in
    let put = rw c.from.ensures at c.line2.ensures in (
      omega (arith, line2_next _ _ _ put, put.size, ap length steps.0),
      (l.1.0 ++ line, then l.1.1 put, next_line _ _ _ _ l.1.2 _ _ _ _ steps.0 steps.1),
    )

pub returns : goal.returns
returns c =
    let l = c.loop-number.invariant.1 in
    says (no_line _ _ _ _ l.2 (⊎_elim (λ a. inl a.1.0) (λ b. inr b.1.0) c.in-None.ensures.steps)) l.1
