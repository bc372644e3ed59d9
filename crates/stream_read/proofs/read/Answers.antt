-- Each return by the tests that led to it, in the order of the definition.
use mathlib.Core.Path.{sym, ap, ◌∙◌, subst}
use Prim.Native.Nat.{ℕ, ◌<◌, ◌≤◌}
use Rattle.std.proofs.lemmas.Result.{err_from_is_err_and}
use lib.ListN.{length}
use borrow.Author.Tests.{le-ltb, lt-ltb}
use Rattle.rules.specs.Limits.{most_stream}
use Rattle.rules.specs.Refusals.{refuse, ◌then◌}
use Rattle.rules.specs.Stream.{width_of, command_of, reading_refusal, reading}
use Rattle.stream_read.proofs.CommandBytes.{in_range}
use Rattle.stream_read.proofs.read.Goals as goal

pub returns-then-s-gt-MOST_STREAM : goal.returns-then-s-gt-MOST_STREAM
unfolding reading reading_refusal refuse ◌then◌
returns-then-s-gt-MOST_STREAM c = simp (lt-ltb most_stream _ c.if-s-gt-MOST_STREAM.true)

pub returns-then-is_empty : goal.returns-then-is_empty
unfolding reading reading_refusal refuse ◌then◌
returns-then-is_empty c = simp (le-ltb most_stream _ c.if-s-gt-MOST_STREAM.false, sym c.is_empty.ensures ∙ c.if-is_empty.true)

pub returns-in_err-kind : goal.returns-in_err-kind
unfolding reading reading_refusal refuse ◌then◌
returns-in_err-kind c =
    let p = err_from_is_err_and c.from_residual.result c.from_residual.ensures.1 in
    let fits = le-ltb most_stream _ c.if-s-gt-MOST_STREAM.false in
    let some = sym c.is_empty.ensures ∙ c.if-is_empty.false in
    rw (p.1, p.2) (rw c.in_err-kind.ensures.0 (simp (fits, some, c.in_err-kind.ensures.1)))

pub returns-then-s-width : goal.returns-then-s-width
unfolding reading reading_refusal refuse ◌then◌
returns-then-s-width c =
    let fits = le-ltb most_stream _ c.if-s-gt-MOST_STREAM.false in
    let some = sym c.is_empty.ensures ∙ c.if-is_empty.false in
    let known = in_range c.in_ok-kind.kind _ c.in_ok-kind.ensures in
    simp (fits, some, known, lt-ltb _ _ (subst (λ (k : ℕ). length c.args.s.now < width_of k) c.in_ok-kind.ensures (rw c.width.ensures at c.if-s-width.true)))

pub returns : goal.returns
unfolding reading reading_refusal refuse ◌then◌
returns c =
    let fits = le-ltb most_stream _ c.if-s-gt-MOST_STREAM.false in
    let some = sym c.is_empty.ensures ∙ c.if-is_empty.false in
    let known = in_range c.in_ok-kind.kind _ c.in_ok-kind.ensures in
    let here = c.operands.ensures ∙ ap (λ k. command_of k c.args.s.now) c.in_ok-kind.ensures in
    simp (fits, some, known, le-ltb _ _ (subst (λ (k : ℕ). width_of k ≤ length c.args.s.now) c.in_ok-kind.ensures (rw c.width.ensures at c.if-s-width.false)), here)
