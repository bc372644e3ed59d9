-- The part from the bytes taken on is the definition's rest.
use Prim.Native.Nat.{ℕ}
use mathlib.Core.Path.{sym, ap, ◌∙◌}
use lib.ListN.{drop}
use native.Mathlib.Omega.{arith}
use Rattle.stream_read.proofs.Unread.{tail, taken_within, rest_is}
use Rattle.stream_front.proofs.rest.Goals as goal

pub slice_bounds-result-count : goal.slice_bounds-result-count
slice_bounds-result-count c = omega (arith, taken_within c.args.part.now)

pub slice_bounds-result-start : goal.slice_bounds-result-start
slice_bounds-result-start c = omega (arith, taken_within c.args.part.now)

pub returns : goal.returns
returns c =
    let s = c.args.part.now in
    tail _ s ∙ ap (λ (n : ℕ). drop n s) c.taken-n.ensures ∙ sym (rest_is s)
