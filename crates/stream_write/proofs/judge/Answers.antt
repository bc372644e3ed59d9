-- The tests in their order; the length of the stream is what the command bytes need, cut off over the limit.
use Prim.Native.Nat.{ℕ, ◌+◌, ◌≤◌, ◌<◌, min}
use mathlib.Core.Path.{◌≡◌, sym, ◌∙◌}
use mathlib.Core.List.{map}
use lib.ListN.{length}
use native.Mathlib.Omega.{arith}
use borrow.Author.Tests.{lt-ltb, le-ltb}
use Rattle.rules.specs.Limits.{most_stream}
use Rattle.rules.specs.Tests.{outside}
use Rattle.rules.specs.Refusals.{refuse, ◌then◌}
use Rattle.rules.specs.Lists.{sum}
use Rattle.rules.specs.Stream.{width_of}
use Rattle.rules.specs.Writing.{Lists, stream_in, write_refusal}
use Rattle.stream_write.proofs.Rows.{needed_length}
use Rattle.stream_write.proofs.Tests.{unequal_as, any_as}
use Rattle.stream_write.specs.Answer.{lists_of}
use Rattle.stream_write.proofs.judge.Goals as goal

-- the count, cut off over the limit, against the limit and against a buffer
module _ (l : Lists) (n : ℕ) (e : n ≡ min (sum (map width_of l.kinds)) (most_stream + 1)) where
  over : most_stream < n → most_stream < length (stream_in l)
  over h = omega (arith, needed_length l)

  module _ (h : n ≤ most_stream) where
    within : length (stream_in l) ≤ most_stream
    within = omega (arith, needed_length l)

    short : (room : ℕ) → room < n → room < length (stream_in l)
    short room k = omega (arith, needed_length l)

    enough : (room : ℕ) → n ≤ room → length (stream_in l) ≤ room
    enough room k = omega (arith, needed_length l)

pub returns-then-are_unequal : goal.returns-then-are_unequal
unfolding write_refusal refuse ◌then◌
returns-then-are_unequal c = rw (sym (unequal_as (lists_of c.args.lists.now)) ∙ sym c.are_unequal.ensures ∙ c.if-are_unequal.true)

pub returns-then-bytes-gt-MOST_STREAM : goal.returns-then-bytes-gt-MOST_STREAM
unfolding write_refusal refuse ◌then◌
returns-then-bytes-gt-MOST_STREAM c = let l = lists_of c.args.lists.now in
    rw (sym (unequal_as (lists_of c.args.lists.now)) ∙ sym c.are_unequal.ensures ∙ c.if-are_unequal.false, lt-ltb _ _ (over l _ c.needed-bytes.ensures c.if-bytes-gt-MOST_STREAM.true))

pub returns-then-has_unknown : goal.returns-then-has_unknown
unfolding write_refusal refuse ◌then◌
returns-then-has_unknown c = let l = lists_of c.args.lists.now in
    let long = le-ltb _ _ (within l _ c.needed-bytes.ensures c.if-bytes-gt-MOST_STREAM.false) in
    rw (sym (unequal_as (lists_of c.args.lists.now)) ∙ sym c.are_unequal.ensures ∙ c.if-are_unequal.false, long, sym (any_as (outside 1 7) c.args.lists.now.kinds.now) ∙ sym c.has_unknown.ensures ∙ c.if-has_unknown.true)

pub returns-then-out-bytes : goal.returns-then-out-bytes
unfolding write_refusal refuse ◌then◌
returns-then-out-bytes c = let l = lists_of c.args.lists.now in
    let n = c.needed-bytes.ensures in
    let long = le-ltb _ _ (within l _ n c.if-bytes-gt-MOST_STREAM.false) in
    let room = lt-ltb _ _ (short l _ n c.if-bytes-gt-MOST_STREAM.false _ c.if-out-bytes.true) in
    rw (sym (unequal_as (lists_of c.args.lists.now)) ∙ sym c.are_unequal.ensures ∙ c.if-are_unequal.false, long, sym (any_as (outside 1 7) c.args.lists.now.kinds.now) ∙ sym c.has_unknown.ensures ∙ c.if-has_unknown.false, room)

pub returns : goal.returns
unfolding write_refusal refuse ◌then◌
returns c = let l = lists_of c.args.lists.now in
    let n = c.needed-bytes.ensures in
    let long = le-ltb _ _ (within l _ n c.if-bytes-gt-MOST_STREAM.false) in
    let room = le-ltb _ _ (enough l _ n c.if-bytes-gt-MOST_STREAM.false _ c.if-out-bytes.false) in
    rw (sym (unequal_as (lists_of c.args.lists.now)) ∙ sym c.are_unequal.ensures ∙ c.if-are_unequal.false, long, sym (any_as (outside 1 7) c.args.lists.now.kinds.now) ∙ sym c.has_unknown.ensures ∙ c.if-has_unknown.false, room)
