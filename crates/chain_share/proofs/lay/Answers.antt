-- `lay`: the places before i hold the u, the others are as they came.
use native.Mathlib.Omega.{arith}
use mathlib.Core.Path.{◌≡◌, sym, ◌∙◌}
use mathlib.Core.List.{List, append-nil}
use Prim.Native.Nat.{ℕ, ◌≤◌}
use lib.ListN.{length, drop_of_length-le}
use Rattle.rules.specs.Refusals.{written}
use Rattle.rules.specs.Panel.{shared_unit}
use Rattle.rules.proofs.Lists.{laid_next, laid_end}
use Rattle.rules.proofs.Panels.{length_each, each_at}
use Rattle.chain_share.specs.Outsideable.{Layable}
use Rattle.chain_share.proofs.lay.Invariants.{news}
use Rattle.chain_share.proofs.lay.Goals as goal

module _ (inner t : ℕ) (ms ws gs us : List ℕ) (l : Layable inner t ms ws gs us) where
  long : length (news inner t ms ws gs) ≡ length ms
  long = length_each _ ms ws gs l.marked.marks l.marked.shares ∙ sym l.marked.marks

  room : length ms ≤ length us
  room = omega (arith, l.marked.marks, l.room)

  -- no place of u is left over
  whole : written 0 (news inner t ms ws gs) us ≡ news inner t ms ws gs
  whole =
      let none : length us ≤ length (news inner t ms ws gs) = omega (arith, long, l.marked.marks, l.room) in
      simp (drop_of_length-le us none, append-nil)

pub loop-i-preserved : goal.loop-i-preserved
loop-i-preserved c = let p = c.requires in
    let a = c.args in
    let at = each_at (shared_unit a.inner a.t) a.marks.now a.w.now a.g.now c.loop-i.i c.loop-i-test.true p.marked.marks p.marked.shares in
    laid_next c.loop-i.i _ _ _ _ _ c.loop-i.invariant (long _ _ _ _ _ _ p) c.loop-i-test.true (room _ _ _ _ _ _ p) (c.unit.ensures ∙ sym at)

pub returns : goal.returns
returns c = laid_end c.loop-i.i _ _ _ _ c.loop-i.invariant (long _ _ _ _ _ _ c.requires) (omega arith) (omega arith) ∙ whole _ _ _ _ _ _ c.requires
