-- `first` takes the W at the first mark that is not 0.
use native.Mathlib.Omega.{arith}
use mathlib.Core.Path.{◌≡◌, sym, ◌∙◌}
use lib.ListN.{length}
use Prim.Native.Nat.{◌≤◌}
use Rattle.std.proofs.Common.{rules}
use Rattle.std.proofs.lemmas.Grind.{common_steps}
use Rattle.std.proofs.lemmas.Iterator.{YieldsList-from_slice}
use Rattle.std.proofs.lemmas.Iterator.Search.{position_from_yields_List}
use Rattle.std.proofs.lemmas.List.Quantifiers.{position-Some}
use Rattle.std.proofs.lemmas.List.Sums.{fails_before_first}
use Rattle.std.specs.List.{position, position_or_len}
use Rattle.std.specs.Prelude.{None}
use Rattle.chain_sampled.proofs.Turns.{marked, marked_some, marked_none, first_at, first_none}
use Rattle.chain_sampled.proofs.first.Goals as goal

pub returns-in-Some : goal.returns-in-Some
returns-in-Some c = let at : c.position.result ≡ position marked c.args.marks.now = position_from_yields_List marked c.position.new.self _ c.position.result c.position.ensures.ran (YieldsList-from_slice c.args.marks.now (search rules)) (λ x b q k. search rules) in
    let here = position-Some marked c.args.marks.now c.in-Some.i 0 (sym at ∙ c.in-Some.is) in
    first_at c.args.marks.now c.args.w.now c.in-Some.i here.0 c.requires (marked_some _ here.1) (λ k lt. marked_none _ (here.2 k lt))

pub returns-in-None : goal.returns-in-None
returns-in-None c = let at : c.position.result ≡ position marked c.args.marks.now = position_from_yields_List marked c.position.new.self _ c.position.result c.position.ensures.ran (YieldsList-from_slice c.args.marks.now (search rules)) (λ x b q k. search rules) in
    let none : position marked c.args.marks.now ≡ None = sym at ∙ c.in-None.is in
    let past : length c.args.marks.now ≤ position_or_len marked c.args.marks.now = grind (arith, common_steps) in
    first_none c.args.marks.now c.args.w.now (λ k lt. marked_none _ (fails_before_first marked c.args.marks.now k 0 (omega arith)))
