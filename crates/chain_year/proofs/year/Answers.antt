-- `year`: without room nothing is done; else the calls that are left come to what all four do (`Under`), until one is refused or none is left.
use native.Mathlib.Omega.{arith}
use mathlib.Core.Path.{refl}
use mathlib.Core.List.{[], ◌∷◌}
use Rattle.rules.specs.Year.{four_calls}
use Rattle.chain.specs.Record.{record_of}
use Rattle.chain.specs.declared.Kind.TheVariants.{Quarter, Close}
use Rattle.chain_year.proofs.Stages.{year_stops, year_goes, all_made, year_ends, no_room}
use Rattle.chain_year.proofs.year.Goals as goal

pub returns-then-figures-lt-YEAR_PLACES : goal.returns-then-figures-lt-YEAR_PLACES
returns-then-figures-lt-YEAR_PLACES c = no_room (record_of c.args.chain.now) (four_calls c.args.first.now c.args.second.now c.args.third.now c.args.last.now) c.args.figures.now c.if-figures-lt-YEAR_PLACES.true

pub loop-count-init : goal.loop-count-init
loop-count-init c = record { goes_on = refl; long = refl }

pub returns-in-Err : goal.returns-in-Err
returns-in-Err c = let xs = (Quarter, c.args.first) ∷ (Quarter, c.args.second) ∷ (Quarter, c.args.third) ∷ (Close, c.args.last) ∷ [] in
    year_ends (record_of c.args.chain.now) c.args.first.now c.args.second.now c.args.third.now c.args.last.now c.args.figures.now c.if-figures-lt-YEAR_PLACES.false _
    (year_stops xs c.loop-count.invariant _ c.loop-count-test.true _ c.call-answered.ensures.answer_value c.in-Err.why c.in-Err.is)

pub loop-count-preserved : goal.loop-count-preserved
loop-count-preserved c = let xs = (Quarter, c.args.first) ∷ (Quarter, c.args.second) ∷ (Quarter, c.args.third) ∷ (Close, c.args.last) ∷ [] in
    year_goes xs c.loop-count.invariant _ c.loop-count-test.true _ c.call-answered.ensures.answer_value c.in-Ok.figure c.in-Ok.is _ c.call-answered.ensures.chain_value

pub returns : goal.returns
returns c = year_ends (record_of c.args.chain.now) c.args.first.now c.args.second.now c.args.third.now c.args.last.now c.args.figures.now c.if-figures-lt-YEAR_PLACES.false _
    (all_made (omega (arith, c.loop-count-test.false, c.loop-count.auto.count-end)) c.loop-count.invariant)
