-- The rows read so far stand at the front of the six lists (`Filling`).
use Prim.Native.Nat.{ℕ, ◌+◌}
use mathlib.Core.Bool.{false}
use mathlib.Core.List.{List}
use mathlib.Core.Path.{◌≡◌, sym, ap, ◌∙◌}
use lib.ListN.{length}
use native.Mathlib.Omega.{arith}
use Rattle.rules.specs.Refusals.{Judged}
use Rattle.rules.specs.Stream.{Command, Front, reading}
use Rattle.rules.specs.Writing.{Lists, rows_read, too_short}
use Rattle.std.proofs.Common.{Ok, rules}
use Rattle.stream_read.specs.Value.{reading_from}
use Rattle.stream_read.proofs.Unread.{rest_shorter}
use Rattle.stream_row.specs.Value.{row_from}
use Rattle.stream_all.proofs.Readings.{ended, stopped}
use Rattle.stream_all.proofs.Filling.{Roomy, roomy, Filling, begins, places, goes_on_lem, ends}
use Rattle.stream_all.proofs.fill.Goals as goal

-- at a command that is read: each list has the place
here : (s t : List ℕ) (before l : Lists) (i : ℕ) (c : Command) → Filling s before l t i → too_short (length (rows_read s)) before ≡ false
    → reading t ≡ Judged.given (Front.command c) → Roomy (i + 1) l
here s t before l i c f e k = places f (roomy _ _ e) c k

pub returns-in-Err : goal.returns-in-Err
returns-in-Err c = record {
  lists_after = ends c.commands.invariant.0 (stopped c.commands.t.now _ (sym c.read.ensures ∙ ap reading_from c.in-Err.is)).0;
  same = c.commands.invariant.1;
}

pub returns-in-Ok-None : goal.returns-in-Ok-None
returns-in-Ok-None c = record {
  lists_after = ends c.commands.invariant.0 (ended c.commands.t.now (sym c.read.ensures ∙ ap reading_from (c.in-Ok-None.is ∙ ap Ok c.in-Ok-None.field-0-is))).0;
  same = c.commands.invariant.1;
}

pub bounds-places-i : goal.bounds-places-i
bounds-places-i c = omega (arith, (here _ _ _ _ _ _ c.commands.invariant.0 c.requires (sym c.read.ensures ∙ ap reading_from (c.in-Ok-Some.is ∙ ap Ok c.in-Ok-Some.field-0-is))).kinds)

pub bounds-places-i-in-Ok-Some : goal.bounds-places-i-in-Ok-Some
bounds-places-i-in-Ok-Some c = omega (arith, (here _ _ _ _ _ _ c.commands.invariant.0 c.requires (sym c.read.ensures ∙ ap reading_from (c.in-Ok-Some.is ∙ ap Ok c.in-Ok-Some.field-0-is))).sizes)

pub bounds-places-i-in-Ok-Some-2 : goal.bounds-places-i-in-Ok-Some-2
bounds-places-i-in-Ok-Some-2 c = omega (arith, (here _ _ _ _ _ _ c.commands.invariant.0 c.requires (sym c.read.ensures ∙ ap reading_from (c.in-Ok-Some.is ∙ ap Ok c.in-Ok-Some.field-0-is))).shares)

pub bounds-places-i-in-Ok-Some-3 : goal.bounds-places-i-in-Ok-Some-3
bounds-places-i-in-Ok-Some-3 c = omega (arith, (here _ _ _ _ _ _ c.commands.invariant.0 c.requires (sym c.read.ensures ∙ ap reading_from (c.in-Ok-Some.is ∙ ap Ok c.in-Ok-Some.field-0-is))).numbers)

pub bounds-places-i-in-Ok-Some-4 : goal.bounds-places-i-in-Ok-Some-4
bounds-places-i-in-Ok-Some-4 c = omega (arith, (here _ _ _ _ _ _ c.commands.invariant.0 c.requires (sym c.read.ensures ∙ ap reading_from (c.in-Ok-Some.is ∙ ap Ok c.in-Ok-Some.field-0-is))).randoms)

pub bounds-places-i-in-Ok-Some-5 : goal.bounds-places-i-in-Ok-Some-5
bounds-places-i-in-Ok-Some-5 c = omega (arith, (here _ _ _ _ _ _ c.commands.invariant.0 c.requires (sym c.read.ensures ∙ ap reading_from (c.in-Ok-Some.is ∙ ap Ok c.in-Ok-Some.field-0-is))).amounts)

pub commands-smaller : goal.commands-smaller
commands-smaller c = omega (arith, rest_shorter _ _ (sym c.read.ensures ∙ ap reading_from (c.in-Ok-Some.is ∙ ap Ok c.in-Ok-Some.field-0-is)), ap length c.unread-t.ensures)

pub commands-preserved : goal.commands-preserved
commands-preserved c = (
  goes_on_lem c.commands.invariant.0 (roomy _ _ c.requires) _ (sym c.read.ensures ∙ ap reading_from (c.in-Ok-Some.is ∙ ap Ok c.in-Ok-Some.field-0-is))
      (row_from c.from-row.result) _ c.from-row.ensures c.unread-t.ensures,
  search rules,
)

pub commands-init : goal.commands-init
commands-init c = (begins _ _, search rules)
