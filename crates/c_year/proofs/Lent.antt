-- A year on a lent list: a list without a record in it is refused, and so stays as it was.
use mathlib.Core.Path.{◌≡◌, sym}
use mathlib.Core.List.{List}
use Prim.Native.Nat.{ℕ, ◌<◌}
use native.Mathlib.Omega.{arith}
use lib.ListN.{length}
use borrow.Author.Tests.{lt-ltb}
use Rattle.rules.specs.Tests.{◌or◌}
use Rattle.rules.specs.Refusals.{refuse, ◌then◌}
use Rattle.rules.specs.Chain.{bad_units, broken, call_input_refusal, call_refusal}
use Rattle.rules.specs.Year.{four_calls, stops_by, room_refusal, year_refusal}
use Rattle.rules.proofs.Refusals.{then_none, written_stops}
use Rattle.chain_record.specs.Record.{empty_record}
use Rattle.c_values.specs.Record.{record_places, record_list}
use Rattle.c_year.specs.Year.{lent_record, lent_year, year_list}

module _ (xs q₁ q₂ q₃ ps buffer : List ℕ) (short : length xs < record_places) where
  -- 28 or 19
  short_refused : (lent_year xs (four_calls q₁ q₂ q₃ ps) buffer).refusal ≡ 0 → ⊥
  unfolding lent_record year_refusal stops_by call_refusal call_input_refusal broken bad_units ◌or◌ refuse ◌then◌
  short_refused none =
      let e : year_refusal empty_record (length buffer) (four_calls q₁ q₂ q₃ ps) ≡ 0 = rw (lt-ltb (length xs) record_places short) at none in
      let nineteen : ◌≡◌ {A = ℕ} 19 0 = (then_none (room_refusal (length buffer)) 19 e).1 in
      omega arith

  pub short_stays : xs ≡ year_list (lent_year xs (four_calls q₁ q₂ q₃ ps) buffer) xs
  short_stays = let y = lent_year xs (four_calls q₁ q₂ q₃ ps) buffer in sym (written_stops y.refusal (record_list y.chain) xs short_refused)
