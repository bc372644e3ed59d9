-- `fill` gets as many lines as the answer takes: none after a refusal, so that every list is then as it was.
use mathlib.Core.Path.{◌≡◌, ap, ◌∙◌}
use Prim.Native.Nat.{ℕ, ◌≤◌, min}
use native.Mathlib.Omega.{arith}
use mathlib.Core.List.{List}
use lib.ListN.{length}
use Rattle.rules.specs.Refusals.{written}
use Rattle.rules.specs.Register.{Row, Imported, imported, import_count, column_of, column_after, shorter, room_of, imported_numbers, imported_turnovers, imported_randoms}
use Rattle.frame_lines.proofs.Scan.{count_le}
use Rattle.frame_lines.proofs.Filled.{column_filled, shorter_is, room_le}
use Rattle.frame_lines.proofs.import_lists.Goals as goal

-- the calls' results: two lists' room, three lists' room, the answer, and how many units it fills
module _ (t ns ts rs : List ℕ) (two three count : ℕ) (found : Imported) (first : two ≡ min (length ns) (length ts)) (second : three ≡ min two (length rs))
    (judged : found ≡ imported t three) (taken : count ≡ import_count found) where
  room : three ≡ room_of ns ts rs
  unfolding room_of
  room = second ∙ shorter_is two (length rs) ∙ ap (λ (n : ℕ). shorter n (length rs)) (first ∙ shorter_is (length ns) (length ts))

  answer : found ≡ imported t (room_of ns ts rs)
  answer = judged ∙ ap (imported t) room

  counted : count ≡ import_count (imported t (room_of ns ts rs))
  counted = taken ∙ ap import_count answer

  small : count ≤ room_of ns ts rs
  small = omega (arith, counted, count_le t (room_of ns ts rs))

  -- a list of one column that holds as many lines as the answer takes
  filled : (field : Row → ℕ) (before : List ℕ) → written 0 (column_of field count t 0) before ≡ column_after field t (room_of ns ts rs) before
  filled field before = ap (λ (k : ℕ). written 0 (column_of field k t 0) before) counted ∙ column_filled field t (room_of ns ts rs) before

pub fill-requires : goal.fill-requires
fill-requires c =
    let few = small c.args.text.now c.args.numbers.now c.args.turnovers.now c.args.randoms.now _ _ _ _ c.min.ensures c.min-places.ensures c.judge-answer.ensures c.taken.ensures in
    let fits = room_le c.args.numbers.now c.args.turnovers.now c.args.randoms.now in
    (omega (arith, fits.0), omega (arith, fits.1), omega (arith, fits.2))

pub returns : goal.returns
unfolding imported_numbers imported_turnovers imported_randoms
returns c =
    let all = filled c.args.text.now c.args.numbers.now c.args.turnovers.now c.args.randoms.now _ _ _ _ c.min.ensures c.min-places.ensures c.judge-answer.ensures c.taken.ensures in
    record {
      result_value = answer c.args.text.now c.args.numbers.now c.args.turnovers.now c.args.randoms.now _ _ _ _ c.min.ensures c.min-places.ensures c.judge-answer.ensures c.taken.ensures;
      numbers_after = c.fill.ensures.numbers_after ∙ all _ _;
      turnovers_after = c.fill.ensures.turnovers_after ∙ all _ _;
      randoms_after = c.fill.ensures.randoms_after ∙ all _ _;
    }
