-- What refusals 1 to 5 and 30 leave is what the search with previous lists asks for.
use mathlib.Core.Path.{◌≡◌}
use mathlib.Core.Bool.{true, false}
use mathlib.Core.List.{List}
use Prim.Native.Nat.{ℕ}
use lib.ListN.{length}
use borrow.Author.Tests.{ltb-false, not-false}
use Rattle.rules.specs.Lists.{rising}
use Rattle.rules.specs.Kept.{Keeping, bad_list, bad_keeping, keeping_refusal}
use Rattle.rules.proofs.Tests.{or_false}
use Rattle.rules.proofs.Refusals.{refuse_none}
use Rattle.frame.proofs.Accepted.{Units}
use Rattle.group.proofs.Accepted.{sized}
use Rattle.group_border.specs.Border.{Listed}
use Rattle.group_kept.specs.Kept.{Enlargeable}

listed : (list : List ℕ) → bad_list list ≡ false → Listed list
unfolding bad_list
listed list e = let b = or_false _ _ e in record { rises = not-false _ b.1; few = ltb-false _ _ b.0 }

pub enlargeable :
    {ns ts : List ℕ} {z : ℕ} {p : Keeping} → Units ts z → length ns ≡ length ts → rising ns ≡ true → keeping_refusal p ≡ 0 → Enlargeable ns ts z p
unfolding keeping_refusal bad_keeping
enlargeable {ns} {ts} {z} {p} u same rises e =
    let b = or_false _ _ (refuse_none _ 29 e) in
    let c = or_false _ _ b.0 in
    record {
      sized = sized ts z u;
      numbered = record { same = same; rises = rises };
      threshold_low = ltb-false _ _ (or_false _ _ c.0).1;
      first_is = listed p.first c.1;
      second_is = listed p.second b.1;
    }
