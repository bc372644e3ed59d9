-- A turn of the search: after j turns the list holds the candidates of the first j numbers.
use mathlib.Core.Path.{◌≡◌, sym, ap, ◌∙◌}
use mathlib.Core.Bool.{true, false, true≢false, false≢true}
use mathlib.Core.List.{List}
use Prim.Native.Nat.{ℕ, ◌+◌, ◌≤◌, ◌<◌}
use native.Mathlib.Omega.{arith}
use native.Mathlib.Numerals.{add-one}
use lib.ListN.{length, get_or, take, set, length-set}
use lib.Seq.{take-suc-set}
use Rattle.std.specs.Prelude.{Option, Some, None, is_some}
use Rattle.rules.specs.Lists.{rising, elem}
use Rattle.rules.specs.Kept.{keeping}
use Rattle.rules.proofs.Lists.{elem_place}
use Rattle.frame_find.specs.Found.{Found}
use Rattle.group.specs.Group.{rules_group}
use Rattle.group_border.specs.Border.{Numbered, eligible, Gathered}
use Rattle.group_border.proofs.Turns.{turn_none, turn_out, turn_skip, turn_more}

-- where a turn stands
pub record At (ns ts marks : List ℕ) (threshold n rest : ℕ) (skip list : List ℕ) (count : ℕ) (before places : List ℕ) (many j : ℕ) : Type 0 where
  pub within : j ≤ length list
  pub few : many ≤ count + j
  pub long : length places ≡ length before
  pub held : Gathered ns ts (keeping threshold skip (take j list)) (rules_group marks n rest) (take many places)

-- a turn: number j of the list
module _ (ns ts marks : List ℕ) (threshold n rest : ℕ) (skip list : List ℕ) (count : ℕ) (before places : List ℕ) (many j : ℕ)
    (at : At ns ts marks threshold n rest skip list count before places many j) (numbered : Numbered ns ts) (up : rising list ≡ true) (l : j < length list) where
  abbrev x : ℕ
  x = get_or list j 0

  passed : Gathered ns ts (keeping threshold skip (take (j + 1) list)) (rules_group marks n rest) (take many places)
      → At ns ts marks threshold n rest skip list count before places many (j + 1)
  passed h = record { within = omega arith; few = omega (arith, at.few); long = at.long; held = h }

  -- it does not stand in the frame
  pub at_none : Found ns x None → At ns ts marks threshold n rest skip list count before places many (j + 1)
  at_none f = passed (turn_none _ _ _ _ _ _ _ _ _ _ numbered up l at.held f)

  -- it does, at place i
  module _ (i : ℕ) (f : Found ns x (Some i)) where
    place_fits : i < length ts
    place_fits = omega (arith, f.0, numbered.same)

    pub at_out : eligible ts marks threshold n rest i ≡ false → At ns ts marks threshold n rest skip list count before places many (j + 1)
    at_out e = passed (turn_out _ _ _ _ _ _ _ _ _ _ numbered up l at.held i place_fits f.1 e)

    -- what the search in the other list says
    pub at_skip : (o : Option ℕ) → Found skip x o → is_some o ≡ true → At ns ts marks threshold n rest skip list count before places many (j + 1)
    at_skip None s some = absurd (false≢true some)
    at_skip (Some r) s some =
        passed
        (turn_skip _ _ _ _ _ _ _ _ _ _ numbered up l at.held i place_fits f.1 (ap (λ (y : ℕ). elem y skip) (sym s.1) ∙ elem_place skip r s.0))

    pub at_more :
        (o : Option ℕ) → Found skip x o → is_some o ≡ false → eligible ts marks threshold n rest i ≡ true → many < length places
        → At ns ts marks threshold n rest skip list count before (set places many i) (many + 1) (j + 1)
    at_more (Some r) s none e room = absurd (true≢false none)
    at_more None s none e room =
        let more = turn_more _ _ _ _ _ _ _ _ _ _ numbered up l at.held i place_fits f.1 e s in
        record {
          within = omega arith;
          few = omega (arith, at.few);
          long = simp length-set at.long;
          held = rw (add-one many, take-suc-set places many i room) more;
        }
