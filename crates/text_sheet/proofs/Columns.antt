-- A line in its pieces is the defined line, and no accepted line overflows its columns.
use Prim.Native.Nat.{ℕ, ◌/◌, ◌^◌, ◌≤◌, ◌<◌, zero-le}
use mathlib.Core.Path.{◌≡◌, refl, sym, ap, ◌∙◌}
use mathlib.Core.Bool.{Bool, false}
use lib.IntN.{ℤ, pos, negsuc, nat_abs}
use lib.Signed.{lt_z}
use mathlib.Core.List.{List, [], ◌∷◌, ◌++◌}
use lib.ListN.{length, length-append}
use native.Mathlib.Omega.{arith}
use borrow.Author.Tests.{ltb-false, le-ltb}
use Rattle.rules.specs.Limits.{name_columns, number_columns, line_bytes, lowest_index, highest_index, figure_decimals, change_decimals}
use Rattle.rules.specs.Chain.{bad_index}
use Rattle.rules.specs.Sheet.{change_of, figure_text, change_text, left_in, right_in, sheet_line, bad_name, bad_line}
use Rattle.std.specs.List.{list_any}
use Rattle.rules.specs.Tests.{◌or◌}
use Rattle.rules.specs.Lists.{any_of}
use Rattle.rules.proofs.Tests.{by_test, or_false, within}
use Rattle.text_columns.specs.Signed.{signed_text}
use Rattle.text_columns.proofs.Pieces.{number_fits, left_length, right_length}
use Rattle.text_change.specs.Values.{Sized}
use Rattle.text_change.proofs.Sizes.{change_sized}
use Rattle.text_sheet.specs.Answer.{pieces_of}

-- what an accepted line has
pub record Accepted (name : List ℕ) (new old room : ℕ) : Type 0 where
  pub named : length name ≤ name_columns
  pub new_high : new ≤ highest_index
  pub old_low : lowest_index ≤ old
  pub old_high : old ≤ highest_index
  pub fits : line_bytes ≤ room

pub accepted : (name : List ℕ) (new old room : ℕ) → bad_line name new old room ≡ false → Accepted name new old room
unfolding bad_line bad_name bad_index
accepted name new old room e =
    let e₃ = or_false _ _ e in
    let e₂ = or_false _ _ e₃.0 in
    let e₁ = or_false _ _ e₂.0 in
    record {
      named = (within _ _ _ (or_false _ _ e₁.0).0).1;
      new_high = (within _ _ _ e₁.1).1;
      old_low = (within _ _ _ e₂.1).0;
      old_high = (within _ _ _ e₂.1).1;
      fits = ltb-false _ _ e₃.1;
    }

-- the library's test of any
pub any_is : (p : ℕ → Bool) (xs : List ℕ) → list_any p xs ≡ any_of p xs
unfolding any_of ◌or◌
any_is p [] = refl
any_is p (x ∷ xs) = by_test (p x) (λ e. rw e) (λ e. rw e (any_is p xs))

-- the printed change, by its sign and size
pub change_text_lem : (change : ℤ) → signed_text (lt_z change (pos 0)) change_decimals (nat_abs change) ≡ change_text change
unfolding change_text
change_text_lem (pos n) = rw (le-ltb n 0 zero-le) refl
change_text_lem (negsuc n) = refl

-- ---- no line overflows its columns
pub figure_fits : (new : ℕ) → new ≤ highest_index → length (figure_text new) ≤ number_columns
figure_fits new h =
    let whole : new / 10 ^ figure_decimals < 10000 = omega arith in
    number_fits false figure_decimals new whole (omega arith)

change_fits : (change : ℤ) → Sized change → length (change_text change) ≤ number_columns
change_fits change h =
    let whole : nat_abs change / 10 ^ change_decimals < 10000 = omega arith in
    rw (sym (change_text_lem change)) (number_fits (lt_z change (pos 0)) change_decimals (nat_abs change) whole (omega arith))

pub figure_columns : (new : ℕ) → new ≤ highest_index → length (right_in number_columns (figure_text new)) ≡ number_columns
figure_columns new h = right_length number_columns (figure_text new) (figure_fits new h)

pub change_columns : (change : ℤ) → Sized change → length (right_in number_columns (change_text change)) ≡ number_columns
change_columns change h = right_length number_columns (change_text change) (change_fits change h)

module _ (name : List ℕ) (new : ℕ) where
  -- the pieces are the line
  pub line_pieces : (old : ℕ) → pieces_of name new (change_of new old).hundredths ≡ sheet_line name new old
  unfolding sheet_line
  line_pieces old = refl

  -- and as long as the columns together
  pub pieces_length : (change : ℤ) → length name ≤ name_columns → new ≤ highest_index → Sized change → length (pieces_of name new change) ≡ line_bytes
  pieces_length change n f s =
      let figure = right_in number_columns (figure_text new) in
      let moved = right_in number_columns (change_text change) in
      let all = length-append (left_in name_columns name) (figure ++ (moved ++ (10 ∷ []))) in
      let both = length-append figure (moved ++ (10 ∷ [])) in
      omega (arith, all, both, length-append moved (10 ∷ []), left_length name_columns name n, figure_columns new f, change_columns change s)

-- THEOREM: no accepted line overflows: each text is within its columns, and the line has 48 of them and the line feed.
pub line_holds : (name : List ℕ) (new old room : ℕ) → bad_line name new old room ≡ false
    → (length name ≤ name_columns) × (length (figure_text new) ≤ number_columns)
    × (length (change_text (change_of new old).hundredths) ≤ number_columns) × (length (sheet_line name new old) ≡ line_bytes)
line_holds name new old room e =
    let a = accepted name new old room e in
    let change = (change_of new old).hundredths in
    let sized = change_sized new old a.new_high a.old_low in (
      a.named,
      figure_fits new a.new_high,
      change_fits change sized,
      sym (ap length (line_pieces name new old)) ∙ pieces_length name new change a.named a.new_high sized,
    )
