-- What the field comes to from i on (`field_from`) stays what it comes to at all, and v stays within `most`.
use mathlib.Core.Path.{◌≡◌, refl, sym, ap, ◌∙◌}
use mathlib.Core.Bool.{true, false}
use mathlib.Core.List.{List}
use Prim.Native.Nat.{ℕ, ◌+◌, ◌*◌, ◌-◌, ◌<◌, ◌≤◌}
use native.Mathlib.Omega.{arith}
use lib.ListN.{length, get_or}
use Rattle.rules.specs.Register.{Part, is_digit, field_at}
use Rattle.text_field.specs.declared.Cursor.{Cursor}
use Rattle.text_field.proofs.Digits.{ascii, digit_is, field_from, from_start, from_digit, from_other, from_end, from_large}
use Rattle.text_field.proofs.Cursor.number.Goals as goal

-- at a digit
module _ (t : List ℕ) (at most v i : ℕ) (low : at ≤ i) (now : field_from t at most v i ≡ field_at t at most) (inside : i < length t) (digit : is_digit (get_or t i 0) ≡ true) where
  -- one digit more leaves what the field comes to
  more : field_from t at most (v * 10 + (get_or t i 0 - 48)) (i + 1) ≡ field_at t at most
  more = sym (from_digit t at most v i low inside digit) ∙ now

  -- where it passes `most`, there is no field
  large : most < v * 10 + (get_or t i 0 - 48) → Part.none ≡ field_at t at most
  large h = from_large t at most (v * 10 + (get_or t i 0 - 48)) (i + 1) h ∙ more

pub loop-i-init : goal.loop-i-init
loop-i-init c = (refl, omega arith, omega arith, from_start _ _ _)

pub sized-requires : goal.sized-requires
sized-requires c = rw c.loop-i.invariant.0 (omega arith)

pub sized-requires-2 : goal.sized-requires-2
sized-requires-2 c = rw c.loop-i.invariant.0 (omega (arith, c.saturating_sub.ensures))

pub returns-then-not-is_ascii_digit : goal.returns-then-not-is_ascii_digit
returns-then-not-is_ascii_digit c =
    let l = c.loop-i in
    let no : is_digit _ ≡ false = sym (ascii _) ∙ sym c.is_ascii_digit.ensures.value ∙ c.if-not-is_ascii_digit.true in
    let told = rw l.invariant.0 at c.sized.ensures in
    record { same = told.same; is = told.is ∙ from_other _ _ _ l.v l.i l.invariant.2 c.loop-i-test.true no ∙ l.invariant.3; kept = told.kept }

pub returns-then-tenth-v : goal.returns-then-tenth-v
returns-then-tenth-v c =
    let l = c.loop-i in
    let digit : is_digit _ ≡ true = sym (ascii _) ∙ sym c.is_ascii_digit.ensures.value ∙ c.if-not-is_ascii_digit.false in
    let byte = digit_is _ digit in
    record {
      same = ap (λ (s : Cursor). s.text) l.invariant.0;
      is = large _ _ _ l.v l.i (omega arith) l.invariant.3 c.loop-i-test.true digit (omega arith);
      kept = λ e. ap (λ (s : Cursor). s.at) l.invariant.0;
    }

pub returns-then-most-tens : goal.returns-then-most-tens
returns-then-most-tens c =
    let l = c.loop-i in
    let digit : is_digit _ ≡ true = sym (ascii _) ∙ sym c.is_ascii_digit.ensures.value ∙ c.if-not-is_ascii_digit.false in
    record {
      same = ap (λ (s : Cursor). s.text) l.invariant.0;
      is = large _ _ _ l.v l.i (omega arith) l.invariant.3 c.loop-i-test.true digit (omega (arith, c.from-d.ensures));
      kept = λ e. ap (λ (s : Cursor). s.at) l.invariant.0;
    }

pub loop-i-preserved : goal.loop-i-preserved
loop-i-preserved c =
    let l = c.loop-i in
    let digit : is_digit _ ≡ true = sym (ascii _) ∙ sym c.is_ascii_digit.ensures.value ∙ c.if-not-is_ascii_digit.false in
    (l.invariant.0, omega arith, omega arith, rw c.from-d.ensures (more _ _ _ l.v l.i (omega arith) l.invariant.3 c.loop-i-test.true digit))

pub returns : goal.returns
returns c =
    let l = c.loop-i in
    let at = c.args.self.now.at in
    let end : length c.args.self.now.text.now - at ≡ l.i - at = omega arith in
    let told = rw l.invariant.0 at c.sized-2.ensures in
    record {
      same = told.same;
      is = told.is ∙ rw (c.saturating_sub.ensures, end) (from_end _ _ _ l.v l.i l.invariant.2 c.loop-i-test.false ∙ l.invariant.3);
      kept = told.kept;
    }
