-- A line by its three parts, a line takes at least one byte, and what one line does to the answer.
use mathlib.Core.Path.{◌≡◌, refl, sym, ap, ◌∙◌}
use mathlib.Core.Bool.{Bool, true, cond}
use mathlib.Core.List.{List}
use Prim.Native.Nat.{ℕ, zero, suc, ◌+◌, ◌-◌, ◌<◌, ◌≤◌, zero-le}
use native.Mathlib.Omega.{arith}
use lib.ListN.{length, get_or}
use lib.Dec.{ltb, eqb}
use borrow.Author.Tests.{ltb-false, lt-ltb, le-ltb, eq-eqb}
use Rattle.rules.specs.Limits.{most_short, most_long}
use Rattle.rules.specs.Register.{Part, Row, Line, Imported, field_and_comma, field_and_end, on_part, line_at, ended_with, on_line, scanned, imported, import_count}
use Rattle.rules.specs.Tests.{◌or◌}
use Rattle.rules.proofs.Tests.{by_test, by_order, or_on, or_second}
use Rattle.text_field.proofs.Found.{comma_found, end_found, end_feeds}

-- ---- the line, by what its first and second part leave
abbrev row_of : ℕ → ℕ → ℕ → ℕ → Line
row_of a b c n = Line.good (record { number = a; turnover = b; random = c; next = n })

abbrev third : List ℕ → ℕ → ℕ → ℕ → Line
third t a b j = on_part (field_and_end t j most_short) (row_of a b)

abbrev second : List ℕ → ℕ → ℕ → Line
second t a i = on_part (field_and_comma t i most_long) (third t a)

module _ (t : List ℕ) (at : ℕ) where
  go : line_at t at ≡ on_part (field_and_comma t at most_short) (second t)
  unfolding line_at
  go = refl

  pub bad_first : field_and_comma t at most_short ≡ Part.none → line_at t at ≡ Line.bad
  bad_first e = go ∙ ap (λ (p : Part). on_part p (second t)) e

  module _ (a i : ℕ) (e₁ : field_and_comma t at most_short ≡ Part.found a i) where
    go_first : line_at t at ≡ second t a i
    go_first = go ∙ ap (λ (p : Part). on_part p (second t)) e₁

    pub bad_second : field_and_comma t i most_long ≡ Part.none → line_at t at ≡ Line.bad
    bad_second e = go_first ∙ ap (λ (p : Part). on_part p (third t a)) e

    module _ (b j : ℕ) (e₂ : field_and_comma t i most_long ≡ Part.found b j) where
      go_second : line_at t at ≡ third t a b j
      go_second = go_first ∙ ap (λ (p : Part). on_part p (third t a)) e₂

      pub bad_third : field_and_end t j most_short ≡ Part.none → line_at t at ≡ Line.bad
      bad_third e = go_second ∙ ap (λ (p : Part). on_part p (row_of a b)) e

      pub good_line : (c n : ℕ) → field_and_end t j most_short ≡ Part.found c n → line_at t at ≡ row_of a b c n
      good_line c n e = go_second ∙ ap (λ (p : Part). on_part p (row_of a b)) e

-- ---- a line takes at least one byte
never : {A : Type 0} (r : Row) → Line.bad ≡ Line.good r → A
never r e = absurd (let z : ◌≡◌ {A = ℕ} 0 1 = cc in omega arith)

same_next : (r s : Row) → Line.good r ≡ Line.good s → r.next ≡ s.next
same_next r s e = let h : r ≡ s = cc in ap (λ (x : Row). x.next) h

module _ (t : List ℕ) (r : Row) where
  -- a good line's part is found, and what follows it is good
  found_in : {A : Type 0} (p : Part) (next : ℕ → ℕ → Line) → on_part p next ≡ Line.good r → ((v n : ℕ) → p ≡ Part.found v n → next v n ≡ Line.good r → A) → A
  found_in Part.none next e then = never r e
  found_in (Part.found v n) next e then = then v n refl e

  -- its three parts, the third of which ends where the next line begins
  parts : {A : Type 0} (at : ℕ) → line_at t at ≡ Line.good r
      → ((a i b j c : ℕ) → field_and_comma t at most_short ≡ Part.found a i → field_and_comma t i most_long ≡ Part.found b j
      → field_and_end t j most_short ≡ Part.found c r.next → A)
      → A
  parts at e then =
      found_in (field_and_comma t at most_short) (second t) (sym (go t at) ∙ e) (λ a i e₁ k₁.
      found_in (field_and_comma t i most_long) (third t a) k₁ (λ b j e₂ k₂.
      found_in (field_and_end t j most_short) (row_of a b) k₂ (λ c n e₃ k₃.
      then a i b j c e₁ e₂ (e₃ ∙ ap (Part.found c) (same_next _ r k₃)))))

  pub line_goes_on : (at : ℕ) → line_at t at ≡ Line.good r → at < r.next
  line_goes_on at e =
      parts at e (λ a i b j c e₁ e₂ e₃. omega (
        arith,
        (comma_found t at most_short a i e₁).1,
        (comma_found t i most_long b j e₂).1,
        (end_found t j most_short c r.next e₃).1,
      ))

  -- where text is left after it, a line feed stands before the next line
  pub line_feeds : (at : ℕ) → line_at t at ≡ Line.good r → r.next < length t → get_or t (r.next - 1) 0 ≡ 10
  line_feeds at e less = parts at e (λ a i b j c e₁ e₂ e₃. end_feeds t j most_short c r.next e₃ less)

-- ---- the answer, by the line at an offset; `most` bounds the lines that are left
module _ (t : List ℕ) (at lines places : ℕ) where
  abbrev judged_by : ℕ → Line → Imported
  judged_by most line = on_line line (Imported.bad_line at) (λ n. scanned most t n (lines + 1) places)

  step : (most : ℕ) → at < length t → scanned (suc most) t at lines places ≡ judged_by most (line_at t at)
  unfolding scanned
  step most h = ap (λ (b : Bool). cond b (judged_by most (line_at t at)) (ended_with lines places)) (lt-ltb _ _ h)

  pub scanned_bad : (most : ℕ) → length t - at ≤ most → at < length t → line_at t at ≡ Line.bad → scanned most t at lines places ≡ Imported.bad_line at
  scanned_bad zero left h e = absurd (omega arith)
  scanned_bad (suc most) left h e = step most h ∙ ap (judged_by most) e

  pub scanned_good : (most : ℕ) (r : Row) → length t - at ≤ most → at < length t → line_at t at ≡ Line.good r
      → scanned most t at lines places ≡ scanned (most - 1) t r.next (lines + 1) places
  scanned_good zero r left h e = absurd (omega arith)
  scanned_good (suc most) r left h e =
      let one : most ≡ suc most - 1 = omega arith in
      step most h ∙ ap (judged_by most) e ∙ ap (λ (m : ℕ). scanned m t r.next (lines + 1) places) one

  pub scanned_end : (most : ℕ) → length t ≤ at → scanned most t at lines places ≡ ended_with lines places
  unfolding scanned
  scanned_end zero h = refl
  scanned_end (suc most) h = ap (λ (b : Bool). cond b (judged_by most (line_at t at)) (ended_with lines places)) (le-ltb _ _ h)

-- ---- no more units are filled than there are places
ended_le : (lines places : ℕ) → import_count (ended_with lines places) ≤ places
unfolding ended_with
ended_le lines places = by_test (ltb places lines) (λ e. rw e zero-le) (λ e. rw e (ltb-false places lines e))

line_le : (line : Line) (at places : ℕ) (after : ℕ → Imported) → ((n : ℕ) → import_count (after n) ≤ places)
    → import_count (on_line line (Imported.bad_line at) after) ≤ places
line_le Line.bad at places after h = zero-le
line_le (Line.good r) at places after h = h r.next

scanned_le : (most : ℕ) (t : List ℕ) (at lines places : ℕ) → import_count (scanned most t at lines places) ≤ places
unfolding scanned
scanned_le zero t at lines places = ended_le lines places
scanned_le (suc most) t at lines places =
    let more = line_le (line_at t at) at places (λ n. scanned most t n (lines + 1) places) (λ n. scanned_le most t n (lines + 1) places) in
    by_test (ltb at (length t)) (λ e. rw e more) (λ e. rw e (ended_le lines places))

pub count_le : (t : List ℕ) (places : ℕ) → import_count (imported t places) ≤ places
unfolding imported
count_le t places = scanned_le (length t) t 0 0 places

-- ---- "the offset where the first such line begins": the first byte of the text, or one after a line feed
abbrev pub begins : List ℕ → ℕ → Bool
begins t at = eqb at 0 or eqb (get_or t (at - 1) 0) 10

no_bad_line : {A : Type 0} (lines places at : ℕ) → ended_with lines places ≡ Imported.bad_line at → A
unfolding ended_with
no_bad_line lines places at e =
    by_test (ltb places lines)
    (λ h. let k : Imported.too_many ≡ Imported.bad_line at = rw h at e in absurd (let z : ◌≡◌ {A = ℕ} 0 1 = cc in omega arith))
    (λ h. let k : Imported.units lines ≡ Imported.bad_line at = rw h at e in absurd (let z : ◌≡◌ {A = ℕ} 0 1 = cc in omega arith))

begins_by : (line : Line) (t : List ℕ) (at b : ℕ) (after : ℕ → Imported) → line_at t at ≡ line → begins t at ≡ true
    → ((r : Row) → line_at t at ≡ Line.good r → after r.next ≡ Imported.bad_line b → begins t b ≡ true)
    → on_line line (Imported.bad_line at) after ≡ Imported.bad_line b → begins t b ≡ true
begins_by Line.bad t at b after is here next e = let same : at ≡ b = cc in rw (sym same) here
begins_by (Line.good r) t at b after is here next e = next r is e

scanned_begins : (most : ℕ) (t : List ℕ) (at lines places b : ℕ) → begins t at ≡ true → scanned most t at lines places ≡ Imported.bad_line b → begins t b ≡ true
unfolding scanned
scanned_begins zero t at lines places b here e = no_bad_line lines places b e
scanned_begins (suc most) t at lines places b here e =
    by_test (ltb at (length t))
    (λ h. begins_by (line_at t at) t at b (λ n. scanned most t n (lines + 1) places) refl here
    (λ r line k. by_order r.next (length t)
    (λ less. scanned_begins most t r.next (lines + 1) places b (or_second _ _ (eq-eqb _ _ (line_feeds t r at line less))) k)
    (λ over. no_bad_line (lines + 1) places b (sym (scanned_end t r.next (lines + 1) places most over) ∙ k)))
    (rw h at e))
    (λ h. no_bad_line lines places b (rw h at e))

pub bad_line_begins : (t : List ℕ) (places b : ℕ) → imported t places ≡ Imported.bad_line b → begins t b ≡ true
unfolding imported
bad_line_begins t places b e = scanned_begins (length t) t 0 0 places b (or_on _ _ refl) e
