-- The pass through two rising lists side by side: a number is in the second list if it stands where the search for it stops, and the next number of the
-- first goes on from there.
use mathlib.Core.Path.{◌≡◌, refl, sym, ap, subst, ◌∙◌}
use mathlib.Core.Bool.{Bool, true, false}
use mathlib.Core.List.{List}
use Prim.Native.Nat.{ℕ, zero, suc, ◌+◌, ◌-◌, ◌≤◌, ◌<◌, zero-le}
use native.Mathlib.Omega.{arith}
use native.Mathlib.Numerals.{add-one}
use lib.ListN.{length, get_or, take, drop, length-drop}
use lib.Seq.{get_or-drop, take-length}
use lib.Dec.{ltb, leb, eqb}
use borrow.Author.Count.{below_more}
use borrow.Author.Tests.{leb-true, leb-false, lt-ltb, le-ltb, eqb-true, eqb-false, ltb-true}
use Rattle.std.specs.Prelude.{Option, Some, None, MatchOption}
use Rattle.std.specs.List.{position, position_or_len}
use Rattle.std.proofs.lemmas.List.Quantifiers.{position-Some}
use Rattle.std.proofs.lemmas.List.Sums.{fails_before_first}
use Rattle.std.proofs.lemmas.Option.{none-some, MatchOption-at_some, MatchOption-at_none}
use Rattle.rules.specs.Lists.{rising, elem}
use Rattle.rules.proofs.Tests.{by_test, by_order, and_on, and_off, and_left, and_right}
use Rattle.rules.proofs.Lists.{rising_below, elem_here, elem_next, elem_end, elem_low}
use denote.Bor.{Bor}
use Rattle.rotation_seek.specs.declared.Seek.{Seek}
use Rattle.rotation_seek.specs.Passed.{Passed, Reached, stands, behind}
use Rattle.rotation_seek.specs.Met.{Met}

-- nothing is passed yet
pub passed_none : (list : List ℕ) (x : ℕ) → Passed list 0 x
passed_none list x = record { within = zero-le; below = λ k l. absurd (omega arith) }

module _ {list : List ℕ} {j x : ℕ} (p : Passed list j x) where
  -- by one number, and so by a larger one; and one place more where what stands there is below that
  pub passed_on : (y : ℕ) → x < y → Passed list j y
  passed_on y l = record { within = p.within; below = λ k h. omega (arith, p.below k h) }

  pub passed_more : (y : ℕ) → x ≤ y → j < length list → get_or list j 0 < y → Passed list (j + 1) y
  passed_more y l h b = record {
    within = omega arith;
    below = below_more (λ k. get_or list k 0 < y) j (λ k m. omega (arith, p.below k m)) b;
  }

-- the search behind j: the first place that it finds, or none
module _ (list : List ℕ) (j x : ℕ) (p : Passed list j x) where
  abbrev reaches : ℕ → Bool
  reaches y = leb x y

  -- as far as nothing is found the list is passed
  passed_by : (k : ℕ) → j + k ≤ length list → ((i : ℕ) → i < k → reaches (get_or (drop j list) i 0) ≡ false) → Passed list (j + k) x
  passed_by k w none = record {
    within = w;
    below = λ i l. by_order i j (p.below i) (λ h. let e : j + (i - j) ≡ i = omega (arith, h) in
        leb-false x _ (rw (ap (λ (n : ℕ). get_or list n 0) (sym e), ← get_or-drop j list (i - j) 0) (none (i - j) (omega (arith, h, l)))));
  }

  abbrev rest : List ℕ
  rest = take (length list - j) (drop j list)

  rest_is : rest ≡ drop j list
  rest_is = rw (← length-drop j list) (take-length (drop j list))

  reached_at : (k : ℕ) → position reaches rest ≡ Some k → Reached list j x (j + k)
  reached_at k e =
      let found = position-Some reaches (drop j list) k 0 (ap (position reaches) (sym rest_is) ∙ e) in
      let within = p.within in
      record {
        onward = omega arith;
        passed = passed_by k (omega (arith, found.0, length-drop j list)) found.2;
        stops = λ l. rw (← get_or-drop j list k 0) (leb-true x _ found.1);
      }

  somewhere : position_or_len reaches rest < length rest → position reaches rest ≡ Some (position_or_len reaches rest)
  somewhere l = rw (lt-ltb _ _ l)

  -- nothing found: no place passes
  past_all : position reaches rest ≡ None → length rest ≤ position_or_len reaches rest
  past_all e = by_order (position_or_len reaches rest) (length rest) (λ l. absurd (none-some _ (sym e ∙ somewhere l))) (λ h. h)

  reached_end : position reaches rest ≡ None → Reached list j x (length list)
  reached_end e =
      let within = p.within in
      let all : j + (length list - j) ≡ length list = omega arith in
      let none : length (drop j list) ≤ position_or_len reaches (drop j list) = rw (← rest_is) (past_all e) in
      record {
        onward = within;
        passed = rw (← all) (passed_by (length list - j) (omega arith) (λ i l. fails_before_first reaches (drop j list) i 0 (omega (arith, l, none, length-drop j list))));
        stops = λ l. absurd (omega (arith, l));
      }

  -- so whichever the search answers
  pub reached_by :
      (found : Option ℕ) (r : ℕ) (At : ℕ → Type 0) → found ≡ position reaches rest → MatchOption found (r ≡ length list) At → ((k : ℕ) → At k → r ≡ j + k)
      → Reached list j x r
  reached_by None r At e m at = rw (MatchOption-at_none (r ≡ length list) At refl m) (reached_end (sym e))
  reached_by (Some k) r At e m at = rw (at k (MatchOption-at_some (r ≡ length list) At k refl m)) (reached_at k (sym e))

-- a number that has passed j places is looked for behind them alone
passed_elem : (list : List ℕ) (j x : ℕ) → Passed list j x → elem x (drop j list) ≡ elem x list
passed_elem list zero x p = refl
passed_elem list (suc j) x p =
    let within = p.within in
    let next = elem_next x list j (omega arith) (λ e. absurd (omega (arith, p.below j (omega arith)))) in
    let step : elem x (drop (suc j) list) ≡ elem x (drop j list) = rw (sym (add-one j)) next in
    step ∙ passed_elem list j x (record { within = omega arith; below = λ k l. p.below k (omega arith) })

-- a number stands within the list
pub stands_within : (list : List ℕ) (j x : ℕ) → stands list j x ≡ true → j < length list
unfolding stands
stands_within list j x e = ltb-true _ _ (and_left _ _ e)

-- THE PLACE TELLS: in a rising list a number stands where the search for it stops, or nowhere
module _ {list : List ℕ} {from x r : ℕ} (h : Reached list from x r) where
  pub reached_elem : rising list ≡ true → elem x list ≡ stands list r x
  unfolding stands
  reached_elem up =
      sym (passed_elem list r x h.passed)
      ∙ by_order r (length list)
      (λ l.
      let here : stands list r x ≡ eqb x (get_or list r 0) = and_on _ _ (lt-ltb r (length list) l) in
      by_test (eqb x (get_or list r 0))
      (λ e. elem_here x list r l (eqb-true _ _ e) ∙ sym (here ∙ e))
      (λ e.
      let same : get_or list r 0 ≤ x → x ≡ get_or list r 0 = λ a. omega (arith, h.stops l) in
      let less = by_order x (get_or list r 0) (λ a. a) (λ a. absurd (eqb-false x (get_or list r 0) e (same a))) in
      elem_low x (drop r list) (above l less) ∙ sym (here ∙ e)))
      (λ l. elem_end x list r l ∙ sym (and_off _ _ (le-ltb r (length list) l)))
    where
      above : r < length list → x < get_or list r 0 → (k : ℕ) → k < length (drop r list) → x < get_or (drop r list) k 0
      above l less zero b = let e : r + 0 ≡ r = omega arith in rw (get_or-drop r list 0 0, e) less
      above l less (suc k) b =
          rw (get_or-drop r list (suc k) 0)
          (omega (arith, rising_below list up r (r + suc k) (omega arith) (omega (arith, length-drop r list))))

  pub stands_there : stands list r x ≡ true → (r < length list) × (get_or list r 0 ≡ x)
  unfolding stands
  stands_there e = (stands_within list r x e, sym (eqb-true _ _ (and_right (ltb r (length list)) _ e)))

-- where the pass stands: at place i of the one list and place j of the other
pub record Standing (numbers list : List ℕ) (i j : ℕ) : Type 0 where
  pub in_frame : i ≤ length numbers
  pub in_list : j ≤ length list
  pub passed : i < length numbers → Passed list j (get_or numbers i 0)

pub stand_first : (numbers list : List ℕ) → Standing numbers list 0 0
stand_first numbers list = record { in_frame = zero-le; in_list = zero-le; passed = λ l. passed_none list _ }

module _ {numbers list : List ℕ} {i j r : ℕ} (at : Standing numbers list i j) (up : rising numbers ≡ true) (l : i < length numbers) (h : Reached list j (get_or numbers i 0) r) where
  next_above : i + 1 < length numbers → get_or numbers i 0 < get_or numbers (i + 1) 0
  next_above m = rising_below numbers up i (i + 1) (omega arith) m

  -- the search for the next number may go on where this one stopped
  stand_on : Standing numbers list (i + 1) r
  stand_on = record { in_frame = omega arith; in_list = h.passed.within; passed = λ m. passed_on h.passed _ (next_above m) }

  -- or behind it
  pub stand_behind : Standing numbers list (i + 1) (behind list r (get_or numbers i 0))
  unfolding behind
  stand_behind =
      by_test (stands list r (get_or numbers i 0))
      (λ e.
      let s = stands_there h e in
      rw e (record {
        in_frame = omega arith;
        in_list = omega (arith, s.0);
        passed = λ m. let a = next_above m in passed_more h.passed _ (omega arith) s.0 (omega (arith, s.1));
      }))
      (λ e. rw e stand_on)

-- which passes a place more where the number stands, and none where it does not
module _ (list : List ℕ) (r x : ℕ) where
  pub behind_one : stands list r x ≡ true → behind list r x ≡ r + 1
  unfolding behind
  behind_one e = rw e

  pub behind_none : stands list r x ≡ false → behind list r x ≡ r
  unfolding behind
  behind_none e = rw e

  pub behind_on : r ≤ behind list r x
  behind_on = by_test (stands list r x) (λ e. omega (arith, behind_one e)) (λ e. omega (arith, behind_none e))

-- what a search leaves, said of a list that is the sought one
module _ {s t : Seek} {x : ℕ} {answer : Bool} {list : List ℕ} (same : s.list.now ≡ list) (m : Met s t x answer) where
  pub met_reached : Reached list s.at x m.place
  met_reached = subst (λ (xs : List ℕ). Reached xs s.at x m.place) same m.reached

  pub met_told : answer ≡ stands list m.place x
  met_told = m.told ∙ ap (λ (xs : List ℕ). stands xs m.place x) same

  pub met_onward : t.at ≡ behind list m.place x
  met_onward = m.onward ∙ ap (λ (xs : List ℕ). behind xs m.place x) same

  pub met_same : t.list.now ≡ list
  met_same = ap (λ (l : Bor (List ℕ)). l.now) m.same ∙ same
