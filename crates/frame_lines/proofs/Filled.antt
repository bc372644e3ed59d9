-- The lines of a text place by place, and the list of units after one store a line.
use mathlib.Core.Path.{◌≡◌, refl, sym, ap, ap₂, ◌∙◌}
use mathlib.Core.List.{List, [], ◌∷◌, ◌++◌, append_assoc}
use Prim.Native.Nat.{ℕ, zero, suc, ◌+◌, ◌-◌, ◌<◌, ◌≤◌, min}
use native.Mathlib.Nat.{not-suc-le-zero, le_of_suc-le-suc}
use native.Mathlib.Omega.{arith}
use lib.ListN.{length, get_or, take, drop, set, length-set, take-append-drop}
use lib.Seq.{take-suc-set, drop-set-lt}
use lib.Dec.{ltb}
use borrow.Author.Tests.{ltb-true, ltb-false}
use Rattle.rules.specs.Refusals.{stays, written}
use Rattle.rules.specs.Register.{Row, Imported, row_at, imported, import_number, import_count, column_of, column_after, shorter, room_of}
use Rattle.rules.proofs.Tests.{by_test}
use Rattle.frame_lines.proofs.Scan.{count_le}
use Rattle.frame_lines.specs.declared.Unit.{Unit}
use Rattle.frame_lines.specs.Value.{unit_of, units_of, units_after}

-- ---- columns
-- the offset of the line after i lines
abbrev pub offset_at : ℕ → List ℕ → ℕ → ℕ
offset_at zero t at = at
offset_at (suc i) t at = offset_at i t (row_at t at).next

pub offset_next : (i : ℕ) (t : List ℕ) (at : ℕ) → offset_at (suc i) t at ≡ (row_at t (offset_at i t at)).next
offset_next zero t at = refl
offset_next (suc i) t at = offset_next i t (row_at t at).next

module _ (field : Row → ℕ) where
  pub column_at : (lines i : ℕ) (t : List ℕ) (at : ℕ) → i < lines → get_or (column_of field lines t at) i 0 ≡ field (row_at t (offset_at i t at))
  unfolding column_of
  column_at zero i t at h = absurd (not-suc-le-zero h)
  column_at (suc lines) zero t at h = refl
  column_at (suc lines) (suc i) t at h = column_at lines i t (row_at t at).next (le_of_suc-le-suc h)

  pub length_column : (lines : ℕ) (t : List ℕ) (at : ℕ) → length (column_of field lines t at) ≡ lines
  unfolding column_of
  length_column zero t at = refl
  length_column (suc lines) t at = ap suc (length_column lines t (row_at t at).next)

  -- an answer that refuses fills nothing, so that the list is always what its count of lines gives
  filled_by : (answer : Imported) (t before : List ℕ)
      → written 0 (column_of field (import_count answer) t 0) before ≡ written (import_number answer) (column_of field (import_count answer) t 0) before
  unfolding column_of
  filled_by (Imported.units n) t before = refl
  filled_by (Imported.bad_line at) t before = refl
  filled_by Imported.too_many t before = refl

  pub column_filled : (t : List ℕ) (places : ℕ) (before : List ℕ)
      → written 0 (column_of field (import_count (imported t places)) t 0) before ≡ column_after field t places before
  unfolding column_after
  column_filled t places before = filled_by (imported t places) t before

-- ---- the room of three lists
pub shorter_is : (a b : ℕ) → min a b ≡ shorter a b
unfolding shorter
shorter_is a b =
    by_test (ltb b a) (λ e. rw e (let h = ltb-true b a e in omega arith))
    (λ e. rw e (let h = ltb-false b a e in omega arith))

pub room_le : (ns ts rs : List ℕ) → (room_of ns ts rs ≤ length ns) × (room_of ns ts rs ≤ length ts) × (room_of ns ts rs ≤ length rs)
unfolding room_of
room_le ns ts rs =
    let two = shorter_is (length ns) (length ts) in
    let three = shorter_is (shorter (length ns) (length ts)) (length rs) in
    (omega arith, omega arith, omega arith)

-- ---- units
-- so many units from the line at an offset are stored from the place i on
unfoldable pub stored : ℕ → List ℕ → ℕ → ℕ → List Unit → List Unit
stored zero t at i l = l
stored (suc k) t at i l = stored k t (row_at t at).next (i + 1) (set l i (unit_of (row_at t at)))

less_one : (n i : ℕ) → i < n → n - i ≡ suc (n - (i + 1))
less_one n i h = omega arith

pub stored_step : (n : ℕ) (t : List ℕ) (at i : ℕ) (l : List Unit) → i < n
    → stored (n - i) t at i l ≡ stored (n - (i + 1)) t (row_at t at).next (i + 1) (set l i (unit_of (row_at t at)))
unfolding stored
stored_step n t at i l h = ap (λ (k : ℕ). stored k t at i l) (less_one n i h)

pub stored_end : (n : ℕ) (t : List ℕ) (at i : ℕ) (l : List Unit) → n ≤ i → stored (n - i) t at i l ≡ l
unfolding stored
stored_end n t at i l h = let none : n - i ≡ 0 = omega arith in ap (λ (k : ℕ). stored k t at i l) none

-- all of them: the units stand from the place i on, and the rest is as it was
stored_is : (k : ℕ) (t : List ℕ) (at i : ℕ) (l : List Unit) → i + k ≤ length l → stored k t at i l ≡ take i l ++ (units_of k t at ++ drop (i + k) l)
unfolding stored units_of
stored_is zero t at i l h = let none : i + 0 ≡ i = omega arith in rw none (sym (take-append-drop i l))
stored_is (suc k) t at i l h =
    let u = unit_of (row_at t at) in
    let n = (row_at t at).next in
    let fits : (i + 1) + k ≤ length (set l i u) = simp length-set (omega arith) in
    let one : i + 1 ≡ suc i = omega arith in
    let same : (i + 1) + k ≡ i + suc k = omega arith in
    let front : take (i + 1) (set l i u) ≡ take i l ++ (u ∷ []) = rw one (take-suc-set l i u (omega arith)) in
    let back : drop ((i + 1) + k) (set l i u) ≡ drop (i + suc k) l = rw same (drop-set-lt (i + suc k) l i u (omega arith)) in
    stored_is k t n (i + 1) (set l i u) fits ∙ ap₂ (λ (a b : List Unit). a ++ (units_of k t n ++ b)) front back ∙ append_assoc (take i l) (u ∷ []) _

stored_by : (answer : Imported) (t : List ℕ) (l : List Unit) → import_count answer ≤ length l
    → stored (import_count answer) t 0 0 l ≡ stays (import_number answer) l (units_of (import_count answer) t 0 ++ drop (import_count answer) l)
unfolding stored
stored_by (Imported.units n) t l h =
    let from : 0 + n ≡ n = omega arith in
    stored_is n t 0 0 l (omega arith) ∙ ap (λ (j : ℕ). units_of n t 0 ++ drop j l) from
stored_by (Imported.bad_line at) t l h = refl
stored_by Imported.too_many t l h = refl

-- all the stores of an answer leave the list that the definition says
pub units_stored : (t : List ℕ) (l : List Unit) → stored (import_count (imported t (length l))) t 0 0 l ≡ units_after t l
unfolding units_after
units_stored t l = stored_by (imported t (length l)) t l (count_le t (length l))

-- ---- both forms of the import say the same
abbrev pub mapped : (Unit → ℕ) → List Unit → List ℕ
mapped f [] = []
mapped f (u ∷ us) = f u ∷ mapped f us

-- a column of the units is that column of the lines
pub columns_agree : (field : Row → ℕ) (f : Unit → ℕ) → ((r : Row) → f (unit_of r) ≡ field r)
    → (lines : ℕ) (t : List ℕ) (at : ℕ) → mapped f (units_of lines t at) ≡ column_of field lines t at
unfolding units_of column_of
columns_agree field f same zero t at = refl
columns_agree field f same (suc lines) t at = ap₂ (λ (x : ℕ) (l : List ℕ). x ∷ l) (same (row_at t at)) (columns_agree field f same lines t (row_at t at).next)
