-- A year under way: what one call makes of it, by what the code's call answers, and what the calls come to in turn.
use mathlib.Core.Path.{◌≡◌, refl, sym, ap, ap₂, ◌∙◌}
use mathlib.Core.List.{List, [], ◌∷◌}
use Prim.Native.Nat.{ℕ, zero, suc, ◌+◌, ◌≤◌, ◌<◌}
use native.Mathlib.Omega.{arith}
use native.Mathlib.Numerals.{add-one}
use lib.ListN.{length, get_or, drop, set, length-set}
use borrow.Author.Tests.{lt-ltb, le-ltb}
use denote.Ref.{Bor}
use Rattle.refusals.specs.Number.{number_of}
use Rattle.refusals.specs.declared.Refusal.{Refusal}
use Rattle.std.specs.Prelude.{Result, Ok, Err}
use Rattle.refusals.proofs.Answers.{stays_by}
use Rattle.refusals.proofs.Numbers.{number_is_suc}
use Rattle.rules.specs.Limits.{year_places}
use Rattle.rules.specs.Refusals.{refuse, ◌then◌, stays, written}
use Rattle.rules.specs.Chain as rules
use Rattle.rules.specs.Chain.{Call, relatives, figure_of, call_refusal, call_answer, after}
use Rattle.rules.specs.Year.{four_calls, stops_by, figures_of, up_to, after_all, room_refusal, year_refusal, year_figures, year_after, Year, year_of}
use Rattle.rules.proofs.Refusals.{stays_goes, given_tells, refused_tells}
use Rattle.rules.proofs.Years.{four_left}
use Rattle.chain.specs.Record.{call_by, answer_from}
use Rattle.chain.specs.declared.Kind.{Kind}

-- ---- one call more
-- what a year has come to: the number that stopped it or 0, the calls that were accepted, the record and the buffer
abbrev pub stage : ℕ → ℕ → rules.Chain → List ℕ → Year
stage n k r buffer = record { refusal = n; count = k; chain = r; figures = buffer }

-- unless one was refused: a refused call stops the year, and an accepted one leaves its figure in the next place, and the record after it
unfoldable pub further : Year → Call → Year
further s call =
    stays s.refusal s (stays (call_refusal s.chain call) (stage (call_refusal s.chain call) s.count s.chain s.figures)
    (stage 0 (s.count + 1) (after s.chain call) (set s.figures s.count (figure_of s.chain (relatives call)))))

-- from what the code's call answers, x
module _ (k : ℕ) (r : rules.Chain) (buffer : List ℕ) (call : Call) (x : Result ℕ Refusal) (e : answer_from x ≡ call_answer r call) where
  refused_stage : (why : Refusal) → x ≡ Err why → stage (number_of why) k r buffer ≡ further (stage 0 k r buffer) call
  unfolding further call_answer
  refused_stage why told =
      let number = refused_tells (call_refusal r call) _ (figure_of r (relatives call)) (sym (ap answer_from told) ∙ e) in
      ap (λ (n : ℕ). stage n k r buffer) number ∙ stays_by why (call_refusal r call) number _ _

  taken_stage : (f : ℕ) → x ≡ Ok f → (next : rules.Chain) → next ≡ after r call → stage 0 (k + 1) next (set buffer k f) ≡ further (stage 0 k r buffer) call
  unfolding further call_answer
  taken_stage f told next left =
      let given = given_tells (call_refusal r call) (figure_of r (relatives call)) _ (sym (ap answer_from told) ∙ e) in
      rw (left, given.1) (sym (stays_goes (call_refusal r call) _ _ given.0))

-- ---- several calls
abbrev pub onward : Year → List Call → Year
onward s [] = s
onward s (call ∷ calls) = onward (further s call) calls

-- figures from place k on, the rest as it was
abbrev laid : ℕ → List ℕ → List ℕ → List ℕ
laid zero fs buffer = written 0 fs buffer
laid (suc k) fs [] = []
laid (suc k) fs (x ∷ buffer) = x ∷ laid k fs buffer

laid_next : (k f : ℕ) (fs buffer : List ℕ) → k < length buffer → laid (suc k) fs (set buffer k f) ≡ laid k (f ∷ fs) buffer
laid_next k f fs [] h = absurd (omega arith)
laid_next zero f fs (x ∷ buffer) h = refl
laid_next (suc k) f fs (x ∷ buffer) h = ap (λ (l : List ℕ). x ∷ l) (laid_next k f fs buffer (omega arith))

laid_none : (k : ℕ) (buffer : List ℕ) → k ≤ length buffer → laid k [] buffer ≡ buffer
laid_none zero buffer h = refl
laid_none (suc k) [] h = absurd (omega arith)
laid_none (suc k) (x ∷ buffer) h = ap (λ (l : List ℕ). x ∷ l) (laid_none k buffer (omega arith))

-- a stopped year stays as it is
onward_stops : (n k : ℕ) (r : rules.Chain) (buffer : List ℕ) (calls : List Call) → onward (stage (suc n) k r buffer) calls ≡ stage (suc n) k r buffer
unfolding further
onward_stops n k r buffer [] = refl
onward_stops n k r buffer (call ∷ calls) = onward_stops n k r buffer calls

-- a year with k figures in its buffer comes with these calls to …
abbrev came : ℕ → rules.Chain → List ℕ → List Call → Year
came k r buffer calls = stage (stops_by r calls) (k + length (figures_of r calls)) (after_all r (up_to r calls)) (laid k (figures_of r calls) buffer)

no_more : (n k : ℕ) (r : rules.Chain) (buffer : List ℕ) → k ≤ length buffer → stage n k r buffer ≡ stage n (k + 0) r (laid k [] buffer)
no_more n k r buffer h =
    let same : k ≡ k + 0 = omega arith in
    ap₂ (λ (c : ℕ) (l : List ℕ). stage n c r l) same (sym (laid_none k buffer h))

onward_is : (calls : List Call) (k : ℕ) (r : rules.Chain) (buffer : List ℕ) → k + length calls ≤ length buffer →
    onward (stage 0 k r buffer) calls ≡ came k r buffer calls
unfolding further stops_by figures_of up_to after_all after ◌then◌
onward_is [] k r buffer h = no_more 0 k r buffer (omega arith)
onward_is (call ∷ calls) k r buffer h =
    go (call_refusal r call) (after r call) refl (λ s. onward_is calls (k + 1) s (set buffer k f) (simp length-set (omega arith)))
  where
    f : ℕ
    f = figure_of r (relatives call)

    go : (n : ℕ) (s : rules.Chain) → s ≡ stays n r (rules.accepted r call) →
        ((s : rules.Chain) → onward (stage 0 (k + 1) s (set buffer k f)) calls ≡ came (k + 1) s (set buffer k f) calls) →
        onward (stays n (stage n k r buffer) (stage 0 (k + 1) s (set buffer k f))) calls ≡
        stage (n then stops_by s calls) (k + length (stays n [] (f ∷ figures_of s calls))) (after_all s (stays n [] (up_to s calls)))
        (laid k (stays n [] (f ∷ figures_of s calls)) buffer)
    go zero s e later =
        let count : k + 1 + length (figures_of s calls) ≡ k + length (f ∷ figures_of s calls) = omega arith in
        let next = laid_next k f (figures_of s calls) buffer (omega arith) in
        later s ∙ rw add-one (ap₂ (λ (c : ℕ) (l : List ℕ). stage (stops_by s calls) c (after_all s (up_to s calls)) l) (rw add-one at count) next)
    go (suc n) s e later = onward_stops n k r buffer calls ∙ rw e (no_more (suc n) k r buffer (omega arith))

-- ---- the year, call after call
-- Before call k, with the record s and this buffer, beside the record r and the buffer `before` that came in: the calls that are left come to what all do.
pub record Under (r : rules.Chain) (before : List ℕ) (calls : List Call) (k : ℕ) (s : rules.Chain) (buffer : List ℕ) : Type 0 where
  pub goes_on : onward (stage 0 k s buffer) (drop k calls) ≡ onward (stage 0 0 r before) calls
  pub long : length buffer ≡ length before

-- the calls that the code's pairs ask for, and the next of them
abbrev pub call_in : Kind × Bor (List ℕ) → Call
call_in x = call_by x.0 x.1.now

abbrev pub asked : List (Kind × Bor (List ℕ)) → List Call
asked [] = []
asked (x ∷ xs) = call_in x ∷ asked xs

next_asked : (xs : List (Kind × Bor (List ℕ))) (k : ℕ) (other : Kind × Bor (List ℕ)) → k < length xs → drop k (asked xs) ≡ call_in (get_or xs k other) ∷ drop (suc k) (asked xs)
next_asked [] k other h = absurd (omega arith)
next_asked (x ∷ xs) zero other h = refl
next_asked (x ∷ xs) (suc k) other h = next_asked xs k other (omega arith)

module _ {r : rules.Chain} {before : List ℕ} (xs : List (Kind × Bor (List ℕ))) {k : ℕ} {s : rules.Chain} {buffer : List ℕ} (u : Under r before (asked xs) k s buffer)
    (other : Kind × Bor (List ℕ)) (more : k < length xs) (x : Result ℕ Refusal) (e : answer_from x ≡ call_answer s (call_in (get_or xs k other))) where
  goes_on : onward (further (stage 0 k s buffer) (call_in (get_or xs k other))) (drop (suc k) (asked xs)) ≡ onward (stage 0 0 r before) (asked xs)
  goes_on = ap (onward (stage 0 k s buffer)) (sym (next_asked xs k other more)) ∙ u.goes_on

  -- it is refused, which ends the year
  pub year_stops : (why : Refusal) → x ≡ Err why → stage (number_of why) k s buffer ≡ onward (stage 0 0 r before) (asked xs)
  year_stops why told =
      let stopped : onward (stage (number_of why) k s buffer) (drop (suc k) (asked xs)) ≡ stage (number_of why) k s buffer =
      rw (number_is_suc why) (onward_stops _ k s buffer (drop (suc k) (asked xs))) in
      sym stopped ∙ ap (λ (y : Year). onward y (drop (suc k) (asked xs))) (refused_stage k s buffer _ x e why told) ∙ goes_on

  -- it is accepted, and the year goes on
  pub year_goes : (f : ℕ) → x ≡ Ok f → (next : rules.Chain) → next ≡ after s (call_in (get_or xs k other)) → Under r before (asked xs) (k + 1) next (set buffer k f)
  year_goes f told next left =
      record {
        goes_on = rw add-one (ap (λ (y : Year). onward y (drop (suc k) (asked xs))) (rw add-one at (taken_stage k s buffer _ x e f told next left)) ∙ goes_on);
        long = simp length-set u.long;
      }

-- four calls were made, and none was refused
pub all_made : {r : rules.Chain} {before q₁ q₂ q₃ ps : List ℕ} {k : ℕ} {s : rules.Chain} {buffer : List ℕ} → k ≡ 4 →
    Under r before (four_calls q₁ q₂ q₃ ps) k s buffer → stage 0 4 s buffer ≡ onward (stage 0 0 r before) (four_calls q₁ q₂ q₃ ps)
all_made e u = rw e at u.goes_on

-- too few places: nothing is done
pub no_room : (r : rules.Chain) (calls : List Call) (before : List ℕ) → length before < year_places → stage 28 0 r before ≡ year_of r calls before
unfolding room_refusal year_refusal year_figures year_after refuse ◌then◌
no_room r calls before short = rw (lt-ltb (length before) year_places short)

-- four calls
pub year_ends : (r : rules.Chain) (q₁ q₂ q₃ ps before : List ℕ) → year_places ≤ length before → (y : Year) →
    y ≡ onward (stage 0 0 r before) (four_calls q₁ q₂ q₃ ps) → y ≡ year_of r (four_calls q₁ q₂ q₃ ps) before
unfolding room_refusal year_refusal year_figures year_after refuse ◌then◌
year_ends r q₁ q₂ q₃ ps before room y reached =
    let calls = four_calls q₁ q₂ q₃ ps in
    let e = reached ∙ onward_is calls 0 r before (omega arith) in
    let none_before : 0 + length (figures_of r calls) ≡ length (figures_of r calls) = omega arith in
    let left = sym (four_left r q₁ q₂ q₃ ps) in
    rw (le-ltb (length before) year_places room)
    (e ∙ ap₂ (λ (k : ℕ) (next : rules.Chain). stage (stops_by r calls) k next (written 0 (figures_of r calls) before)) none_before left)
