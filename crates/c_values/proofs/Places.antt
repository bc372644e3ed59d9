-- The places of a record in a lent list, and what an open or a close leaves there.
use mathlib.Core.Path.{◌≡◌, refl, sym, ap, ap₂, ◌∙◌}
use mathlib.Core.List.{List, [], ◌∷◌, ◌++◌}
use Prim.Native.Nat.{ℕ, zero, suc, ◌≤◌}
use native.Mathlib.Omega.{arith}
use lib.ListN.{length, drop, set}
use Rattle.rules.specs.Limits.{most_panel}
use Rattle.rules.specs.Refusals.{judged, stays, written}
use Rattle.rules.specs.Chain.{Chain}
use Rattle.rules.proofs.Refusals.{given_tells, refused_tells}
use Rattle.std.specs.Prelude.{Result, Ok, Err}
use Rattle.refusals.specs.declared.Refusal.{Refusal}
use Rattle.refusals.proofs.Answers.{written_by}
use Rattle.chain.specs.declared.Chain.{Chain as CodeChain}
use Rattle.chain.specs.Record.{record_of}
use Rattle.chain_open.specs.Opened.{opening_of}
use Rattle.c_values.specs.declared.Figure.{Figure}
use Rattle.c_values.specs.Figures.{figure_from}
use Rattle.c_values.specs.Record.{record_list, opening_number, opened_list}
use borrow.Rule.Slice.PartMut.{put_mid}

-- four numbers and the weights over the first places
pub laid : (e w : List ℕ) (a b c d : ℕ) → 4 ≤ length e → length w ≡ most_panel →
    put_mid 4 most_panel (set (set (set (set e 0 a) 1 b) 2 c) 3 d) w ≡ written 0 (a ∷ b ∷ c ∷ d ∷ w) e
laid [] w a b c d h k = absurd (omega arith)
laid (x ∷ []) w a b c d h k = absurd (omega arith)
laid (x ∷ y ∷ []) w a b c d h k = absurd (omega arith)
laid (x ∷ y ∷ z ∷ []) w a b c d h k = absurd (omega arith)
laid (x ∷ y ∷ z ∷ t ∷ r) w a b c d h k = ap (λ (n : ℕ). a ∷ b ∷ c ∷ d ∷ (w ++ drop n r)) (sym k)

-- the number that a figure carries is the call's refusal, and an opening's is the open's
pub figure_number : (n f : ℕ) (r : Figure) → r ≡ figure_from (judged n f) → r.refusal ≡ n
figure_number zero f r e = ap (λ (x : Figure). x.refusal) e
figure_number (suc n) f r e = ap (λ (x : Figure). x.refusal) e

-- an opening of the code, by what the definitions answer
pub opened_is : (o : Result CodeChain Refusal) (n : ℕ) (s : Chain) (xs : List ℕ) → opening_of o ≡ judged n s → (opening_number o ≡ n) × (opened_list o xs ≡ written n (record_list s) xs)
opened_is (Ok c) n s xs e = let t = given_tells n s (record_of c) e in (sym t.0, ap₂ (λ (k : ℕ) (r : Chain). written k (record_list r) xs) (sym t.0) t.1)
opened_is (Err why) n s xs e = let number = refused_tells n _ s e in (number, written_by why n number (record_list s) xs)

-- the record handed back beside a refusal is not written, whatever it holds
written_next : (n : ℕ) (before next : Chain) (xs : List ℕ) → written n (record_list (stays n before next)) xs ≡ written n (record_list next) xs
written_next zero before next xs = refl
written_next (suc n) before next xs = refl

-- what `lay` leaves of a call with refusal n, handed that number and the record beside it
pub leaves : (n : ℕ) (before next : Chain) (xs : List ℕ) {m : ℕ} {r : Chain} {ys : List ℕ} → m ≡ n → r ≡ stays n before next →
    ys ≡ written m (record_list r) xs → ys ≡ written n (record_list next) xs
leaves n before next xs number beside laid =
    laid ∙ ap₂ (λ (k : ℕ) (c : Chain). written k (record_list c) xs) number beside ∙ written_next n before next xs
