-- A refusal that the code names (`number_of why`) as it goes through a sequence, an answer, a record and a buffer: the laws of `rules`, proofs/Refusals,
-- at a number that is none of "no refusal".
use mathlib.Core.Path.{◌≡◌, sym, ◌∙◌}
use mathlib.Core.List.{List}
use Prim.Native.Nat.{ℕ}
use Rattle.rules.specs.Refusals.{Judged, ◌then◌, judged, stays, written}
use Rattle.rules.proofs.Refusals.{then_stops, judged_refused, stays_stops, written_stops}
use Rattle.refusals.specs.Number.{number_of}
use Rattle.refusals.specs.declared.Refusal.{Refusal}
use Rattle.refusals.proofs.Numbers.{not_none}

-- what the first part of a sequence refuses by, the whole does
pub stops_by_lem : (why : Refusal) (a b : ℕ) → number_of why ≡ a → number_of why ≡ (a then b)
stops_by_lem why a b e = e ∙ sym (then_stops a b (not_none why a e))

module _ {A : Type 0} (why : Refusal) (n : ℕ) (e : number_of why ≡ n) where
  pub refused_by : (a : A) → Judged.refused (number_of why) ≡ judged n a
  refused_by a = rw e (sym (judged_refused n a (not_none why n e)))

  pub stays_by : (before next : A) → before ≡ stays n before next
  stays_by before next = sym (stays_stops n before next (not_none why n e))

pub written_by : (why : Refusal) (n : ℕ) → number_of why ≡ n → (news buffer : List ℕ) → buffer ≡ written n news buffer
written_by why n e news buffer = sym (written_stops n news buffer (not_none why n e))
