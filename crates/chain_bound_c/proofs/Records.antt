-- A record with a place for each unit of the largest panel: an open makes one, each call keeps it so, and the list in which it was laid holds it.
use mathlib.Core.Path.{◌≡◌, refl, ap, ◌∙◌}
use mathlib.Core.List.{List, [], ◌∷◌}
use Prim.Native.Nat.{ℕ, zero, suc, ◌-◌, ◌≤◌}
use native.Mathlib.Omega.{arith}
use lib.ListN.{length, drop, replicate, length-append, length-drop, length-replicate}
use lib.Seq.{length-take-le, take_at}
use Rattle.rules.specs.Limits.{most_panel}
use Rattle.rules.specs.Refusals.{stays, written}
use Rattle.rules.specs.Chain.{Chain, Call, held, opening, moved, open_record, call_refusal, accepted, after}
use Rattle.rules.specs.Panel.{Panel, panel_shared, panel_refusal, panel_record}
use Rattle.rules.specs.Year.{after_all}
use Rattle.rules.specs.Renewal.{renewal_refusal, renewed_record, renewal_after}
use Rattle.rules.proofs.Refusals.{then_none}
use Rattle.rules.proofs.Renewals.{renewal_opens}
use Rattle.rules.proofs.Chains.{admitted}
use Rattle.chain_bound.proofs.Accepted.{closed_reached, reached_length}
use Rattle.chain_bound.proofs.Shares.{shares_near}
use Rattle.c_values.specs.Record.{record_places, record_in, record_list}

abbrev pub Full : Chain → Type 0
Full r = length r.weights ≡ most_panel

-- The record survives the lent list: what an open or a close lays there is read back as it was.
pub read_back : (r : Chain) (xs : List ℕ) → Full r → record_in (written 0 (record_list r) xs) ≡ r
read_back r xs full =
    ap (λ (l : List ℕ). record { weights = l; units = r.units; index = r.index; closes = r.closes; links = r.links })
    (take_at r.weights _ most_panel full)

-- and the list has room for the next one
pub room_again : (r : Chain) (xs : List ℕ) → Full r → record_places ≤ length (written 0 (record_list r) xs)
room_again r xs full = omega (arith, full, length-append r.weights (drop (length (record_list r)) xs))

-- so does the list after a call with refusal n: the record that it holds is the next one, or the one that it held
pub left_in_lem : (n : ℕ) (xs : List ℕ) (next : Chain) → record_places ≤ length xs → Full (stays n (record_in xs) next) →
    (record_in (written n (record_list next) xs) ≡ stays n (record_in xs) next) × (record_places ≤ length (written n (record_list next) xs))
left_in_lem zero xs next room full = (read_back next xs full, room_again next xs full)
left_in_lem (suc n) xs next room full = (refl, room)

pub full_in : (xs : List ℕ) → record_places ≤ length xs → Full (record_in xs)
full_in xs long = length-take-le most_panel (drop 4 xs) (omega (arith, long, length-drop 4 xs))

pub full_open : (p : Panel) (start : ℕ) → panel_refusal p start ≡ 0 → Full (panel_record p start)
unfolding open_record
full_open p start e =
    let o = shares_near p.outside p.base p.shares p.updates start e in
    let rest = most_panel - length (panel_shared p) in
    omega (
      arith,
      o.0.most,
      o.0.long,
      o.1.long,
      length-append (opening (panel_shared p) p.updates) (replicate rest 0),
      length-replicate {A = ℕ} rest 0,
    )

module _ (r : Chain) (full : Full r) where
  full_accepted : (call : Call) → call_refusal r call ≡ 0 → Full (accepted r call)
  unfolding call_refusal held
  full_accepted (Call.quarter ps) e = full
  full_accepted (Call.close ps) e =
      let a = admitted r ps (then_none _ _ e).0 in
      let units = length-take-le r.units r.weights (omega (arith, full, a.sound.most)) in
      let new = reached_length (closed_reached r units ps e) ∙ a.long in
      omega (arith, full, new, a.sound.most, length-append (moved r ps) (drop r.units r.weights), length-drop r.units r.weights)

  pub full_after : (call : Call) → Full (after r call)
  unfolding after
  full_after call = go (call_refusal r call) refl
    where
      go : (n : ℕ) → call_refusal r call ≡ n → Full (stays n r (accepted r call))
      go zero e = full_accepted call e
      go (suc n) e = full

pub full_all : (calls : List Call) (r : Chain) → Full r → Full (after_all r calls)
unfolding after_all
full_all [] r full = full
full_all (call ∷ calls) r full = full_all calls (after r call) (full_after r full call)

pub full_renewed : (r : Chain) (p : Panel) → Full r → Full (renewal_after r p)
unfolding renewal_after renewed_record
full_renewed r p full = go (renewal_refusal r p) refl
  where
    go : (n : ℕ) → renewal_refusal r p ≡ n → Full (stays n r (renewed_record r p))
    go zero e = full_open p r.index (renewal_opens r p e)
    go (suc n) e = full
