-- Document 02, [11]: that a renewal is never refused by 12 or 24, the worked cases, and that the bound needs its part for each panel.
-- The cases by computing the definitions.
use mathlib.Core.Path.{◌≡◌, refl, sym, ◌∙◌}
use mathlib.Core.Bool.{Bool, true, false}
use mathlib.Core.List.{List, [], ◌∷◌}
use Prim.Native.Nat.{ℕ, zero, suc, ◌*◌, ◌/◌}
use lib.Dec.{eqb}
use borrow.Author.Tests.{eqb-false}
use Rattle.rules.specs.Tests.{◌or◌, outside}
use Rattle.rules.specs.Refusals.{Judged, refuse, ◌then◌}
use Rattle.rules.specs.Lists.{sum, products, scaled, any_of, any_pair}
use Rattle.rules.specs.Chain.{Chain, Call, held, bad_index, bad_relative, bad_weight, bad_units, bad_open_lists, bad_base, bad_shares, open_input_refusal, weight_refusal, open_weight_refusal}
use Rattle.rules.specs.Chain.{open_refusal, open_record, link, figure_at, bad_links, broken, call_input_refusal, figure_refusal, call_refusal, call_answer, after}
use Rattle.rules.specs.Panel.{Outside, Panel, plain, refusal_by, outside_input_refusal, outside_refusal, panel_refusal, panel_record, panel_answer}
use Rattle.rules.specs.Renewal.{renewal_refusal, renewed_record, renewal_answer, renewal_after}
use Rattle.rules.specs.Events.{Event, Made, singles, events}
use Rattle.rules.specs.Direct.{Direct, exact_open, panel_exact, exact_moved, direct_panel, direct_open, direct_after, direct_renewed, numerator, denominator, allowed, Within}
use Rattle.rules.proofs.Tests.{never, by_test}
use Rattle.rules.proofs.Refusals.{refuse_off, refuse_none, then_none}
use Rattle.rules.proofs.Chains.{index_within}
use Rattle.rules.proofs.PanelCases.{last_figure}

-- ---- 12 and 24
-- no test refuses by k where its number is another
abbrev Away : ℕ → ℕ → Type 0
Away k n = (test : Bool) → refuse test n ≡ k → ⊥

away : (k n : ℕ) → eqb n k ≡ false → eqb 0 k ≡ false → Away k n
unfolding refuse
away k n e z true = eqb-false n k e
away k n e z false = eqb-false 0 k z

neither : (a b k : ℕ) → (a ≡ k → ⊥) → (b ≡ k → ⊥) → (a then b) ≡ k → ⊥
unfolding ◌then◌
neither zero b k p q = q
neither (suc n) b k p q = p

-- an opening is not refused by another number than its own
record Others (k : ℕ) : Type 0 where
  lists : Away k 9
  base : Away k 10
  shares : Away k 11
  relatives : Away k 13
  outside : Away k 29
  low : Away k 21
  high : Away k 22

others : (k : ℕ) → eqb 9 k ≡ false → eqb 10 k ≡ false → eqb 11 k ≡ false → eqb 13 k ≡ false → eqb 29 k ≡ false → eqb 21 k ≡ false → eqb 22 k ≡ false →
    eqb 0 k ≡ false → Others k
others k e9 e10 e11 e13 e29 e21 e22 z =
    record {
      lists = away k 9 e9 z;
      base = away k 10 e10 z;
      shares = away k 11 e11 z;
      relatives = away k 13 e13 z;
      outside = away k 29 e29 z;
      low = away k 21 e21 z;
      high = away k 22 e22 z;
    }

module _ (k start : ℕ) (o : Others k) (index : refuse (bad_index start) 12 ≡ k → ⊥) (ws gs rs : List ℕ) where
  input_never : open_input_refusal ws gs rs start ≡ k → ⊥
  unfolding open_input_refusal
  input_never = neither _ _ k (o.lists _) (neither _ _ k (o.base _) (neither _ _ k (o.shares _) (neither _ _ k index (o.relatives _))))

  weights_never : (us : List ℕ) → open_weight_refusal gs us rs ≡ k → ⊥
  unfolding weight_refusal
  weights_never us = neither _ _ k (o.low _) (neither _ _ k (o.low _) (o.high _))

  opening_never : (outside : Outside) → refusal_by outside ws gs rs start ≡ k → ⊥
  unfolding open_refusal outside_refusal outside_input_refusal
  opening_never Outside.none = neither _ _ k input_never (weights_never _)
  opening_never (Outside.share share ms) =
      neither _ _ k (neither _ _ k (o.lists _) (neither _ _ k input_never (o.outside _))) (neither _ _ k (o.low _) (weights_never _))

-- "a renewal itself is not refused by" 24
pub renewal_never_24 : (r : Chain) (p : Panel) → renewal_refusal r p ≡ 24 → ⊥
unfolding renewal_refusal
renewal_never_24 r p =
    let o = others 24 refl refl refl refl refl refl refl refl in
    neither _ _ 24 (away 24 19 refl refl _) (opening_never 24 r.index o (away 24 12 refl refl _) _ _ _ p.outside)

-- nor by 12: its start index is the record's C, which 19 has judged
pub renewal_never_12 : (r : Chain) (p : Panel) → renewal_refusal r p ≡ 12 → ⊥
unfolding renewal_refusal ◌then◌ refuse
renewal_never_12 r p e =
    by_test (broken r) (λ b. eqb-false 19 12 refl (rw b at e)) (λ b. opening_never 12 r.index o (index b) _ _ _ p.outside (rw b at e))
  where
    o : Others 12
    o = others 12 refl refl refl refl refl refl refl refl

    index : broken r ≡ false → refuse (bad_index r.index) 12 ≡ 12 → ⊥
    index b f = eqb-false 0 12 refl (sym (refuse_off _ 12 (index_within r b)) ∙ f)

-- ---- an accepted renewal
-- 19 does not apply to the record, nor does a refusal of the opening at its C
pub renewal_sound : (r : Chain) (p : Panel) → renewal_refusal r p ≡ 0 → broken r ≡ false
unfolding renewal_refusal
renewal_sound r p e = refuse_none _ 18 (then_none _ _ e).0

pub renewal_opens : (r : Chain) (p : Panel) → renewal_refusal r p ≡ 0 → panel_refusal p r.index ≡ 0
unfolding renewal_refusal
renewal_opens r p e = (then_none _ _ e).1

-- ---- the worked cases
abbrev one : ℕ → List ℕ
one p = p ∷ []

abbrev two : ℕ → List ℕ
two p = p ∷ p ∷ []

-- one unit, with so many closes and links
abbrev single : ℕ → ℕ → ℕ → Chain
single c closes links = record { weights = one 2000000; units = 1; index = c; closes = closes; links = links }

-- lists of two units, where the record has one
abbrev pair : Panel
pair = plain (1000000 ∷ 5000000 ∷ []) (two 10000) (two 100000)

abbrev nothing : Panel
nothing = plain [] [] []

-- "Panels without a close counted": one close, and a renewal that no close follows before the next
abbrev panel₁ : Panel
panel₁ = plain (two 2000000) (two 10000) (two 100000)

abbrev panel₂ : Panel
panel₂ = plain (one 3000000) (one 10000) (one 100000)

abbrev panel₃ : Panel
panel₃ = plain (one 4000000) (one 10000) (one 100000)

abbrev close₁ : Call
close₁ = Call.close (110000 ∷ 100000 ∷ [])

abbrev quarter₃ : Call
quarter₃ = Call.quarter (one 120000)

abbrev direct₃ : Direct
direct₃ = direct_renewed (direct_renewed (direct_after (direct_open panel₁ 1000000000) close₁) panel₂) panel₃

record Renewed : Type 0 where
  -- 24 counts links: the fortieth of them, and the close after it
  fortieth : events (single 1000000000 0 39) (Made.call (Call.close (one 110000)) ∷ Made.call (Call.close (one 100000)) ∷ []) ≡
      Event.answered (Call.close (one 110000)) 1100000000 ∷ Event.refused 24 ∷ []
  -- a renewal at forty links, whose closes begin at 0, with lists of another length; a quarter after it is refused by 24, and by 13 before that
  at_forty : events (single 1000000000 40 40) (Made.renewal pair ∷ Made.call (Call.quarter (two 100000)) ∷ Made.call (Call.quarter (two 1)) ∷ []) ≡
      Event.renewed pair ∷ Event.refused 24 ∷ Event.refused 13 ∷ []
  onward : (renewal_after (single 1000000000 40 40) pair).links ≡ 40
  from_zero : (renewal_after (single 1000000000 40 40) pair).closes ≡ 0
  -- 19 before the opening's
  fewer_links : renewal_refusal (single 1000000000 3 2) nothing ≡ 19
  no_lists : renewal_refusal (single 1000000000 3 3) nothing ≡ 9
  no_index : renewal_refusal (single 99999999 0 0) pair ≡ 19
  many_links : renewal_refusal (single 1000000000 0 41) pair ≡ 19
  -- of three panels the first and the last count
  three_panels : events (panel_record panel₁ 1000000000) (Made.call close₁ ∷ Made.renewal panel₂ ∷ Made.renewal panel₃ ∷ Made.call quarter₃ ∷ []) ≡
      Event.answered close₁ 1050000000 ∷ Event.renewed panel₂ ∷ Event.renewed panel₃ ∷ Event.answered quarter₃ 1260000000 ∷ []
  multiplier : allowed direct₃ ≡ 4
  exact : numerator direct₃ (one 120000) ≡ 1260000000 * denominator direct₃ (one 120000)

renewed : Renewed
unfolding ◌or◌ outside refuse ◌then◌ sum products scaled any_of any_pair held bad_index bad_relative bad_weight bad_units bad_open_lists bad_base bad_shares
    open_input_refusal weight_refusal open_refusal open_record link figure_at bad_links broken call_input_refusal figure_refusal call_refusal call_answer after
    renewal_refusal renewed_record renewal_answer renewal_after singles events exact_open panel_exact exact_moved direct_panel direct_renewed numerator denominator
renewed =
    record {
      fortieth = refl;
      at_forty = refl;
      onward = refl;
      from_zero = refl;
      fewer_links = refl;
      no_lists = refl;
      no_index = refl;
      many_links = refl;
      three_panels = refl;
      multiplier = refl;
      exact = refl;
    }

-- ---- forty panels of one close each, which need the part of every panel in the bound
abbrev losing : Panel
losing = plain (4000016 ∷ 322586129 ∷ []) (10000 ∷ 31 ∷ []) (100000 ∷ 99999 ∷ [])

abbrev apart : List ℕ
apart = 25000 ∷ 400000 ∷ []

-- n times a close and a renewal, then a close
abbrev forty_list : ℕ → List Made
forty_list zero = Made.call (Call.close apart) ∷ []
forty_list (suc n) = Made.call (Call.close apart) ∷ Made.renewal losing ∷ forty_list n

abbrev forty_direct : ℕ → Direct
forty_direct zero = direct_open losing 1000000000
forty_direct (suc n) = direct_renewed (direct_after (forty_direct n) (Call.close apart)) losing

record Forty : Type 0 where
  opens : panel_answer losing 1000000000 ≡ Judged.given (panel_record losing 1000000000)
  last : last_figure 0 (events (panel_record losing 1000000000) (forty_list 39)) ≡ 1000023600
  exact : numerator (forty_direct 39) apart * 100 / denominator (forty_direct 39) apart ≡ 100007199571
  multiplier : allowed (forty_direct 39) ≡ 80

forty : Forty
unfolding ◌or◌ outside refuse ◌then◌ sum products scaled any_of any_pair held bad_index bad_relative bad_weight bad_units bad_open_lists bad_base bad_shares
    open_input_refusal weight_refusal open_refusal open_record panel_answer link figure_at bad_links broken call_input_refusal figure_refusal call_refusal call_answer after
    renewal_refusal renewed_record renewal_answer renewal_after singles events exact_open panel_exact exact_moved direct_panel direct_renewed numerator denominator
forty = record { opens = refl; last = refl; exact = refl; multiplier = refl }

-- the m + 1 of one panel, 41, would not do
pub forty_need_each_panel : Within 1000023600 (numerator (forty_direct 39) apart) (denominator (forty_direct 39) apart) 41 → ⊥
unfolding sum products exact_open panel_exact exact_moved direct_panel direct_renewed numerator denominator
forty_need_each_panel w = never _ _ refl w.not_below
