-- `is_broken` asks the tests of 19 one after the other; the sum is none, or 0, exactly where it breaks a limit.
use mathlib.Core.Path.{◌≡◌, sym, ap, ◌∙◌}
use mathlib.Core.Bool.{Bool, false}
use mathlib.Core.List.{List}
use Prim.Native.Nat.{ℕ}
use lib.Dec.{ltb, eqb}
use Rattle.std.proofs.Common.{rules}
use Rattle.std.specs.Prelude.{Option, Some, None, MatchOption, IsTrue}
use Rattle.rules.specs.Limits.{most_weight}
use Rattle.rules.specs.Tests.{◌or◌}
use Rattle.rules.specs.Lists.{sum, any_pair}
use Rattle.rules.specs.Chain.{Chain, bad_weight, bad_units, bad_links, bad_index, held, broken}
use Rattle.rules.proofs.Tests.{or_on, or_second, or_off, or_none}
use Rattle.rules.proofs.Chains.{units_most}
use Rattle.chain_sums.proofs.Pairs.{any_same}
use Rattle.chain_sums.specs.Limited.{limited}
use Rattle.chain_sums.proofs.Weights.{limited_told, limited_gives}
use Rattle.chain_record.specs.Record.{lent_record}
use Rattle.chain_record.proofs.Record.is_broken.Goals.{then-bad_units-via-then-bad_units, then-bad_units-via-else-bad_units+then-bad_links, then-bad_units-via-else-bad_units+else-bad_links+then-bad_index}
use Rattle.chain_record.proofs.Record.is_broken.Goals as goal

-- the tests of the units' v
abbrev bad_held : List ℕ → Bool
bad_held vs = any_pair bad_weight vs vs or eqb (sum vs) 0 or ltb most_weight (sum vs)

-- units, closes and index within their limits leave it to the units' v
held_last : (r : Chain) (vs : List ℕ) → bad_units r.units ≡ false → bad_links r.closes r.links ≡ false → bad_index r.index ≡ false → vs ≡ held r → broken r ≡ bad_held vs
unfolding broken ◌or◌
held_last r vs units links index same = simp (units, links, index, same)

-- v that are not too low are judged by their sum
either : {P : ℕ → Type 0} (low : Bool) (o : Option ℕ) (b : Bool) (s : ℕ) → low ≡ false → o ≡ limited s → ((x : ℕ) → P x → b ≡ eqb x 0)
    → MatchOption o (IsTrue b) P → b ≡ (low or eqb s 0 or ltb most_weight s)
either low None b s l e k t = t ∙ sym (or_second _ _ (sym (limited_told _ _ e)))
either low (Some x) b s l e k p =
    let whole = limited_gives s x e in
    k x p ∙ sym (or_none _ _ whole.1 ∙ or_off _ _ l ∙ ap (λ (n : ℕ). eqb n 0) (sym whole.0))

pub returns-then-bad_units : goal.returns-then-bad_units
unfolding broken ◌or◌
returns-then-bad_units c =
    elim c.then-bad_units.branch [
      | then-bad_units-via-then-bad_units w ↦ simp (sym c.bad_units.ensures ∙ w.if-bad_units.true)
      | then-bad_units-via-else-bad_units+then-bad_links w ↦ simp (sym c.bad_units.ensures ∙ w.if-bad_units.false, sym w.bad_links.ensures ∙ w.if-bad_links.true)
      | then-bad_units-via-else-bad_units+else-bad_links+then-bad_index w ↦
          simp (sym c.bad_units.ensures ∙ w.if-bad_units.false, sym w.bad_links.ensures ∙ w.if-bad_links.false, sym w.bad_index.ensures ∙ w.if-bad_index.true)
    ]

pub held-held-requires : goal.held-held-requires
held-held-requires c = units_most c.args.self.now.numbers.units (sym c.bad_units.ensures ∙ c.if-bad_units.false)

pub returns-then-any : goal.returns-then-any
returns-then-any c =
    let rest = held_last (lent_record c.args.self.now) _ (sym c.bad_units.ensures ∙ c.if-bad_units.false) (sym c.bad_links.ensures ∙ c.if-bad_links.false) (sym c.bad_index.ensures ∙ c.if-bad_index.false) c.held-held.ensures.value in
    let low = any_same bad_weight c.held-held.result.now c.any.new.self c.any.ensures.ran (search rules) (λ x b q k. search rules) in
    sym (rest ∙ or_on _ _ (or_on _ _ (sym low ∙ c.if-any.true)))

pub returns : goal.returns
returns c =
    let rest = held_last (lent_record c.args.self.now) _ (sym c.bad_units.ensures ∙ c.if-bad_units.false) (sym c.bad_links.ensures ∙ c.if-bad_links.false) (sym c.bad_index.ensures ∙ c.if-bad_index.false) c.held-held.ensures.value in
    let low = any_same bad_weight c.held-held.result.now c.any.new.self c.any.ensures.ran (search rules) (λ x b q k. search rules) in
    either _ _ _ _ (sym low ∙ c.if-any.false) c.limited_sum.ensures (λ x q. search rules) c.is_none_or.ensures ∙ sym rest
