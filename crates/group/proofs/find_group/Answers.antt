-- The marks of whoever has the least turnover are those of the group.
use mathlib.Core.Path.{◌≡◌, refl, sym, ap, ap₂, ◌∙◌}
use mathlib.Core.Bool.{Bool, false, cond}
use mathlib.Core.List.{List, [], ◌∷◌, ◌++◌}
use Prim.Native.Nat.{ℕ, zero, suc, ◌-◌, ◌<◌}
use native.Mathlib.Numerals.{add-one}
use lib.ListN.{length, take, drop, replicate}
use lib.Seq.{length-take-le}
use Rattle.std.proofs.lemmas.List.{replicate_more}
use Rattle.rules.specs.Refusals.{written}
use Rattle.rules.specs.Selection.{listed, every}
use Rattle.rules.specs.TakeAll.{largest, take_all_group}
use Rattle.selection.proofs.Sums.{count_every, listed_length}
use Rattle.selection.proofs.TakeAll.{largest_none}
use Rattle.selection.proofs.Listed.{listed_both}
use Rattle.group_least.specs.declared.Size.{Size}
use Rattle.group_least.specs.Size.{has_least, IsSize}
use Rattle.group.specs.Group.{marks_of, IsGroup}
use Rattle.group.proofs.Accepted.{mark_at, marks_tell}
use Rattle.group.proofs.find_group.Goals as goal

-- a mark of 0 for each of n units
no_marks : (n : ℕ) → replicate n 0 ≡ listed every (λ i. cond false 1 0) n
unfolding listed
no_marks zero = refl
no_marks (suc n) = ap (λ (k : ℕ). replicate k 0) (sym (add-one n)) ∙ sym (replicate_more n 0) ∙ ap (λ (xs : List ℕ). xs ++ (0 ∷ [])) (no_marks n)

module _ (ts : List ℕ) (z : ℕ) (s : Size) (k : IsSize ts z s) where
  group_is : (i : ℕ) → i < length ts → has_least ts s.least i ≡ (take_all_group ts z).takes_all i
  unfolding take_all_group
  group_is i l = k.group i l ∙ ap (λ (q : ℕ). largest ts q i) k.size

  -- a mark for each unit; none where the group is empty
  marks_are : marks_of (has_least ts s.least) (length ts) ≡ marks_of (take_all_group ts z).takes_all (length ts)
  marks_are = listed_both every every _ _ (length ts) (λ i l. refl) (λ i l. ap (λ (b : Bool). cond b 1 0) (group_is i l))

  none_is : s.q ≡ 0 → (i : ℕ) → i < length ts → false ≡ (take_all_group ts z).takes_all i
  unfolding take_all_group
  none_is e i l = sym (ap (λ (q : ℕ). largest ts q i) (sym k.size ∙ e) ∙ largest_none ts i)

  none_are : s.q ≡ 0 → replicate (length ts) 0 ≡ marks_of (take_all_group ts z).takes_all (length ts)
  none_are e = no_marks (length ts) ∙ listed_both every every _ _ (length ts) (λ i l. refl) (λ i l. ap (λ (b : Bool). cond b 1 0) (none_is e i l))

  found :
      (old marks : List ℕ) → marks ≡ written 0 (marks_of (take_all_group ts z).takes_all (length ts)) old
      → IsGroup ts z marks (record { q = s.q; n = s.n; rest = s.rest })
  unfolding take_all_group
  found old marks e = record {
    size = k.size;
    mark_is = mark_at (take_all_group ts z).takes_all (length ts) old marks e;
    agrees = record {
      takes = marks_tell (take_all_group ts z).takes_all (length ts) old marks e;
      size_is = k.sample ∙ ap (λ (q : ℕ). z - q) k.size;
      rest_is = k.rest_is;
    };
  }

pub returns-then-q-eq0 : goal.returns-then-q-eq0
returns-then-q-eq0 c =
    let ts = c.args.turnovers.now in
    let takes = (take_all_group ts c.args.z).takes_all in
    let cut : length (take (length ts) c.args.marks.now) ≡ length ts = length-take-le _ _ c.requires.1 in
    let filled : c.fill.new.self ≡ replicate (length ts) 0 = c.fill.ensures.after (λ y h. h) ∙ ap (λ (n : ℕ). replicate n 0) cut in
    let news : c.fill.new.self ≡ marks_of takes (length ts) = filled ∙ none_are _ _ _ c.find_size-q.ensures c.if-q-eq0.true in
    let long : length ts ≡ length (marks_of takes (length ts)) = sym (listed_length every (λ i. cond (takes i) 1 0) (length ts) ∙ count_every (length ts)) in
    let marks : c.fill.new.self ++ drop (length ts) c.args.marks.now ≡ written 0 (marks_of takes (length ts)) c.args.marks.now =
    ap₂ (λ (xs : List ℕ) (n : ℕ). xs ++ drop n c.args.marks.now) news long in
    record { group = found _ _ _ c.find_size-q.ensures c.args.marks.now _ marks; marks_after = marks }

pub returns-else-q-eq0 : goal.returns-else-q-eq0
returns-else-q-eq0 c = let marks = c.mark.ensures ∙ ap (λ (xs : List ℕ). written 0 xs c.args.marks.now) (marks_are _ _ _ c.find_size-q.ensures) in
    record { group = found _ _ _ c.find_size-q.ensures _ _ marks; marks_after = marks }
