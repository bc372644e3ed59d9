-- What a part of a line that is of the form says: its number fits, and it takes at least one byte.
use mathlib.Core.Path.{◌≡◌, refl, sym}
use mathlib.Core.Bool.{Bool, true, false, cond}
use mathlib.Core.List.{List}
use Prim.Native.Nat.{ℕ, ◌+◌, ◌-◌, ◌<◌, ◌≤◌}
use native.Mathlib.Omega.{arith}
use lib.ListN.{length, get_or, drop}
use lib.Dec.{ltb, eqb}
use borrow.Author.Tests.{ltb-false, eqb-true}
use Rattle.rules.specs.Limits.{most_field}
use Rattle.rules.specs.Tests.{outside}
use Rattle.rules.specs.Register.{Part, digits_in, spelled, sized, field_at, comma_at, end_at, followed, field_and_comma, field_and_end}
use Rattle.rules.proofs.Tests.{within}

never : {A : Type 0} (v n : ℕ) → Part.none ≡ Part.found v n → A
never v n e = absurd (let z : ◌≡◌ {A = ℕ} 0 1 = cc in omega arith)

value : (a i v n : ℕ) → Part.found a i ≡ Part.found v n → a ≡ v
value a i v n e = cc

place : (a i v n : ℕ) → Part.found a i ≡ Part.found v n → i ≡ n
place a i v n e = cc

-- a number within `most` that ends after the offset
abbrev Says : ℕ → ℕ → ℕ → ℕ → Type 0
Says at most v n = (v ≤ most) × (at < n)

field_by : (large many : Bool) (s d at most v n : ℕ) → ltb most s ≡ large → (many ≡ false → 1 ≤ d)
    → cond large Part.none (cond many Part.none (Part.found s (at + d))) ≡ Part.found v n → Says at most v n
field_by true many s d at most v n hl hm e = never v n e
field_by false true s d at most v n hl hm e = never v n e
field_by false false s d at most v n hl hm e =
    let number = value s (at + d) v n e in
    let after = place s (at + d) v n e in
    let small = ltb-false most s hl in
    let some = hm refl in
    (omega arith, omega arith)

field_says : (t : List ℕ) (at most v n : ℕ) → field_at t at most ≡ Part.found v n → Says at most v n
unfolding field_at sized
field_says t at most v n e =
    let d = digits_in (drop at t) in
    field_by (ltb most (spelled 0 (drop at t))) (outside 1 most_field d) (spelled 0 (drop at t)) d at most v n refl (λ h. (within 1 most_field d h).0) e

-- what follows a number leaves it, and goes no byte back
abbrev After : ℕ → ℕ → ℕ → ℕ → Type 0
After v n w m = (w ≡ v) × (n ≤ m)

comma_by : (b : Bool) (v n w m : ℕ) → cond b (Part.found v (n + 1)) Part.none ≡ Part.found w m → After v n w m
comma_by true v n w m e = let after = place v (n + 1) w m e in (sym (value v (n + 1) w m e), omega arith)
comma_by false v n w m e = never w m e

comma_says : (t : List ℕ) (v n w m : ℕ) → comma_at t v n ≡ Part.found w m → After v n w m
unfolding comma_at
comma_says t v n w m e = comma_by (eqb (get_or t n 0) 44) v n w m e

end_by : (over feed carriage both : Bool) (v n w m : ℕ)
    → cond over (Part.found v n) (cond feed (Part.found v (n + 1)) (cond carriage (cond both (Part.found v (n + 2)) Part.none) Part.none)) ≡ Part.found w m
    → After v n w m
end_by true feed carriage both v n w m e = let after = place v n w m e in (sym (value v n w m e), omega arith)
end_by false true carriage both v n w m e = let after = place v (n + 1) w m e in (sym (value v (n + 1) w m e), omega arith)
end_by false false true true v n w m e = let after = place v (n + 2) w m e in (sym (value v (n + 2) w m e), omega arith)
end_by false false true false v n w m e = never w m e
end_by false false false both v n w m e = never w m e

end_says : (t : List ℕ) (v n w m : ℕ) → end_at t v n ≡ Part.found w m → After v n w m
unfolding end_at
end_says t v n w m e = end_by (eqb n (length t)) (eqb (get_or t n 0) 10) (eqb (get_or t n 0) 13) (eqb (get_or t (n + 1) 0) 10) v n w m e

-- where text is left after a line, a line feed stands before it
feeds_by : (over feed carriage both : Bool) (t : List ℕ) (v n w m : ℕ) → eqb n (length t) ≡ over → eqb (get_or t n 0) 10 ≡ feed → eqb (get_or t (n + 1) 0) 10 ≡ both
    → cond over (Part.found v n) (cond feed (Part.found v (n + 1)) (cond carriage (cond both (Part.found v (n + 2)) Part.none) Part.none)) ≡ Part.found w m
    → m < length t → get_or t (m - 1) 0 ≡ 10
feeds_by true feed carriage both t v n w m ho hf hb e less = absurd (omega (arith, place v n w m e, eqb-true n (length t) ho))
feeds_by false true carriage both t v n w m ho hf hb e less =
    let back : m - 1 ≡ n = omega (arith, place v (n + 1) w m e) in
    rw back (eqb-true _ _ hf)
feeds_by false false true true t v n w m ho hf hb e less =
    let back : m - 1 ≡ n + 1 = omega (arith, place v (n + 2) w m e) in
    rw back (eqb-true _ _ hb)
feeds_by false false true false t v n w m ho hf hb e less = never w m e
feeds_by false false false both t v n w m ho hf hb e less = never w m e

followed_feeds : (t : List ℕ) (p : Part) (w m : ℕ) → followed p (end_at t) ≡ Part.found w m → m < length t → get_or t (m - 1) 0 ≡ 10
unfolding end_at
followed_feeds t Part.none w m e less = never w m e
followed_feeds t (Part.found v n) w m e less =
    feeds_by (eqb n (length t)) (eqb (get_or t n 0) 10) (eqb (get_or t n 0) 13) (eqb (get_or t (n + 1) 0) 10) t v n w m refl refl refl e less

pub end_feeds : (t : List ℕ) (at most w m : ℕ) → field_and_end t at most ≡ Part.found w m → m < length t → get_or t (m - 1) 0 ≡ 10
end_feeds t at most w m e less = followed_feeds t (field_at t at most) w m e less

followed_says : (p : Part) (next : ℕ → ℕ → Part) (at most w m : ℕ) → ((v n : ℕ) → p ≡ Part.found v n → Says at most v n)
    → ((v n : ℕ) → next v n ≡ Part.found w m → After v n w m)
    → followed p next ≡ Part.found w m → Says at most w m
followed_says Part.none next at most w m first then e = never w m e
followed_says (Part.found v n) next at most w m first then e =
    let before = first v n refl in
    let after = then v n e in
    (omega arith, omega arith)

pub comma_found : (t : List ℕ) (at most w m : ℕ) → field_and_comma t at most ≡ Part.found w m → Says at most w m
comma_found t at most w m e = followed_says (field_at t at most) (comma_at t) at most w m (field_says t at most) (λ v n. comma_says t v n w m) e

pub end_found : (t : List ℕ) (at most w m : ℕ) → field_and_end t at most ≡ Part.found w m → Says at most w m
end_found t at most w m e = followed_says (field_at t at most) (end_at t) at most w m (field_says t at most) (λ v n. end_says t v n w m) e
