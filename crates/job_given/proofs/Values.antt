-- 20 and 18 by the counts that the code holds: the job's lists are the first places of its arrays.
use Prim.Native.Nat.{ℕ, ◌≤◌, ◌<◌, min}
use mathlib.Core.Bool.{cond}
use native.Mathlib.Omega.{arith}
use mathlib.Core.Path.{◌≡◌, sym}
use mathlib.Core.List.{List}
use lib.ListN.{length, take}
use lib.Dec.{leb, ltb}
use borrow.Author.Tests.{le-leb, lt-leb, lt-ltb, le-ltb}
use Rattle.std.specs.Prelude.{Option, Some, None}
use Rattle.rules.specs.Limits.{most_held, most_panel}
use Rattle.rules.specs.Refusals.{refuse}
use Rattle.rules.specs.Job.{place_refusal}
use Rattle.rules.proofs.Tests.{by_order}
use Rattle.rules.proofs.Refusals.{refuse_on, refuse_off}
use Rattle.job_state.specs.declared.Job.{Job}
use Rattle.job_state.specs.State.{job_of}
use Rattle.job_state.proofs.FirstPlaces.{named}

module _ (l : List ℕ) (units : ℕ) (h : length l ≡ most_held) where
  pub full : most_held ≤ units → 20 ≡ refuse (leb most_held (length (take units l))) 20
  full f =
      let all : most_held ≤ length (take units l) = omega (arith, named l units most_held h) in
      sym (refuse_on _ 20 (le-leb _ _ all))

  pub not_full : units < most_held → refuse (leb most_held (length (take units l))) 20 ≡ 0
  not_full f =
      let fewer : length (take units l) < most_held = omega (arith, named l units most_held h) in
      refuse_off _ 20 (lt-leb _ _ fewer)

-- what is told of a place: it is found where it names a unit of the panel
module _ (j : Job) (place : ℕ) (h : length j.panel.weights ≡ most_panel) (told : Option ℕ)
    (e : told ≡ cond (ltb place (min j.panel.size most_panel)) (Some place) None) where
  abbrev size : ℕ
  size = min j.panel.size most_panel

  pub beyond : ((at : ℕ) → told ≡ Some at → ⊥) → 18 ≡ place_refusal (job_of j) place
  unfolding place_refusal
  beyond none =
      by_order place size
      (λ less. absurd (none place (rw (lt-ltb place size less) at e)))
      (λ f.
      let all : length (job_of j).panel ≤ place = omega (arith, named j.panel.weights j.panel.size most_panel h) in
      sym (refuse_on _ 18 (le-leb _ _ all)))

  pub record Among (at : ℕ) : Type 0 where
    pub same : at ≡ place
    pub within : place < j.panel.size
    pub accepted : place_refusal (job_of j) place ≡ 0

  pub among : (at : ℕ) → told ≡ Some at → Among at
  unfolding place_refusal
  among at found =
      by_order place size
      (λ less.
      let is : told ≡ Some place = rw (lt-ltb place size less) at e in
      let more : place < length (job_of j).panel = omega (arith, named j.panel.weights j.panel.size most_panel h) in
      record { same = cc; within = omega arith; accepted = refuse_off _ 18 (lt-leb _ _ more) })
      (λ f.
      let is : told ≡ None = rw (le-ltb place size f) at e in
      let no : ◌≡◌ {A = ℕ} 0 1 = cc in absurd (omega arith))
