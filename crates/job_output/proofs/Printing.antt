-- What is answered, by whether the buffer has room for the text.
use Prim.Native.Nat.{ℕ, ◌≤◌, ◌<◌}
use mathlib.Core.Path.{◌≡◌, ap}
use mathlib.Core.List.{List}
use lib.ListN.{length}
use borrow.Author.Tests.{lt-ltb, le-ltb}
use Rattle.rules.specs.Refusals.{Judged, written}
use Rattle.rules.specs.Job.{output}
use Rattle.rules.proofs.Refusals.{refuse_on, refuse_off}
use Rattle.job_output.specs.Printed.{print_refusal, print_answer, printed_on}

module _ (stream out : List ℕ) where
  pub short : length out < length (output stream) → (Judged.refused 6 ≡ print_answer stream out) × (out ≡ printed_on stream out)
  unfolding print_answer printed_on print_refusal
  short h =
      let six = refuse_on _ 6 (lt-ltb _ _ h) in
      (rw six, rw six)

  pub fits : (bytes : ℕ) (after : List ℕ) → bytes ≡ length (output stream) → length (output stream) ≤ length out
      → after ≡ written 0 (output stream) out → (Judged.given bytes ≡ print_answer stream out) × (after ≡ printed_on stream out)
  unfolding print_answer printed_on print_refusal
  fits bytes after e h t =
      let none = refuse_off _ 6 (le-ltb _ _ h) in
      (rw none (ap Judged.given e), rw none t)
