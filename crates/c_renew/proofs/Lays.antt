-- What a renewal lays over a list that holds a record: the number that it answers, and the list after it, by what the renewal on a lent record promises.
use mathlib.Core.Path.{◌≡◌, refl, ap, ◌∙◌}
use mathlib.Core.List.{List}
use Prim.Native.Nat.{ℕ, ◌≤◌}
use lib.ListN.{length}
use borrow.Author.Tests.{le-ltb}
use Rattle.rules.specs.Refusals.{refuse, ◌then◌, written}
use Rattle.rules.specs.Chain.{Chain}
use Rattle.rules.specs.Panel.{Panel}
use Rattle.rules.specs.Renewal.{renewal_refusal, renewed_record, renewal_after}
use Rattle.c_values.specs.Record.{record_places, record_in, record_list}
use Rattle.c_values.proofs.Places.{leaves}
use Rattle.c_renew.specs.Record.{renewed_number, renewed_list}

module _ (p : Panel) (xs : List ℕ) (room : record_places ≤ length xs) {r : Chain} (held : r ≡ record_in xs) {n : ℕ} (number : n ≡ renewal_refusal r p) where
  pub number_left : n ≡ renewed_number p xs
  unfolding renewed_number refuse ◌then◌
  number_left = rw (le-ltb (length xs) record_places room) (number ∙ ap (λ (s : Chain). renewal_refusal s p) held)

  pub list_left : {next : Chain} → next ≡ renewal_after r p → written n (record_list next) xs ≡ renewed_list p xs
  unfolding renewed_number renewed_list renewal_after refuse ◌then◌
  list_left left =
      let before = record_in xs in
      rw (le-ltb (length xs) record_places room) (leaves (renewal_refusal before p) before (renewed_record before p) xs
      (number ∙ ap (λ (s : Chain). renewal_refusal s p) held) (left ∙ ap (λ (s : Chain). renewal_after s p) held) refl)
