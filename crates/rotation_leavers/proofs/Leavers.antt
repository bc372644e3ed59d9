-- The leavers' places in a lent list, their order, and their numbers place by place.
use mathlib.Core.Path.{◌≡◌, refl, ap, ◌∙◌}
use mathlib.Core.List.{List, [], ◌∷◌, ◌++◌}
use Prim.Native.Nat.{ℕ, zero, suc, ◌≤◌, ◌<◌}
use native.Mathlib.Nat.{le_of_suc-le-suc, not-suc-le-zero}
use native.Mathlib.Omega.{arith}
use lib.ListN.{length, get_or, take, drop, length-take}
use lib.Seq.{length-take-le, take_at}
use Rattle.rules.specs.Order.{ordered}
use Rattle.rules.specs.TakeAll.{larger}
use Rattle.draw_key.specs.declared.Setting.{Setting}
use Rattle.rotation_members.proofs.Filling.{fill_few, fill_held}
use Rattle.selection.proofs.Held.{held_room}
use Rattle.selection.proofs.Sums.{count_le, listed_length}
use Rattle.selection.proofs.Listed.{listed_under}
use Rattle.order.specs.InOrder.{Orderable, InOrder}
use Rattle.order.proofs.Each.{each_ordered}
use Rattle.order.proofs.Merged.{ordered_length}
use Rattle.rotation_step.specs.Leaving.{member_leaves, leaving}
use Rattle.rotation_leavers.specs.Leavers.{leaving_units, Listed, units_in_order, Ordered, Numbered, numbers_of}

module _ (numbers : List ℕ) where
  pub numbers_length_lem : (units : List ℕ) → length (numbers_of numbers units) ≡ length units
  unfolding numbers_of
  numbers_length_lem [] = refl
  numbers_length_lem (u ∷ us) = rw (numbers_length_lem us)

  pub number_at : (units : List ℕ) (j : ℕ) → j < length units → get_or (numbers_of numbers units) j 0 ≡ get_or numbers (get_or units j 0) 0
  unfolding numbers_of
  number_at [] j l = absurd (not-suc-le-zero l)
  number_at (u ∷ us) zero l = refl
  number_at (u ∷ us) (suc j) l = number_at us j (le_of_suc-le-suc l)

-- who leaves is a unit of the frame, as the members are, and they are as many as are counted
module _ (ts rs gs members : List ℕ) (s : Setting) where
  leaving_low :
      (bound : ℕ) → ((j : ℕ) → j < length members → get_or members j 0 < bound)
      → (j : ℕ) → j < length (leaving_units ts rs gs members s) → get_or (leaving_units ts rs gs members s) j 0 < bound
  unfolding leaving_units
  leaving_low bound low = listed_under (member_leaves ts rs gs members s) (λ j. get_or members j 0) bound (length members) low

  leaving_many : length (leaving_units ts rs gs members s) ≡ leaving ts rs gs members s
  unfolding leaving leaving_units
  leaving_many = listed_length (member_leaves ts rs gs members s) (λ j. get_or members j 0) (length members)

  leaving_few : leaving ts rs gs members s ≤ length members
  unfolding leaving
  leaving_few = count_le (member_leaves ts rs gs members s) (length members)

  pub in_order_many : length (units_in_order ts rs gs members s) ≡ leaving ts rs gs members s
  unfolding units_in_order
  in_order_many = ordered_length (larger ts) (leaving_units ts rs gs members s) ∙ leaving_many

  -- what `list` leaves can be put in order, and is then in front
  module _ (n : ℕ) (before after : List ℕ) (h : Listed ts rs gs members s before after n) where
    pub listed_room : n ≤ length after
    listed_room = held_room (fill_held h)

    pub front_length : length (take n after) ≡ n
    front_length = length-take-le n after listed_room

    listed_front : take n after ≡ leaving_units ts rs gs members s
    unfolding leaving_units
    listed_front = (fill_held h).units_are

    pub orderable :
        (buffer : List ℕ) → ((j : ℕ) → j < length members → get_or members j 0 < length ts) → length members ≤ length buffer
        → Orderable ts (take n after) buffer
    orderable buffer low fits = record {
      low = record { at = rw listed_front (leaving_low (length ts) low) };
      room = rw front_length (omega (arith, fill_few h));
    }

    pub put_in_order :
        (new : List ℕ) → length new ≡ length (take n after) → InOrder ts (take n after) new
        → Ordered ts rs gs members s (new ++ drop n after) n
    unfolding leaving units_in_order
    put_in_order new same o = record {
      many = h.many;
      front = take_at new (drop n after) n (same ∙ front_length) ∙ o.all ∙ ap (ordered (larger ts)) listed_front;
    }

  -- what is in order stands in the list, has numbers, and is no more than the members
  module _ (list : List ℕ) (n : ℕ) (o : Ordered ts rs gs members s list n) where
    pub ordered_room : n ≤ length list
    ordered_room = let l = ap length o.front in omega (arith, length-take n list, in_order_many, o.many)

    pub ordered_front : length (take n list) ≡ n
    ordered_front = length-take-le n list ordered_room

    pub ordered_few : length (take n list) ≤ length members
    ordered_few = rw ordered_front (omega (arith, o.many, leaving_few))

    pub ordered_numbered :
        (numbers : List ℕ) (units : ℕ) → length numbers ≡ units → ((j : ℕ) → j < length members → get_or members j 0 < units)
        → Numbered numbers (take n list)
    unfolding units_in_order
    ordered_numbered numbers units same low = record {
      at = rw (o.front, same) (each_ordered (λ u. u < units) (larger ts) (leaving_units ts rs gs members s) (leaving_low units low));
    }
