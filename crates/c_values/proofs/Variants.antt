-- An answer taken apart by its variants: what is known of the answer is known of the variant that it was found to be.
use mathlib.Core.Path.{◌≡◌, sym, ap, ◌∙◌}

module _ {A J C : Type 0} (from : A → J) (to : J → C) where
  pub told : {x y : A} {j : J} → x ≡ y → from x ≡ j → to (from y) ≡ to j
  told same e = ap (λ (a : A). to (from a)) (sym same) ∙ ap to e
