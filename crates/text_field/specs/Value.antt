-- Document 02, [14]: what the code's part of a line is in the definitions of `rules`.
use Rattle.std.specs.Prelude.{ℕ, ◌≡◌, Option, Some, None}
use Rattle.rules.specs.Register.{Part as RulesPart}
use Rattle.text_field.specs.declared.Cursor.{Cursor}

-- a number and the offset after it, or nothing of the form
abbrev pub part_from : Option ℕ → ℕ → RulesPart
part_from None at = RulesPart.none
part_from (Some v) at = RulesPart.found v at

-- a part of the text that a cursor holds was read, and the cursor holds the text still; where nothing of the form stands there, the offset stays
pub record Read (before after : Cursor) (found : Option ℕ) (part : RulesPart) : Type 0 where
  pub same : after.text ≡ before.text
  pub is : part_from found after.at ≡ part
  pub kept : found ≡ None → after.at ≡ before.at
