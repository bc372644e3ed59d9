-- Document 01, "Job stream": what a writer laid, from its place on into the buffer that was lent to it.
use Rattle.std.specs.Prelude.{ℕ, ◌+◌, ◌≡◌, ◌≤◌, List, length}
use Rattle.text_decimal.specs.Put.{Put}
use Rattle.text_decimal.specs.declared.Writer.{Writer}

-- there is room for so many bytes more
abbrev pub Room : Writer → ℕ → Type 0
Room w n = w.at + n ≤ length w.out.now

-- a text was laid by a writer within its buffer, which is the one that it held, no longer and no shorter
pub record Wrote (before : Writer) (text : List ℕ) (after : Writer) : Type 0 where
  pub put : Put before.at text before.out.now after.out.now after.at
  pub within : after.at ≤ length before.out.now
  pub size : length after.out.now ≡ length before.out.now
  pub same : after.out.ghost_name ≡ before.out.ghost_name
