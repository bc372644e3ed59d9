-- Units on a short list.
use Rattle.std.specs.Prelude.{ℕ}

abbrev pub list_room : ℕ
list_room = 256
