-- The library's version as one number: 10,000 for each major, 100 for each minor and 1 for each patch (VOUGECRESS_VERSION in include/vougecress.h).
use Rattle.std.specs.Prelude.{ℕ}

abbrev pub library_version : ℕ
library_version = 30000
