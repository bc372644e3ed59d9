-- Document 02, [14]: the answer as C gets it. The offset comes with 34 alone, the count where nothing refuses.
use Rattle.rules.specs.Register.{Imported, import_number}
use Rattle.c_lines.specs.declared.Register.{Register}

abbrev pub register_from : Imported → Register
register_from (Imported.units n) = record { refusal = 0; count = n; offset = 0 }
register_from (Imported.bad_line at) = record { refusal = import_number (Imported.bad_line at); count = 0; offset = at }
register_from Imported.too_many = record { refusal = import_number Imported.too_many; count = 0; offset = 0 }
