-- The answer as the C interface gives it: the refusal's number, or 0 and the values; after a refusal every value is 0.
use Rattle.rules.specs.Refusals.{Judged}
use Rattle.rules.specs.Draw as draws
use Rattle.c_draw.specs.declared.Drawn.{Drawn}

abbrev pub drawn_from : Judged draws.Drawn → Drawn
drawn_from (Judged.refused k) = record { refusal = k; n = 0; rest = 0 }
drawn_from (Judged.given d) = record { refusal = 0; n = d.sample_size; rest = d.rest }
