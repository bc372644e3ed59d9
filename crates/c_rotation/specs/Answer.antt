-- The answer as the C interface gives it: the refusal's number, or 0 and the values; after a refusal every value is 0.
use Rattle.rules.specs.Refusals.{Judged}
use Rattle.rules.specs.Rotation as rotations
use Rattle.c_rotation.specs.declared.Rotated.{Rotated}

abbrev pub rotated_from : Judged rotations.Rotated → Rotated
rotated_from (Judged.refused n) = record { refusal = n; k = 0; start = 0; count = 0 }
rotated_from (Judged.given r) = record { refusal = 0; k = r.step; start = r.start; count = r.leaving }
