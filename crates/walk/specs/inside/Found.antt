-- An answer of the program that may not be there, as the definitions have it.
use Rattle.std.specs.Prelude.{Option as Answer, Some, None}
use Rattle.std.proofs.Math.Option.{Option, some, none}

abbrev pub found : {A : Type 0} → Answer A → Option A
found (Some v) = some v
found None = none
