-- What a step does, as the program decodes it.
use Rattle.std.specs.Prelude.{ℕ}
use Rattle.std.proofs.Math.Option.{Option, some, none}
use Rattle.number.specs.Options.{when}
use Rattle.walk.specs.Kinds.{Kind, make, load, combine, unknown, kind_of}
use Rattle.walk.specs.Walk.{unused_zero}
use Rattle.walk.specs.declared.plan.Step.{Step}
use Rattle.walk.specs.declared.plan.Instruction.{Instruction}
use Rattle.walk.specs.declared.plan.Instruction.TheVariants.{Make, Load, Combine}

-- by its kind; a load or a combine leaves its third and fourth number unused
abbrev pub instruction_by : Kind → (x y z : ℕ) → Option Instruction
instruction_by make x y z = some (Make x y z)
instruction_by load x y z = when (unused_zero y z) (some (Load x))
instruction_by (combine plain) x y z = when (unused_zero y z) (some (Combine plain x))
instruction_by unknown x y z = none

abbrev pub instruction_of : Step → Option Instruction
instruction_of step = instruction_by (kind_of step.kind) step.x step.y step.z
