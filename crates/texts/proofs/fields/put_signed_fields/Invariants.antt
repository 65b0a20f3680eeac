use Prim.Native.Nat.{◌+◌, ◌*◌, ◌≤◌}
use Rattle.texts.specs.Decimal.{signed_decimal}
use Rattle.texts.proofs.TextLaws.{FieldsSoFar}
use Rattle.texts.proofs.fields.put_signed_fields.Given as goal

abbrev pub invariant-loop-z : goal.invariant-loop-z
invariant-loop-z l = FieldsSoFar signed_decimal l.c l.from l.initial.out l.out l.at l.z-index × (l.at ≤ l.from + l.z-index * 22)
