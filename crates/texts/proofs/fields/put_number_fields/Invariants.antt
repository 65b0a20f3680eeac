use Rattle.texts.specs.Decimal.{decimal}
use Rattle.texts.proofs.TextLaws.{FieldsSoFar}
use Rattle.texts.proofs.fields.put_number_fields.Given as goal

abbrev pub invariant-loop-n : goal.invariant-loop-n
invariant-loop-n l = FieldsSoFar decimal l.ns l.from l.initial.out l.out l.at l.n-index
