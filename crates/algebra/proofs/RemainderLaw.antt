-- A value's remainder is the value of the remainders: taking remainders keeps each operation that a value is built of.
use Rattle.algebra.specs.RemainderLaw.{RemainderLaw}
use Rattle.algebra.proofs.Homomorphism.{hom_value, remainder_homomorphism}

pub value_mod : RemainderLaw
value_mod m positive = hom_value (remainder_homomorphism m positive)
