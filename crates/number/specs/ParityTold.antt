-- What the test of a parity says: of refusal 4, and of parity detection.
use Rattle.std.specs.Prelude.{◌≡◌, true, false, List, ◌↔◌, ℕ, ◌<◌, ℤ, length, get_or}
use Rattle.algebra.specs.Operations.{whole_ops}
use Rattle.algebra.specs.Allowed.{allows, HasParity}
use Rattle.algebra.specs.declared.Parity.{Parity}
use Rattle.number.specs.Numbers.{Numbers, whole_numbers}
use Rattle.number.specs.Parity.{has_parity}

-- the coefficients at all places that the parity doesn't allow count as zero
abbrev pub OfParity : {A : Type 0} → Numbers A → Parity → List A → Type 0
OfParity numbers parity c = (j : ℕ) → j < length c → allows parity j ≡ false → numbers.is_zero (get_or c j numbers.ops.zero) ≡ true

-- coefficients, whole numbers or f64, pass the test of a parity exactly if it is so
abbrev pub TestTold : Type 0 → Type 0
TestTold A = (numbers : Numbers A) (parity : Parity) (c : List A) → (has_parity numbers parity c ≡ true) ↔ OfParity numbers parity c

-- whole coefficients pass it exactly if those at all places which it doesn't allow are zero, which is what the fold law asks for
abbrev pub ParityTold : Type 0
ParityTold = (parity : Parity) (c : List ℤ) → (has_parity whole_numbers parity c ≡ true) ↔ HasParity whole_ops parity c
