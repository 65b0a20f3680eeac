-- The sum of two polynomials has the sum of their values at every point, and the multiple has the multiple of the value.
use Rattle.std.specs.Prelude.{◌≡◌, List, length}
use Rattle.algebra.specs.Ring.{Ring}
use Rattle.algebra.specs.Value.{value}
use Rattle.algebra.specs.PolynomialSum.{sum_of, multiple_of}
use Rattle.algebra.specs.declared.Basis.{Basis}

-- over every ring, in both bases
pub record PolynomialSumLaw {A : Type 0} (𝓡 : Ring A) : Type 0 where
  pub sum_value : (basis : Basis) (x : A) (c d : List A) → length c ≡ length d
      → value 𝓡.ops basis x (sum_of 𝓡.ops c d) ≡ 𝓡.ops.add (value 𝓡.ops basis x c) (value 𝓡.ops basis x d)
  pub multiple_value : (basis : Basis) (x k : A) (c : List A)
      → value 𝓡.ops basis x (multiple_of 𝓡.ops k c) ≡ 𝓡.ops.mul k (value 𝓡.ops basis x c)
