-- What a conversion promises: the same value at every point, by the only whole coefficients that have it, and the way back.
use Rattle.std.specs.Prelude.{◌≡◌, true, false, ◌↔◌, List, map, ℕ, ◌≤◌, ◌<◌, ◌%◌, ℤ, pos, nat_abs, length, get_or}
use Rattle.algebra.specs.Allowed.{HasParity}
use Rattle.algebra.specs.Homomorphism.{Homomorphism}
use Rattle.algebra.specs.Magnitude.{sum_abs}
use Rattle.algebra.specs.Operations.{whole_ops}
use Rattle.algebra.specs.Ring.{Ring}
use Rattle.algebra.specs.Value.{value}
use Rattle.algebra.specs.declared.Basis.{Basis}
use Rattle.algebra.specs.declared.Basis.TheVariants.{Chebyshev}
use Rattle.algebra.specs.declared.Parity.{Parity}
use Rattle.bases.specs.Rows.{other, denominator}
use Rattle.bases.specs.Convert.{is_whole, converted}

-- d, written in `to`, has the value of c, written in the other basis, at every whole number
abbrev pub SameAtWholes : (to : Basis) → (c d : List ℤ) → Type 0
SameAtWholes to c d = (x : ℤ) → value whole_ops to x d ≡ value whole_ops (other to) x c

-- and at every point of every ring that the whole numbers map to, such as the fractions
abbrev pub SameEverywhere : (to : Basis) → (c d : List ℤ) → Type 1
SameEverywhere to c d = (B : Type 0) (𝓡 : Ring B) (φ : ℤ → B) → Homomorphism whole_ops 𝓡.ops φ → (x : B)
    → value 𝓡.ops to x (map φ d) ≡ value 𝓡.ops (other to) x (map φ c)

-- ---- the value is kept

-- a conversion keeps the length, and the value everywhere
pub record Kept (to : Basis) (c : List ℤ) : Type 1 where
  pub same_length : length (converted to c) ≡ length c
  pub at_wholes : SameAtWholes to c (converted to c)
  pub everywhere : SameEverywhere to c (converted to c)

abbrev pub ValuesKept : Type 1
ValuesKept = (to : Basis) (c : List ℤ) → is_whole to c ≡ true → Kept to c

-- a polynomial of a parity in one basis has it in the other
abbrev pub ParityKept : Type 0
ParityKept = (to : Basis) (parity : Parity) (c : List ℤ) → HasParity whole_ops parity c → HasParity whole_ops parity (converted to c)

-- ---- there are no others

-- if d has as many whole coefficients as c and its value at every whole number, then c converts to whole ones, and they are d's
pub record OnlyThese (to : Basis) (c d : List ℤ) : Type 0 where
  pub whole : is_whole to c ≡ true
  pub these : d ≡ converted to c

abbrev pub OnlyOne : Type 0
OnlyOne = (to : Basis) (c d : List ℤ) → length d ≡ length c → SameAtWholes to c d → OnlyThese to c d

-- c does not convert to whole coefficients exactly if there are none with its value
abbrev pub NoneWhole : Type 0
NoneWhole = (to : Basis) (c : List ℤ) → (is_whole to c ≡ false) ↔ ((d : List ℤ) → length d ≡ length c → SameAtWholes to c d → ⊥)

-- it does exactly if each coefficient is a multiple of its element's denominator: if 2^(j-1) divides c_j for each j ≥ 1, and to the powers of x always
abbrev pub WholeExactlyIf : Type 0
WholeExactlyIf = (to : Basis) (c : List ℤ) → (is_whole to c ≡ true) ↔ ((j : ℕ) → j < length c → nat_abs (get_or c j (pos 0)) % denominator to j ≡ 0)

-- ---- there and back

-- what was converted converts back to whole coefficients, and they are the first ones
pub record Back (to : Basis) (c : List ℤ) : Type 0 where
  pub whole : is_whole (other to) (converted to c) ≡ true
  pub same : converted (other to) (converted to c) ≡ c

abbrev pub ThereAndBack : Type 0
ThereAndBack = (to : Basis) (c : List ℤ) → is_whole to c ≡ true → Back to c

-- ---- how large they are

-- written in the T_i, the magnitudes sum to no more than before
abbrev pub NoLarger : Type 0
NoLarger = (c : List ℤ) → is_whole Chebyshev c ≡ true → sum_abs (converted Chebyshev c) ≤ sum_abs c
