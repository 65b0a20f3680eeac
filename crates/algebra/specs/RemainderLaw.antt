-- A value's remainder is the value of the remainders.
use Rattle.std.specs.Prelude.{◌≡◌, List, map, ℕ, ◌<◌, ℤ}
use Rattle.algebra.specs.Operations.{whole_ops}
use Rattle.algebra.specs.Value.{value}
use Rattle.algebra.specs.Remainder.{rem, remainders}
use Rattle.algebra.specs.declared.Basis.{Basis}

-- modulo m, of the coefficients' remainders at that of x
abbrev pub RemainderLaw : Type 0
RemainderLaw = (m : ℕ) → 0 < m → (basis : Basis) (x : ℤ) (c : List ℤ)
    → rem m (value whole_ops basis x c) ≡ value (remainders m) basis (rem m x) (map (rem m) c)
