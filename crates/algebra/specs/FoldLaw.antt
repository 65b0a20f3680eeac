-- A fold keeps the value: that of the folded polynomial at the transform's y, multiplied by x where the transform says so, is that of c at x.
use Rattle.std.specs.Prelude.{◌≡◌, List}
use Rattle.algebra.specs.Ring.{Ring}
use Rattle.algebra.specs.Value.{value}
use Rattle.algebra.specs.Allowed.{HasParity}
use Rattle.algebra.specs.Fold.{fold}
use Rattle.algebra.specs.Transform.{transform_of, input_of, output_of}
use Rattle.algebra.specs.declared.Basis.{Basis}
use Rattle.algebra.specs.declared.Parity.{Parity}

-- over every ring, where the coefficients at the places that the parity doesn't allow are zero
abbrev pub FoldLaw : {A : Type 0} → Ring A → Type 0
FoldLaw {A} 𝓡 = (parity : Parity) (basis : Basis) (x : A) (c : List A) → HasParity 𝓡.ops parity c
    → output_of 𝓡.ops (transform_of parity basis) x
    (value 𝓡.ops basis (input_of 𝓡.ops (transform_of parity basis) x) (fold 𝓡.ops parity basis c))
    ≡ value 𝓡.ops basis x c
