-- Horner's and Clenshaw's rules give the value.
use Rattle.std.specs.Prelude.{◌≡◌, List}
use Rattle.algebra.specs.Ring.{Ring}
use Rattle.algebra.specs.Value.{value}
use Rattle.algebra.specs.declared.Basis.{Basis}
use Rattle.number.specs.Evaluate.{evaluate}

-- over every ring
abbrev pub EvaluateLaw : {A : Type 0} → Ring A → Type 0
EvaluateLaw {A} 𝓡 = (basis : Basis) (c : List A) (x : A) → evaluate 𝓡.ops basis c x ≡ value 𝓡.ops basis x c
