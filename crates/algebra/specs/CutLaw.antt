-- A cut keeps the value: that of c is that of low plus power p times that of high.
use Rattle.std.specs.Prelude.{◌≡◌, List, ℕ, suc, ◌+◌, ◌≤◌, length, take, drop}
use Rattle.algebra.specs.Ring.{Ring}
use Rattle.algebra.specs.Power.{power}
use Rattle.algebra.specs.Value.{value}
use Rattle.algebra.specs.Cut.{cut_at}
use Rattle.algebra.specs.declared.Basis.{Basis}

-- over every ring, where high is no longer than low and one
abbrev pub CutLaw : {A : Type 0} → Ring A → Type 0
CutLaw {A} 𝓡 = (x : A) (p : ℕ) (c : List A) (basis : Basis) → p ≤ length c → length c ≤ p + suc p
    → value 𝓡.ops basis x c
    ≡ 𝓡.ops.add (value 𝓡.ops basis x (take p (cut_at 𝓡.ops basis p c)))
    (𝓡.ops.mul (power 𝓡.ops basis x p) (value 𝓡.ops basis x (drop p (cut_at 𝓡.ops basis p c))))
