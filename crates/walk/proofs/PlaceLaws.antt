-- A place's weight, by whether it is the constant's.
use mathlib.Core.Path.{◌≡◌, refl}
use Prim.Native.Nat.{ℕ, zero, suc, max}
use native.Mathlib.Omega.{arith}
use Rattle.walk.specs.MadeRules.{place_made}
use Rattle.walk.specs.inside.Weights.{weight_making}

pub place_constant : (coeff sum j power : ℕ) → j ≡ 0 → sum ≡ place_made weight_making coeff sum j power
unfolding place_made
place_constant coeff sum zero power e = omega arith
place_constant coeff sum (suc j) power e = absurd (omega arith)

pub place_power : (coeff sum j power : ℕ) → (j ≡ 0 → ⊥) → max sum (weight_making.product coeff 0 power) ≡ place_made weight_making coeff sum j power
unfolding place_made
place_power coeff sum zero power e = absurd (e refl)
place_power coeff sum (suc j) power e = refl
