-- A power from two smaller ones (docs/RULES.md, "Steps and the walk"): X_a·X_b, or 2T_a·T_b − T_c with c the distance of a and b.
use Rattle.std.specs.Prelude.{◌≡◌, ℕ, ◌+◌}
use Rattle.algebra.specs.Operations.{Operations, double}
use Rattle.algebra.specs.Ring.{Ring}
use Rattle.algebra.specs.Power.{power}
use Rattle.algebra.specs.Distance.{distance_of}
use Rattle.algebra.specs.declared.Basis.{Basis}
use Rattle.algebra.specs.declared.Basis.TheVariants.{Monomial, Chebyshev}

-- what a basis makes of the powers a and b, and of the power at their distance, which only Chebyshev uses
abbrev pub product_of : {A : Type 0} → Operations A → Basis → A → A → A → A
product_of 𝓞 Monomial u v w = 𝓞.mul u v
product_of 𝓞 Chebyshev u v w = 𝓞.sub (double 𝓞 (𝓞.mul u v)) w

-- over every ring it is power a + b
abbrev pub ProductLaw : {A : Type 0} → Ring A → Type 0
ProductLaw {A} 𝓡 = (x : A) (basis : Basis) (a b : ℕ)
    → power 𝓡.ops basis x (a + b)
    ≡ product_of 𝓡.ops basis (power 𝓡.ops basis x a) (power 𝓡.ops basis x b) (power 𝓡.ops basis x (distance_of a b))
