-- A power from two smaller ones, in each basis: X^(a+b) = X^a·X^b, and T_(a+b) = 2·T_a·T_b - T_|a−b|.
use mathlib.Core.Path.{◌≡◌, refl}
use mathlib.Core.List.{[], ◌∷◌}
use Prim.Native.Nat.{ℕ, ◌+◌}
use Rattle.algebra.specs.Distance.{distance_of}
use Rattle.algebra.specs.Power.{power}
use Rattle.algebra.specs.ProductLaw.{product_of, ProductLaw}
use Rattle.algebra.specs.Ring.{Ring}
use Rattle.algebra.specs.declared.Basis.{Basis}
use Rattle.algebra.specs.declared.Basis.TheVariants.{Monomial, Chebyshev}
use Rattle.algebra.proofs.Chebyshev.{cheb_product_distance}
use Rattle.algebra.proofs.Powers.{pow-add}
use Rattle.algebra.proofs.Solve.{◌:=◌, num, ◌:+◌, ◌:-◌, ◌:*◌, :-◌, from}

module _ {A : Type 0} (𝓡 : Ring A) (x : A) where
  open 𝓡 use {ops}

  -- power a + b of a basis from powers a, b and their distance
  pub power_product : (basis : Basis) (a b : ℕ)
      → power ops basis x (a + b) ≡ product_of ops basis (power ops basis x a) (power ops basis x b) (power ops basis x (distance_of a b))
  power_product Monomial a b = pow-add 𝓡 x a b
  power_product Chebyshev a b =
      from 𝓡 (power ops Chebyshev x a ∷ power ops Chebyshev x b ∷ power ops Chebyshev x (a + b) ∷ power ops Chebyshev x (distance_of a b) ∷ [])
      (λ u v s d. s := num 2 :* (u :* v) :- d)
      (λ u v s d. (:- num 1, num 2 :* (u :* v) := s :+ d) ∷ [])
      refl (cheb_product_distance 𝓡 x a b, tt)

pub product_law : {A : Type 0} (𝓡 : Ring A) → ProductLaw 𝓡
product_law 𝓡 x basis a b = power_product 𝓡 x basis a b
