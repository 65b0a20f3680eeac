-- The published way to the T_i, from the top: the leading coefficient of T_n is 2^(n-1), for n ≥ 1, and the last coefficient divided by it is the last new
-- one. That many T_n are taken off, and what is left has one coefficient less. It gives the same.
use Rattle.std.specs.Prelude.{◌≡◌, true, List, [], ◌∷◌, ◌++◌, ℕ, ◌-◌, ◌^◌, ℤ, pos, ◌-ℤ◌, ◌*ℤ◌, length, get_or}
use Rattle.algebra.specs.Operations.{whole_ops}
use Rattle.algebra.specs.declared.Basis.TheVariants.{Monomial, Chebyshev}
use Rattle.bases.specs.Rows.{row_of}
use Rattle.bases.specs.Convert.{is_whole, quotient_of, tabulate, converted}

-- the leading coefficient of T_n
abbrev pub LeadingCoefficient : Type 0
LeadingCoefficient = (n : ℕ) → row_of whole_ops Monomial n n ≡ pos (2 ^ (n - 1))

-- what is left of c, below power n, when q times T_n is taken off
abbrev pub less_t : (n : ℕ) → (q : ℤ) → List ℤ → List ℤ
less_t n q c = tabulate n (λ i. get_or c i (pos 0) -ℤ q *ℤ row_of whole_ops Monomial n i)

-- one step, for c with a last coefficient z behind it
pub record TopFirst (c : List ℤ) (z : ℤ) : Type 0 where
  -- z is a multiple of the leading coefficient
  pub last : quotient_of Chebyshev (length c) z *ℤ row_of whole_ops Monomial (length c) (length c) ≡ z
  -- what is left is whole in the T_i too
  pub whole : is_whole Chebyshev (less_t (length c) (quotient_of Chebyshev (length c) z) c) ≡ true
  -- its new coefficients come first, and the quotient last
  pub is : converted Chebyshev (c ++ (z ∷ []))
      ≡ converted Chebyshev (less_t (length c) (quotient_of Chebyshev (length c) z) c) ++ (quotient_of Chebyshev (length c) z ∷ [])

abbrev pub FromTheTop : Type 0
FromTheTop = (c : List ℤ) (z : ℤ) → is_whole Chebyshev (c ++ (z ∷ [])) ≡ true → TopFirst c z
