-- The value of a polynomial at x by Horner's rule or by Clenshaw's, over any numbers: each operation stands in the source's order.
use Rattle.std.specs.Prelude.{List, [], ◌∷◌}
use Rattle.algebra.specs.Operations.{Operations, double}
use Rattle.algebra.specs.declared.Basis.{Basis}
use Rattle.algebra.specs.declared.Basis.TheVariants.{Monomial, Chebyshev}

-- Clenshaw's two numbers: b_i and b_(i+1)
pub record Pair (A : Type 0) : Type 0 where
  pub b1 : A
  pub b2 : A

module _ {A : Type 0} (𝓞 : Operations A) where
  -- Horner: y·x + c from the last coefficient to the first; no coefficient gives zero
  unfoldable pub horner : A → List A → A
  horner x [] = 𝓞.zero
  horner x (c ∷ cs) = 𝓞.add (𝓞.mul (horner x cs) x) c

  -- b_i = 2x·b_(i+1) - b_(i+2) + c_i
  abbrev pub next_clenshaw_pair : A → A → Pair A → Pair A
  next_clenshaw_pair x c p = record { b1 = 𝓞.add (𝓞.sub (𝓞.mul (double 𝓞 x) p.b1) p.b2) c; b2 = p.b1 }

  -- the pair at the first of these coefficients, past the last of which both numbers are zero
  unfoldable pub clenshaw_pair : A → List A → Pair A
  clenshaw_pair x [] = record { b1 = 𝓞.zero; b2 = 𝓞.zero }
  clenshaw_pair x (c ∷ cs) = next_clenshaw_pair x c (clenshaw_pair x cs)

  -- c_0 + x·b_1 - b_2
  abbrev pub last_term : A → A → Pair A → A
  last_term x c p = 𝓞.sub (𝓞.add c (𝓞.mul x p.b1)) p.b2

  -- Clenshaw: no coefficient gives zero, and one is returned as it is
  unfoldable pub clenshaw : A → List A → A
  clenshaw x [] = 𝓞.zero
  clenshaw x (c ∷ []) = c
  clenshaw x (c ∷ d ∷ cs) = last_term x c (clenshaw_pair x (d ∷ cs))

  -- Horner's rule for x^j, Clenshaw's for T_j
  abbrev pub evaluate : Basis → List A → A → A
  evaluate Monomial c x = horner x c
  evaluate Chebyshev c x = clenshaw x c
