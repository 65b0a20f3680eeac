-- Folding (docs/RULES.md, "Folding"): a polynomial of one parity in x becomes one of half the degree in y = x² or y = T_2(x), of parity Full.
use Rattle.std.specs.Prelude.{List, [], ◌∷◌, ℕ, zero, suc, ◌+◌, ◌/◌, drop}
use Rattle.algebra.specs.Operations.{Operations, two, double}
use Rattle.algebra.specs.declared.Basis.{Basis}
use Rattle.algebra.specs.declared.Basis.TheVariants.{Monomial, Chebyshev}
use Rattle.algebra.specs.declared.Parity.{Parity}
use Rattle.algebra.specs.declared.Parity.TheVariants.{Full, Even, Odd}

-- every second element, from the first
unfoldable pub every_second : {A : Type 0} → List A → List A
every_second [] = []
every_second (a ∷ []) = a ∷ []
every_second (a ∷ b ∷ c) = a ∷ every_second c

-- how many coefficients n fold to: every second one, from the first for Even and from the second for Odd
unfoldable pub folded_length : Parity → (n : ℕ) → ℕ
folded_length Full n = n
folded_length Even n = (n + 1) / 2
folded_length Odd n = n / 2

module _ {A : Type 0} (𝓞 : Operations A) where
  -- 2T_1·Σ r_i·T_i, coefficient by coefficient: T_i gives T_(i-1) and T_(i+1), and T_0 gives T_1 twice
  abbrev pub times2_t1 : (ℕ → A) → ℕ → A
  times2_t1 r zero = 𝓞.add 𝓞.zero (r 1)
  times2_t1 r (suc zero) = 𝓞.add (𝓞.add 𝓞.zero (double 𝓞 (r 0))) (r 2)
  times2_t1 r (suc (suc i)) = 𝓞.add (𝓞.add 𝓞.zero (r (suc i))) (r (suc (suc (suc i))))

  -- coefficient i of R_k: R_0 = 1, R_1 = 2T_1 - T_0, R_(k+2) = 2T_1·R_(k+1) - R_k
  unfoldable pub coeff_r : ℕ → ℕ → A
  coeff_r zero zero = 𝓞.one
  coeff_r zero (suc i) = 𝓞.zero
  coeff_r (suc zero) zero = 𝓞.neg 𝓞.one
  coeff_r (suc zero) (suc zero) = two 𝓞
  coeff_r (suc zero) (suc (suc i)) = 𝓞.zero
  coeff_r (suc (suc k)) i = 𝓞.sub (times2_t1 (coeff_r (suc k)) i) (coeff_r k i)

  -- acc + o_0·R_k[i] + o_1·R_(k+1)[i] + .., from the left
  unfoldable pub add_r : ℕ → ℕ → A → List A → A
  add_r i k acc [] = acc
  add_r i k acc (o ∷ os) = add_r i (suc k) (𝓞.add acc (𝓞.mul o (coeff_r k i))) os

  -- Σ o_k·R_k from coefficient i on: R_k has none above k, so coefficient i sums from k = i, and the list is what is left of o there
  unfoldable pub sum_rFrom : ℕ → List A → List A
  sum_rFrom i [] = []
  sum_rFrom i (o ∷ os) = add_r i i 𝓞.zero (o ∷ os) ∷ sum_rFrom (suc i) os

  -- the folded coefficients
  unfoldable pub fold : Parity → Basis → List A → List A
  fold Full basis c = c
  fold Even basis c = every_second c
  fold Odd Monomial c = every_second (drop 1 c)
  fold Odd Chebyshev c = sum_rFrom 0 (every_second (drop 1 c))
