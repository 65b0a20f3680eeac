-- The cut of a coefficient list at p (docs/RULES.md, "Factorising and listing"): value = value of low + power p · value of high.
use Rattle.std.specs.Prelude.{List, [], ◌∷◌, ◌++◌, map, reverse, ℕ, suc, take, drop}
use Rattle.algebra.specs.Operations.{Operations, double}
use Rattle.algebra.specs.declared.Basis.{Basis}
use Rattle.algebra.specs.declared.Basis.TheVariants.{Monomial, Chebyshev}

module _ {A : Type 0} (𝓞 : Operations A) where
  -- each element less the one at its place in the second list, where that has one
  unfoldable pub differences : List A → List A → List A
  differences [] ys = []
  differences (x ∷ xs) [] = x ∷ xs
  differences (x ∷ xs) (y ∷ ys) = 𝓞.sub x y ∷ differences xs ys

  -- q_0 = c_p, and q_j = 2·c_(p+j) for j ≥ 1; here of the list from p on
  unfoldable pub doubled : List A → List A
  doubled [] = []
  doubled (x ∷ xs) = x ∷ map (double 𝓞) xs

  -- r: the first p coefficients, of which r_(p-j) loses c_(p+j). Counted from p downwards that is place by place.
  unfoldable pub lowered : ℕ → List A → List A
  lowered p c = reverse (differences (reverse (take p c)) (drop (suc p) c))

  -- what stands in the coefficients' places after the cut: low, then high
  unfoldable pub cut_at : Basis → ℕ → List A → List A
  cut_at Monomial p c = c
  cut_at Chebyshev p c = lowered p c ++ doubled (drop p c)
