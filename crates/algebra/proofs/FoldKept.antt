-- A map that keeps zero and the sums of multiples by R_k keeps the fold: every second coefficient is taken whatever it is, and each place of an odd
-- Chebyshev fold is such a sum, term by term.
use mathlib.Core.Path.{◌≡◌, refl, ap, ap₂, ◌∙◌}
use mathlib.Core.List.{List, [], ◌∷◌, map}
use Prim.Native.Nat.{ℕ, suc}
use lib.ListN.{drop}
use Rattle.algebra.specs.Operations.{Operations}
use Rattle.algebra.specs.Fold.{every_second, add_r, sum_rFrom, fold}
use Rattle.algebra.specs.FoldKept.{KeepsFolds, FoldKept}
use Rattle.algebra.specs.declared.Basis.{Basis}
use Rattle.algebra.specs.declared.Basis.TheVariants.{Monomial, Chebyshev}
use Rattle.algebra.specs.declared.Parity.{Parity}
use Rattle.algebra.specs.declared.Parity.TheVariants.{Full, Even, Odd}
use Rattle.algebra.proofs.Maps.{map_drop, map_every_second}

-- ---- what a fold does beside sums

module _ {A B : Type 0} (𝓞 : Operations A) (𝓟 : Operations B) (φ : A → B) where
  odds_kept : (c : List A) → every_second (drop 1 (map φ c)) ≡ map φ (every_second (drop 1 c))
  odds_kept c = ap every_second (map_drop φ 1 c) ∙ map_every_second φ (drop 1 c)

  -- a map that keeps the sums over the odd coefficients keeps the fold
  pub fold_by_sums : (parity : Parity) (basis : Basis) (c : List A)
      → sum_rFrom 𝓟 0 (map φ (every_second (drop 1 c))) ≡ map φ (sum_rFrom 𝓞 0 (every_second (drop 1 c)))
      → fold 𝓟 parity basis (map φ c) ≡ map φ (fold 𝓞 parity basis c)
  unfolding fold
  fold_by_sums Full basis c sums = refl
  fold_by_sums Even basis c sums = map_every_second φ c
  fold_by_sums Odd Monomial c sums = odds_kept c
  fold_by_sums Odd Chebyshev c sums = ap (sum_rFrom 𝓟 0) (odds_kept c) ∙ sums

-- ---- the sums

module _ {A B : Type 0} (𝓞 : Operations A) (𝓟 : Operations B) (φ : A → B) (keeps : KeepsFolds 𝓞 𝓟 φ) where
  -- a place, from any term on
  added_kept : (i k : ℕ) (sum : A) (os : List A) → add_r 𝓟 i k (φ sum) (map φ os) ≡ φ (add_r 𝓞 i k sum os)
  unfolding add_r
  added_kept i k sum [] = refl
  added_kept i k sum (o ∷ os) = ap (λ (s : B). add_r 𝓟 i (suc k) s (map φ os)) (keeps.added k i sum o) ∙ added_kept i (suc k) _ os

  places_kept : (i : ℕ) (os : List A) → sum_rFrom 𝓟 i (map φ os) ≡ map φ (sum_rFrom 𝓞 i os)
  unfolding sum_rFrom
  places_kept i [] = refl
  places_kept i (o ∷ os) =
      ap₂ ◌∷◌ (ap (λ (s : B). add_r 𝓟 i i s (map φ (o ∷ os))) keeps.zero ∙ added_kept i i 𝓞.zero (o ∷ os)) (places_kept (suc i) os)

pub fold_kept : (A B : Type 0) → FoldKept A B
fold_kept A B 𝓞 𝓟 φ keeps parity basis c = fold_by_sums 𝓞 𝓟 φ parity basis c (places_kept 𝓞 𝓟 φ keeps 0 (every_second (drop 1 c)))
