-- The length of a fold and the coefficient at each of its places. By recursion on the list; nothing is asked of the operations.
use mathlib.Core.Path.{◌≡◌, refl, ◌∙◌, ap}
use mathlib.Core.List.{List, [], ◌∷◌}
use Prim.Native.Nat.{ℕ, zero, suc, ◌+◌, ◌*◌, ◌/◌, ◌<◌}
use native.Mathlib.Nat.{add-zero}
use native.Mathlib.Omega.{arith}
use lib.ListN.{length, get_or, drop}
use Rattle.algebra.specs.Fold.{every_second, folded_length, add_r, sum_rFrom, fold}
use Rattle.algebra.specs.Operations.{Operations}
use Rattle.algebra.specs.declared.Basis.{Basis}
use Rattle.algebra.specs.declared.Basis.TheVariants.{Monomial, Chebyshev}
use Rattle.algebra.specs.declared.Parity.{Parity}
use Rattle.algebra.specs.declared.Parity.TheVariants.{Full, Even, Odd}

-- every second element: half of them, rounded up
pub length_every_second : {A : Type 0} (c : List A) → length (every_second c) ≡ (length c + 1) / 2
unfolding every_second
length_every_second [] = refl
length_every_second (a ∷ []) = refl
length_every_second (a ∷ b ∷ c) = omega (arith, length_every_second c)

-- place i is place 2i of the whole
pub get_d_every_second : {A : Type 0} (c : List A) (i : ℕ) (d : A) → get_or (every_second c) i d ≡ get_or c (2 * i) d
unfolding every_second
get_d_every_second [] i d = refl
get_d_every_second (a ∷ []) zero d = refl
get_d_every_second (a ∷ []) (suc i) d = let e : 2 * suc i ≡ suc (2 * i + 1) = omega arith in rw e
get_d_every_second (a ∷ b ∷ c) zero d = refl
get_d_every_second (a ∷ b ∷ c) (suc i) d = let e : 2 * suc i ≡ suc (suc (2 * i)) = omega arith in rw e (get_d_every_second c i d)

module _ {A : Type 0} (𝓞 : Operations A) where
  -- Σ o_k·R_k has as many coefficients as o
  pub length_sum_rFrom : (i : ℕ) (o : List A) → length (sum_rFrom 𝓞 i o) ≡ length o
  unfolding sum_rFrom
  length_sum_rFrom i [] = refl
  length_sum_rFrom i (o ∷ os) = ap suc (length_sum_rFrom (suc i) os)

  length_odd : (c : List A) → length (every_second (drop 1 c)) ≡ length c / 2
  unfolding every_second
  length_odd [] = refl
  length_odd (a ∷ c) = omega (arith, length_every_second c)

  -- a fold's length
  pub fold_length : (parity : Parity) (basis : Basis) (c : List A) → length (fold 𝓞 parity basis c) ≡ folded_length parity (length c)
  unfolding fold folded_length
  fold_length Full basis c = refl
  fold_length Even basis c = length_every_second c
  fold_length Odd Monomial c = length_odd c
  fold_length Odd Chebyshev c = length_sum_rFrom 0 (every_second (drop 1 c)) ∙ length_odd c

  -- place i of Σ o_k·R_k is summed from k = i on
  pub get_d_sum_rFrom : (m : ℕ) (o : List A) (i : ℕ) (d : A) → i < length o → get_or (sum_rFrom 𝓞 m o) i d ≡ add_r 𝓞 (m + i) (m + i) 𝓞.zero (drop i o)
  unfolding sum_rFrom
  get_d_sum_rFrom m [] i d h = absurd (omega arith)
  get_d_sum_rFrom m (o ∷ os) zero d h = rw add-zero
  get_d_sum_rFrom m (o ∷ os) (suc i) d h =
      let e : suc m + i ≡ m + suc i = omega arith in
      get_d_sum_rFrom (suc m) os i d (omega arith) ∙ ap (λ n. add_r 𝓞 n n 𝓞.zero (drop i os)) e
