-- A whole polynomial, given in the other basis and written in `to` (docs/RULES.md, "The other basis").
use Rattle.std.specs.Prelude.{Bool, true, ◌&&◌, List, [], ◌∷◌, ℕ, zero, suc, ◌%◌, eqb, ℤ, pos, nat_abs, ◌*ℤ◌, length, get_or}
use Rattle.std.specs.Int.Signed.{quot_z}
use Rattle.algebra.specs.Operations.{whole_ops}
use Rattle.algebra.specs.Value.{sum}
use Rattle.algebra.specs.declared.Basis.{Basis}
use Rattle.bases.specs.Rows.{denominator, row_of}

-- whether each coefficient of a list that begins at place n is a multiple of its element's denominator
unfoldable pub whole_from : (to : Basis) → (n : ℕ) → List ℤ → Bool
whole_from to n [] = true
whole_from to n (z ∷ c) = eqb (nat_abs z % denominator to n) 0 && whole_from to (suc n) c

-- whether the new coefficients are whole
abbrev pub is_whole : (to : Basis) → List ℤ → Bool
is_whole to c = whole_from to 0 c

-- coefficient n divided by its element's denominator
abbrev pub quotient_of : (to : Basis) → (n : ℕ) → ℤ → ℤ
quotient_of to n z = quot_z z (pos (denominator to n))

-- the new coefficient i: the sum of the quotients, each times coefficient i of its element's row
unfoldable pub new_coefficient : (to : Basis) → List ℤ → (i : ℕ) → ℤ
new_coefficient to c i = sum whole_ops (λ n. quotient_of to n (get_or c n (pos 0)) *ℤ row_of whole_ops to n i) (length c)

-- f 0, f 1, .., f (n - 1)
unfoldable pub tabulate : {A : Type 0} → (n : ℕ) → (ℕ → A) → List A
tabulate zero f = []
tabulate (suc n) f = f 0 ∷ tabulate n (λ i. f (suc i))

-- as many new coefficients as there are old ones
abbrev pub converted : (to : Basis) → List ℤ → List ℤ
converted to c = tabulate (length c) (new_coefficient to c)
