-- The needed powers in a list (docs/RULES.md, "Choosing the split"): going down from the degree, each number is listed if it is a target or a part of
-- one that is listed already. Promises says that the list holds each needed power once, and nothing else.
use Rattle.std.specs.Prelude.{Bool, false, cond, ◌&&◌, ◌||◌, List, [], ◌∷◌, ℕ, zero, suc, ltb, leb, eqb, length}
use Rattle.algebra.specs.Allowed.{allows}
use Rattle.algebra.specs.declared.Basis.{Basis}
use Rattle.algebra.specs.declared.Basis.TheVariants.{Monomial, Chebyshev}
use Rattle.algebra.specs.declared.Parity.{Parity}
use Rattle.number.specs.Bits.{top_power}
use Rattle.number.specs.Split.{parts_of}
use Rattle.needed.specs.Needed.{baby_limit}

-- whether n is a target: the top power, 2^(L−1), if that is at least 2, or an allowed power from 3 below the limit, min(base, degree + 1)
unfoldable pub is_target : Parity → (top limit n : ℕ) → Bool
is_target parity top limit n = (eqb n top && leb 2 n) || (leb 3 n && (ltb n limit && allows parity n))

-- whether m is above 1 and a part of the split of n, or in Chebyshev the distance of the parts
unfoldable pub is_part : Basis → (n m : ℕ) → Bool
is_part Monomial n m = ltb 1 m && (eqb m (parts_of n).a || eqb m (parts_of n).b)
is_part Chebyshev n m = ltb 1 m && (eqb m (parts_of n).a || (eqb m (parts_of n).b || eqb m (parts_of n).distance))

-- whether m is a part of one of some numbers
unfoldable pub is_part_of_one : Basis → (ns : List ℕ) → (m : ℕ) → Bool
is_part_of_one basis [] m = false
is_part_of_one basis (n ∷ ns) m = is_part basis n m || is_part_of_one basis ns m

-- n, n − 1, .., 1 in turn, each put in front of the list of those above it if it is a target or a part of one of them
unfoldable pub listed_down : Basis → (is_target : ℕ → Bool) → (n : ℕ) → (above : List ℕ) → List ℕ
listed_down basis is_target zero above = above
listed_down basis is_target (suc n) above =
    listed_down basis is_target n (cond (is_target (suc n) || is_part_of_one basis above (suc n)) (suc n ∷ above) above)

-- the needed powers, rising
unfoldable pub needed_list : Parity → Basis → (degree split : ℕ) → List ℕ
needed_list parity basis degree split = listed_down basis (is_target parity (top_power degree) (baby_limit degree split)) degree []

-- their number
unfoldable pub needed_count : Parity → Basis → (degree split : ℕ) → ℕ
needed_count parity basis degree split = length (needed_list parity basis degree split)
