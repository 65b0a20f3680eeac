-- The slices of a degree (docs/RULES.md, "Choosing the split").
use Rattle.std.specs.Prelude.{true, false, List, [], ◌∷◌, ◌++◌, ℕ, zero, suc, ◌-◌, ◌^◌, ltb}
use Rattle.number.specs.Bits.{bit_len, top_power}

-- degree below base is one slice; otherwise, with p the greatest power of two at most the degree, slice p − 1 and then degree − p.
-- The first argument bounds the depth of the cuts.
unfoldable pub slices_in : (cuts degree split : ℕ) → List ℕ
slices_in zero degree split = degree ∷ []
slices_in (suc cuts) degree split =
    elim (ltb degree (2 ^ split)) [
      | true ↦ degree ∷ []
      | false ↦ slices_in cuts (top_power degree - 1) split ++ slices_in cuts (degree - top_power degree) split
    ]

-- the degrees of the slices at base 2^split, in their order: each cut takes a binary digit off both parts
unfoldable pub slices_of : (degree split : ℕ) → List ℕ
slices_of degree split = slices_in (bit_len degree) degree split

-- the last of some numbers: of the degrees of slices, that of the last slice
unfoldable pub last_of : (slices : List ℕ) → ℕ
last_of [] = 0
last_of (degree ∷ []) = degree
last_of (degree ∷ next ∷ rest) = last_of (next ∷ rest)
