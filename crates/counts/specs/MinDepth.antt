-- MinDepth's split (docs/RULES.md, "Choosing the split"): a case for each bit length, and the source's formulas a and b.
use Rattle.std.specs.Prelude.{Bool, cond, List, [], ◌∷◌, ℕ, ◌+◌, ◌-◌, ◌/◌, ◌^◌, eqb, ltb}

-- the cases: a bit length, and MinDepth's split of every degree of this length
abbrev pub min_depth_cases : List (ℕ × ℕ)
min_depth_cases =
    (1, 1)
    ∷ (2, 1)
    ∷ (3, 2)
    ∷ (4, 2)
    ∷ (5, 3)
    ∷ (6, 3)
    ∷ (7, 4)
    ∷ (8, 4)
    ∷ (9, 5)
    ∷ (10, 5)
    ∷ (11, 6)
    ∷ (12, 6)
    ∷ (13, 7)
    ∷ (14, 7)
    ∷ (15, 8)
    ∷ (16, 8)
    ∷ (17, 9)
    ∷ (18, 9)
    ∷ (19, 10)
    ∷ (20, 10)
    ∷ (21, 11)
    ∷ (22, 11)
    ∷ (23, 12)
    ∷ (24, 12)
    ∷ (25, 13)
    ∷ (26, 13)
    ∷ (27, 14)
    ∷ (28, 14)
    ∷ (29, 15)
    ∷ (30, 15)
    ∷ (31, 16)
    ∷ (32, 16)
    ∷ []

-- the split that stands beside a bit length; one that isn't listed, which no accepted degree has, is its own split
abbrev pub split_beside : (bits : ℕ) → List (ℕ × ℕ) → ℕ
split_beside bits [] = bits
split_beside bits ((listed, split) ∷ cases) = cond (eqb bits listed) split (split_beside bits cases)

-- MinDepth's split at a bit length
unfoldable pub min_depth : (bits : ℕ) → ℕ
min_depth bits = split_beside bits min_depth_cases

-- ---- the source's rule

-- at bit length L, with s the half of L: whether a exceeds b
unfoldable pub a_exceeds_b : (bits : ℕ) → Bool
a_exceeds_b bits =
    let s : ℕ = bits / 2 in
    let a : ℕ = 2 ^ s + 2 ^ (bits - s) + bits - s - 3 in
    let b : ℕ = 2 ^ (s + 1) + 2 ^ (bits - s - 1) + bits - s - 4 in
    ltb b a

-- the split is then s + 1, else s
unfoldable pub published_min_depth : (bits : ℕ) → ℕ
published_min_depth bits = cond (a_exceeds_b bits) (bits / 2 + 1) (bits / 2)
