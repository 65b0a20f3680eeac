-- The greatest weight over all paths that end in a value. None weighs more than `heaviest`: by recursion on the path, to which each multiplication
-- adds the scale that `heaviest` adds too. One weighs as much: by recursion on the value, along the heavier of the two that it is made of.
use Prim.Native.Nat.{ℕ, ◌+◌, ◌≤◌, max}
use native.Mathlib.Omega.{arith, max_cases}
use Rattle.walk.specs.Values.{Value}
use Rattle.walk.specs.Values.Value.{given, product, sum}
use Rattle.walk.specs.Paths.{PathTo, heaviest, HeaviestGreatest}
use Rattle.walk.specs.Paths.PathTo.{start, by_first_factor, by_second_factor, by_first_part, by_second_part}

none_heavier : {v : Value} {u : ℕ} → PathTo v u → u ≤ heaviest v
unfolding heaviest
none_heavier start = omega arith
none_heavier (by_first_factor path) = omega (arith, none_heavier path)
none_heavier (by_second_factor path) = omega (arith, none_heavier path)
none_heavier (by_first_part path) = omega (arith, none_heavier path)
none_heavier (by_second_part path) = omega (arith, none_heavier path)

-- what holds of two numbers holds of the greater
of_greater : (P : ℕ → Type 0) (a b : ℕ) → P a → P b → P (max a b)
of_greater P a b for_a for_b = max_cases a b (P (max a b)) (λ h second. rw second for_b) (λ h first. rw first for_a)

path_of_heaviest : (v : Value) → PathTo v (heaviest v)
unfolding heaviest
path_of_heaviest given = start
path_of_heaviest (product scale a b) =
    of_greater (λ w. PathTo (product scale a b) (w + scale)) (heaviest a) (heaviest b) (by_first_factor (path_of_heaviest a))
    (by_second_factor (path_of_heaviest b))
path_of_heaviest (sum a b) =
    of_greater (PathTo (sum a b)) (heaviest a) (heaviest b) (by_first_part (path_of_heaviest a)) (by_second_part (path_of_heaviest b))

pub heaviest_greatest : HeaviestGreatest
heaviest_greatest v = record { reached = path_of_heaviest v; most = λ u path. none_heavier path }
