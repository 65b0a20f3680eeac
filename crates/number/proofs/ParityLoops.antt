-- The test of a parity, a coefficient at a time, and the parity found by it.
use mathlib.Core.Path.{◌≡◌, refl, ap}
use mathlib.Core.Bool.{◌&&◌, ◌||◌}
use mathlib.Core.List.{List, [], ◌∷◌}
use Prim.Native.Nat.{ℕ, suc, ◌+◌}
use native.Mathlib.Omega.{arith}
use Rattle.std.specs.List.{list_all, enumerate_from}
use Rattle.algebra.specs.Allowed.{allows}
use Rattle.algebra.specs.declared.Parity.{Parity}
use Rattle.number.specs.Numbers.{Numbers}
use Rattle.number.specs.Parity.{has_parity_from}

-- testing the coefficients one after another, each with its place, is the test
pub all_places : {A : Type 0} (numbers : Numbers A) (parity : Parity) (j : ℕ) (c : List A)
    → list_all (λ (p : ℕ × A). allows parity p.0 || numbers.is_zero p.1) (enumerate_from j c) ≡ has_parity_from numbers parity j c
unfolding has_parity_from
all_places numbers parity j [] = refl
all_places numbers parity j (x ∷ c) =
    let next : j + 1 ≡ suc j = omega arith in
    ap ((allows parity j || numbers.is_zero x) &&◌) (rw next (all_places numbers parity (suc j) c))
