-- The first places of a list, as the machine cuts them.
use mathlib.Core.Path.{◌≡◌, ap}
use mathlib.Core.List.{List}
use Prim.Native.Nat.{ℕ, ◌-◌}
use native.Mathlib.Omega.{arith}
use lib.ListN.{take, drop}

pub from_first : {A : Type 0} (xs : List A) (n : ℕ) → take (n - 0) (drop 0 xs) ≡ take n xs
from_first xs n = let same : n - 0 ≡ n = omega arith in ap (λ (k : ℕ). take k xs) same
