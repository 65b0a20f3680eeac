-- Which places a parity allows: it goes by the remainder by 2.
use mathlib.Core.Path.{◌≡◌, refl, ap}
use Prim.Native.Nat.{ℕ, ◌%◌}
use lib.Dec.{eqb}
use Rattle.algebra.specs.Allowed.{allows}
use Rattle.algebra.specs.declared.Parity.{Parity}
use Rattle.algebra.specs.declared.Parity.TheVariants.{Full, Even, Odd}

-- numbers with one remainder by 2 are allowed or not together
pub allows_same : (parity : Parity) (i j : ℕ) → i % 2 ≡ j % 2 → allows parity i ≡ allows parity j
unfolding allows
allows_same Full i j e = refl
allows_same Even i j e = ap (λ r. eqb r 0) e
allows_same Odd i j e = ap (λ r. eqb r 1) e
