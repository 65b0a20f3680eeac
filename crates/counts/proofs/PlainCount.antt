-- The powers that a parity allows have closed forms, and the pt-ct multiplications of two lists of slices add up.
use mathlib.Core.Path.{◌≡◌, refl}
use mathlib.Core.Bool.{Bool, true, false, cond}
use mathlib.Core.List.{List, [], ◌∷◌, ◌++◌}
use Prim.Native.Nat.{ℕ, zero, suc, ◌+◌, ◌/◌, ◌%◌, ◌≤◌}
use native.Mathlib.Omega.{arith}
use borrow.Author.Tests.{eqb-true, eqb-false}
use lib.Dec.{eqb}
use Rattle.algebra.specs.Allowed.{allows}
use Rattle.algebra.specs.declared.Parity.{Parity}
use Rattle.algebra.specs.declared.Parity.TheVariants.{Full, Even, Odd}
use Rattle.counts.specs.PlainCount.{allowed_to, plain_count, AllowedCounts}
use Rattle.needed.proofs.Flags.{at_most_one}

allowed_full : (d : ℕ) → allowed_to Full d ≡ d
unfolding allowed_to allows
allowed_full zero = refl
allowed_full (suc d) = omega (arith, allowed_full d)

allowed_even : (d : ℕ) → allowed_to Even d ≡ d / 2
unfolding allowed_to allows
allowed_even zero = refl
allowed_even (suc d) = by_test (eqb (suc d % 2) 0) refl (allowed_even d)
  where
    none : (suc d % 2 ≡ 0 → ⊥) → allowed_to Even d ≡ d / 2 → allowed_to Even d + 0 ≡ suc d / 2
    none odd before = omega arith

    by_test : (test : Bool) → eqb (suc d % 2) 0 ≡ test → allowed_to Even d ≡ d / 2 → allowed_to Even d + cond (eqb (suc d % 2) 0) 1 0 ≡ suc d / 2
    by_test true is before = let even = eqb-true (suc d % 2) 0 is in rw is (omega arith)
    by_test false is before = rw is (none (eqb-false (suc d % 2) 0 is) before)

allowed_odd : (d : ℕ) → allowed_to Odd d ≡ (d + 1) / 2
unfolding allowed_to allows
allowed_odd zero = refl
allowed_odd (suc d) = by_test (eqb (suc d % 2) 1) refl (allowed_odd d)
  where
    none : (suc d % 2 ≡ 1 → ⊥) → allowed_to Odd d ≡ (d + 1) / 2 → allowed_to Odd d + 0 ≡ (suc d + 1) / 2
    none even before = omega arith

    by_test : (test : Bool) → eqb (suc d % 2) 1 ≡ test → allowed_to Odd d ≡ (d + 1) / 2 → allowed_to Odd d + cond (eqb (suc d % 2) 1) 1 0 ≡ (suc d + 1) / 2
    by_test true is before = let odd = eqb-true (suc d % 2) 1 is in rw is (omega arith)
    by_test false is before = rw is (none (eqb-false (suc d % 2) 1 is) before)

pub allowed_counts : (degree : ℕ) → AllowedCounts degree
allowed_counts degree = record { full = allowed_full degree; even = allowed_even degree; odd = allowed_odd degree }

-- no more than there are
pub allowed_at_most : (parity : Parity) (d : ℕ) → allowed_to parity d ≤ d
unfolding allowed_to
allowed_at_most parity zero = omega arith
allowed_at_most parity (suc d) = omega (arith, allowed_at_most parity d, at_most_one (allows parity (suc d)))

-- two lists of slices
pub plain_append : (parity : Parity) (low high : List ℕ) → plain_count parity (low ++ high) ≡ plain_count parity low + plain_count parity high
unfolding plain_count
plain_append parity [] high = omega arith
plain_append parity (d ∷ low) high = omega (arith, plain_append parity low high)
