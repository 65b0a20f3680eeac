-- Each basis over the other (docs/RULES.md, "The other basis"): T_n over the powers of x, and x^n over the T_i. `to` is the basis that is written in, and
-- row n has the coefficients of element n of the other basis. Those of x^n are fractions over 2^(n-1), for n ≥ 1, so its row has them times that.
use Rattle.std.specs.Prelude.{cond, ℕ, zero, suc, ◌-◌, ◌^◌, eqb}
use Rattle.algebra.specs.Fold.{times2_t1}
use Rattle.algebra.specs.Operations.{Operations, double}
use Rattle.algebra.specs.declared.Basis.{Basis}
use Rattle.algebra.specs.declared.Basis.TheVariants.{Monomial, Chebyshev}

-- the basis that is left
abbrev pub other : Basis → Basis
other Monomial = Chebyshev
other Chebyshev = Monomial

-- the denominator of element n's coefficients: 1 for T_n; 2^(n-1) for x^n, and 1 for x^0, since 0 - 1 is 0 here
abbrev pub denominator : (to : Basis) → (n : ℕ) → ℕ
denominator Monomial n = 1
denominator Chebyshev n = 2 ^ (n - 1)

module _ {A : Type 0} (𝓞 : Operations A) where
  -- 1 at place n, and 0 elsewhere
  abbrev pub unit_row : (n i : ℕ) → A
  unit_row n i = cond (eqb n i) 𝓞.one 𝓞.zero

  -- 2x·Σ r_i·x^i, coefficient by coefficient
  abbrev pub times2_x : (ℕ → A) → ℕ → A
  times2_x r zero = 𝓞.zero
  times2_x r (suc i) = double 𝓞 (r i)

  -- a row from the last one and the one before: T_(n+2) = 2x·T_(n+1) - T_n, and 2^(n+1)·x^(n+2) = 2T_1·(2^n·x^(n+1))
  abbrev pub next_row : (to : Basis) → (last before : ℕ → A) → ℕ → A
  next_row Monomial last before i = 𝓞.sub (times2_x last i) (before i)
  next_row Chebyshev last before i = times2_t1 𝓞 last i

  -- coefficient i of element n, times the denominator: 1 = T_0 and x = T_1 are the same in both
  unfoldable pub row_of : (to : Basis) → (n i : ℕ) → A
  row_of to zero i = unit_row 0 i
  row_of to (suc zero) i = unit_row 1 i
  row_of to (suc (suc n)) i = next_row to (row_of to (suc n)) (row_of to n) i
