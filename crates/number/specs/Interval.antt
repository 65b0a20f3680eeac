-- The interval from a to b with its change pair: the coefficients are expressed in y = u·x + w.
use Rattle.std.specs.Prelude.{◌≡◌, true, Float}
use Rattle.std.specs.Float.{binary64}
use Rattle.std.specs.Float.Ieee.{div, lt}
use Rattle.algebra.specs.Operations.{two}
use Rattle.algebra.specs.declared.Basis.{Basis}
use Rattle.algebra.specs.declared.Basis.TheVariants.{Monomial, Chebyshev}
use Rattle.number.specs.Numbers.{float_ops}
use Rattle.number.specs.declared.interval.Interval.{Interval}

-- Monomial: the identity, 1 and 0. Chebyshev: u = 2 / (b - a) and w = -(a + b) / (b - a), which take a to -1 and b to 1.
abbrev pub change_of_basis : Basis → Float → Float → Interval
change_of_basis Monomial a b = record { a = a; b = b; u = float_ops.one; w = float_ops.zero }
change_of_basis Chebyshev a b =
    let span = float_ops.sub b a in
    record { a = a; b = b; u = div binary64 (two float_ops) span; w = div binary64 (float_ops.neg (float_ops.add a b)) span }

-- the lower bound is below the upper one, so that neither is a NaN
abbrev pub Ordered : (a b : Float) → Type 0
Ordered a b = lt a b ≡ true

-- what a refusal has in place of an interval: +0 in every field
abbrev pub no_interval : Interval
no_interval = record { a = float_ops.zero; b = float_ops.zero; u = float_ops.zero; w = float_ops.zero }
