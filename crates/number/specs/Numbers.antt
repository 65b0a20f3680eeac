-- The two kinds of coefficients, i64 and f64: their operations, in whose terms every rule is written once, which of them count as zero, and
-- which lists of them are small enough.
use Rattle.std.specs.Prelude.{Bool, true, false, List, eqb, leb, ℤ, pos, nat_abs, Float}
use Rattle.std.specs.Float.{fin, binary64}
use Rattle.std.specs.Float.Ieee as ieee
use Rattle.algebra.specs.Operations.{Operations, whole_ops}
use Rattle.algebra.specs.Magnitude.{sum_abs}
use Rattle.number.specs.Limits.{sum_limit}

pub record Numbers (A : Type 0) : Type 0 where
  pub ops : Operations A
  pub is_zero : A → Bool
  pub small : List A → Bool

-- whole coefficients: small are those with magnitudes summing to at most 2^30
abbrev pub whole_numbers : Numbers ℤ
whole_numbers = record { ops = whole_ops; is_zero = λ z. eqb (nat_abs z) 0; small = λ c. leb (sum_abs c) sum_limit }

-- binary64 as Rust has it: each operation rounds once, and all NaNs are one
abbrev pub float_ops : Operations Float
float_ops = record {
  zero = fin false 0 (pos 0);
  one = fin false 1 (pos 0);
  add = ieee.add binary64;
  sub = ieee.sub binary64;
  mul = ieee.mul binary64;
  neg = ieee.neg;
}

-- f64 coefficients: -0 counts as zero, a NaN does not; all are small enough
abbrev pub float_numbers : Numbers Float
float_numbers = record { ops = float_ops; is_zero = λ x. ieee.eq x (fin false 0 (pos 0)); small = λ c. true }
