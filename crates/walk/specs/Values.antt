-- What a value of the walk is made of (docs/RULES.md, "The heaviest chain").
use Rattle.std.specs.Prelude.{ℕ}

-- A value is given, or a product, or a sum or difference. Given are the point, the number 1, the coefficients and the 0
-- that a list's sum starts from. A product's scale is that of its multiplication.
pub data Value : Type 0 where
  given : Value
  product : (scale : ℕ) (a b : Value) → Value
  sum : (a b : Value) → Value
