-- The paths that end in a value, and the greatest of their weights (docs/RULES.md, "The heaviest chain").
use Rattle.std.specs.Prelude.{ℕ, ◌+◌, ◌≤◌, max}
use Rattle.walk.specs.Values.{Value}
use Rattle.walk.specs.Values.Value.{given, product, sum}

-- A path starts in a given value and goes from what a value is made of to that value. Each multiplication on its way, by whichever factor, adds its
-- scale to the weight; an addition or a subtraction adds nothing.
pub data PathTo : Value → (weight : ℕ) → Type 0 where
  start : PathTo given 0
  by_first_factor : {scale : ℕ} {a b : Value} {w : ℕ} → PathTo a w → PathTo (product scale a b) (w + scale)
  by_second_factor : {scale : ℕ} {a b : Value} {w : ℕ} → PathTo b w → PathTo (product scale a b) (w + scale)
  by_first_part : {a b : Value} {w : ℕ} → PathTo a w → PathTo (sum a b) w
  by_second_part : {a b : Value} {w : ℕ} → PathTo b w → PathTo (sum a b) w

-- w is the greatest weight over all paths that end in v
pub record Greatest (v : Value) (w : ℕ) : Type 0 where
  -- some path weighs it
  pub reached : PathTo v w
  -- and none weighs more
  pub most : (u : ℕ) → PathTo v u → u ≤ w

-- that weight as a number
unfoldable pub heaviest : Value → ℕ
heaviest given = 0
heaviest (product scale a b) = max (heaviest a) (heaviest b) + scale
heaviest (sum a b) = max (heaviest a) (heaviest b)

-- it is the greatest, for every value
abbrev pub HeaviestGreatest : Type 0
HeaviestGreatest = (v : Value) → Greatest v (heaviest v)
