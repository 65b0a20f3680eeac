-- The walk's own limits (docs/RULES.md), WAITING and MODULUS_LIMIT in the code.
use Rattle.std.specs.Prelude.{ℕ}

-- the most values that wait
abbrev pub waiting_limit : ℕ
waiting_limit = 16

-- the greatest trial modulus
abbrev pub modulus_limit : ℕ
modulus_limit = 2147483647
