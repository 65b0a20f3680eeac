-- The limits of a line (docs/RULES.md, "Limits"), each named once. The code has them as constants of the same names.
use Rattle.std.specs.Prelude.{ℕ}

-- the most bytes of a line, without its line feed
abbrev pub line_limit : ℕ
line_limit = 65535

-- the most digits of a coefficient
abbrev pub digit_limit : ℕ
digit_limit = 18
