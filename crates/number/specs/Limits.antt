-- The limits (docs/RULES.md, "Limits"), each named once. The code has them as constants of the same names.
use Rattle.std.specs.Prelude.{ℕ, ◌^◌}

-- the greatest degree of plans, lists, folds, counts and MinMult
abbrev pub plan_limit : ℕ
plan_limit = 4095

-- the most nodes; as many marks there are for the powers 0 to 4,095
abbrev pub count_limit : ℕ
count_limit = 4096

-- the greatest degree of other calls on a bare degree, and the greatest index to split
abbrev pub degree_limit : ℕ
degree_limit = 4294967295

-- the greatest sum of the magnitudes of whole coefficients
abbrev pub sum_limit : ℕ
sum_limit = 2 ^ 30

-- the greatest bit scale
abbrev pub scale_limit : ℕ
scale_limit = 65535
