-- Weights as the program works them out: of a product the greater of its factors' weights and the scale, of a sum the greater of its parts'. Its sums
-- stop at the greatest number of 64 bits, so that they need no bound. No plan comes near it (HeaviestChain).
use Rattle.std.specs.Prelude.{ℕ, ◌+◌, max, min}
use Rattle.walk.specs.MadeRules.{Making}

-- the greatest number of 64 bits
abbrev pub weight_limit : ℕ
weight_limit = 18446744073709551615

-- a weight as 64 bits hold it
abbrev pub capped : ℕ → ℕ
capped w = min w weight_limit

abbrev pub weight_making : Making ℕ
weight_making = record { given = 0; product = λ scale a b. capped (max a b + scale); sum = λ a b. max a b }
