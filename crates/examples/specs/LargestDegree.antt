-- Worked examples of the largest degree for a budget, proved by computing.
use Rattle.std.specs.Prelude.{◌≡◌, refl, [], ◌∷◌, ℕ}
use Rattle.number.specs.Bits.{digits, bit_len, top_power, is_power_of_two}
use Rattle.number.specs.Refusal.{unless_refused}
use Rattle.counts.specs.Depth.{depth_of}
use Rattle.counts.specs.ConsumedBits.{pure_chain, chain_before, bits_of}
use Rattle.counts.specs.LargestDegree.{greatest_within}
use Rattle.counts.specs.Calls.{LargestDegree, no_largest, largest_call}
use Rattle.counts.specs.declared.choice.SplitStrategy.TheVariants.{MinDepth, MinMult}

abbrev largest : ℕ → LargestDegree
largest d = record { refusal = 0; degree = d }

-- at scales 30 and 20 degree 4 takes 80 bits: a budget of 80 is enough, and with one less it is degree 3
pub met : largest_call MinDepth 80 30 20 ∷ largest_call MinDepth 79 30 20 ∷ [] ≡ largest 4 ∷ largest 3 ∷ []
unfolding largest_call unless_refused greatest_within bits_of pure_chain chain_before depth_of is_power_of_two top_power bit_len digits
met = refl

-- with 90 bits it is degree 7, but for MinMult, which takes one level more there, 6
pub by_strategy : largest_call MinDepth 90 30 20 ∷ largest_call MinMult 90 30 20 ∷ [] ≡ largest 7 ∷ largest 6 ∷ []
unfolding largest_call unless_refused greatest_within bits_of pure_chain chain_before depth_of is_power_of_two top_power bit_len digits
by_strategy = refl

-- at scales 1 and 2 MinMult takes 3, 4, 3 and 4 bits for degrees 3 to 6: with 3 bits the largest is 5, though 4 exceeds them
pub falling : bits_of MinMult 3 1 2 ∷ bits_of MinMult 4 1 2 ∷ bits_of MinMult 5 1 2 ∷ bits_of MinMult 6 1 2 ∷ [] ≡ 3 ∷ 4 ∷ 3 ∷ 4 ∷ []
unfolding bits_of pure_chain chain_before depth_of is_power_of_two top_power bit_len digits
falling = refl

pub past_a_fall : largest_call MinMult 3 1 2 ≡ largest 5
unfolding largest_call unless_refused greatest_within bits_of pure_chain chain_before depth_of is_power_of_two top_power bit_len digits
past_a_fall = refl

-- the greatest u64 allows every degree
pub any_degree : largest_call MinMult 18446744073709551615 65535 65535 ≡ largest 4095
unfolding largest_call unless_refused greatest_within bits_of pure_chain chain_before depth_of is_power_of_two top_power bit_len digits
any_degree = refl

-- degree 1 takes the coefficient scale, and with less no degree fits
pub none_fits : largest_call MinDepth 20 30 20 ∷ largest_call MinDepth 19 30 20 ∷ [] ≡ largest 1 ∷ no_largest 31 ∷ []
unfolding largest_call unless_refused greatest_within bits_of pure_chain chain_before depth_of is_power_of_two top_power bit_len digits
none_fits = refl

-- 10 comes before 31
pub wide_scales : largest_call MinDepth 0 65536 20 ∷ largest_call MinDepth 0 30 65536 ∷ [] ≡ no_largest 10 ∷ no_largest 10 ∷ []
unfolding largest_call unless_refused
wide_scales = refl
