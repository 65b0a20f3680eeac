-- The public calls on a bare degree or budget (docs/RULES.md, "Refusals"): their tests in order, and their answers.
use Rattle.std.specs.Prelude.{List, [], ◌∷◌, ℕ, Result}
use Rattle.algebra.specs.declared.Basis.{Basis}
use Rattle.algebra.specs.declared.Parity.{Parity}
use Rattle.number.specs.Bits.{bit_len}
use Rattle.number.specs.Limits.{plan_limit, degree_limit}
use Rattle.number.specs.Refusal.{Test, first_refusal, unless_refused}
use Rattle.number.specs.Refused.{numbered}
use Rattle.number.specs.Tests.{no_degree, too_high, too_wide}
use Rattle.number.specs.declared.refusal.Refusal.{Refusal}
use Rattle.counts.specs.MinDepth.{min_depth}
use Rattle.counts.specs.MinMult.{min_mult}
use Rattle.counts.specs.Choice.{counts_of}
use Rattle.counts.specs.Depth.{depth_of}
use Rattle.counts.specs.ConsumedBits.{bits_of}
use Rattle.counts.specs.LargestDegree.{greatest_within, none_within}
use Rattle.counts.specs.declared.pair.Pair.{Pair}
use Rattle.counts.specs.declared.choice.SplitStrategy.{SplitStrategy}

-- ---- the split

-- an answer in numbers: its refusal, or 0 with the split
pub record SplitChoice : Type 0 where
  pub refusal : ℕ
  pub split : ℕ

-- after a refusal split 0
abbrev pub no_split : (refusal : ℕ) → SplitChoice
no_split refusal = record { refusal = refusal; split = 0 }

-- what a result says of it
abbrev pub choice_in : Result ℕ Refusal → SplitChoice
choice_in = numbered (λ (split : ℕ). record { refusal = 0; split = split }) no_split

-- the first test that holds for MinDepth's split: 2, then 1
abbrev pub min_depth_refusal : (degree : ℕ) → ℕ
min_depth_refusal degree = first_refusal (too_high degree_limit degree ∷ no_degree degree ∷ [])

-- `min_depth_split`: MinDepth's split of a degree
unfoldable pub min_depth_call : (degree : ℕ) → SplitChoice
min_depth_call degree =
    let refusal : ℕ = min_depth_refusal degree in
    unless_refused refusal (record { refusal = 0; split = min_depth (bit_len degree) }) (no_split refusal)

-- for MinMult's split: 2
abbrev pub min_mult_refusal : (degree : ℕ) → ℕ
min_mult_refusal degree = first_refusal (too_high plan_limit degree ∷ [])

-- `min_mult_split`: MinMult's split of a degree
unfoldable pub min_mult_call : Parity → Basis → (degree : ℕ) → SplitChoice
min_mult_call parity basis degree =
    let refusal : ℕ = min_mult_refusal degree in
    unless_refused refusal (record { refusal = 0; split = min_mult parity basis degree }) (no_split refusal)

-- ---- the pair at the chosen split

-- an answer in numbers: its refusal, or 0 with the pair
pub record OpCounts : Type 0 where
  pub refusal : ℕ
  pub ct : ℕ
  pub pt : ℕ

-- after a refusal the pair (0, 0)
abbrev pub no_counts : (refusal : ℕ) → OpCounts
no_counts refusal = record { refusal = refusal; ct = 0; pt = 0 }

-- what a result says of it
abbrev pub counts_in : Result Pair Refusal → OpCounts
counts_in = numbered (λ (pair : Pair). record { refusal = 0; ct = pair.ct; pt = pair.pt }) no_counts

-- the first test that holds: 2
abbrev pub counts_refusal : (degree : ℕ) → ℕ
counts_refusal degree = first_refusal (too_high plan_limit degree ∷ [])

-- `bsgs_op_counts`: the pair at the split that the strategy chooses
unfoldable pub counts_call : SplitStrategy → Parity → Basis → (degree : ℕ) → OpCounts
counts_call strategy parity basis degree =
    let refusal : ℕ = counts_refusal degree in
    let pair : Pair = counts_of strategy parity basis degree in
    unless_refused refusal (record { refusal = 0; ct = pair.ct; pt = pair.pt }) (no_counts refusal)

-- ---- the depth

-- an answer in numbers: its refusal, or 0 with the depth
pub record EvalDepth : Type 0 where
  pub refusal : ℕ
  pub depth : ℕ

-- after a refusal depth 0
abbrev pub no_depth : (refusal : ℕ) → EvalDepth
no_depth refusal = record { refusal = refusal; depth = 0 }

-- what a result says of it
abbrev pub depth_in : Result ℕ Refusal → EvalDepth
depth_in = numbered (λ (depth : ℕ). record { refusal = 0; depth = depth }) no_depth

-- the first test that holds: 2
abbrev pub depth_refusal : (degree : ℕ) → ℕ
depth_refusal degree = first_refusal (too_high degree_limit degree ∷ [])

-- `bsgs_eval_depth`: the depth of a degree
unfoldable pub depth_call : SplitStrategy → (degree : ℕ) → EvalDepth
depth_call strategy degree =
    let refusal : ℕ = depth_refusal degree in
    unless_refused refusal (record { refusal = 0; depth = depth_of strategy degree }) (no_depth refusal)

-- ---- the bits

-- an answer in numbers: its refusal, or 0 with the bits
pub record ConsumedBits : Type 0 where
  pub refusal : ℕ
  pub bits : ℕ

-- after a refusal no bits
abbrev pub no_bits : (refusal : ℕ) → ConsumedBits
no_bits refusal = record { refusal = refusal; bits = 0 }

-- what a result says of it
abbrev pub bits_in : Result ℕ Refusal → ConsumedBits
bits_in = numbered (λ (bits : ℕ). record { refusal = 0; bits = bits }) no_bits

-- the first test that holds: 2, then 10 for either of the two scales
abbrev pub bits_refusal : (degree input coeff : ℕ) → ℕ
bits_refusal degree input coeff = first_refusal (too_high degree_limit degree ∷ too_wide input ∷ too_wide coeff ∷ [])

-- `bsgs_consumed_bits`: the bits of a degree, with the scales of input and coefficients
unfoldable pub bits_call : SplitStrategy → (degree input coeff : ℕ) → ConsumedBits
bits_call strategy degree input coeff =
    let refusal : ℕ = bits_refusal degree input coeff in
    unless_refused refusal (record { refusal = 0; bits = bits_of strategy degree input coeff }) (no_bits refusal)

-- ---- the largest degree for a budget

-- an answer in numbers: its refusal, or 0 with the degree
pub record LargestDegree : Type 0 where
  pub refusal : ℕ
  pub degree : ℕ

-- after a refusal degree 0
abbrev pub no_largest : (refusal : ℕ) → LargestDegree
no_largest refusal = record { refusal = refusal; degree = 0 }

-- what a result says of it
abbrev pub largest_in : Result ℕ Refusal → LargestDegree
largest_in = numbered (λ (degree : ℕ). record { refusal = 0; degree = degree }) no_largest

-- the tests in order: 10 for either of the two scales, 31
abbrev pub largest_tests : SplitStrategy → (budget input coeff : ℕ) → List Test
largest_tests strategy budget input coeff = too_wide input ∷ too_wide coeff ∷ none_within strategy budget input coeff ∷ []

-- `largest_degree`: the greatest degree from 1 to 4,095 whose bits are within the budget
unfoldable pub largest_call : SplitStrategy → (budget input coeff : ℕ) → LargestDegree
largest_call strategy budget input coeff =
    let refusal : ℕ = first_refusal (largest_tests strategy budget input coeff) in
    unless_refused refusal (record { refusal = 0; degree = greatest_within strategy budget input coeff plan_limit }) (no_largest refusal)
