-- The number of each strategy (docs/RULES.md, "Numbers of the kinds"). Answers show it by this number.
use Rattle.std.specs.Prelude.{◌≡◌, ℕ}
use Rattle.counts.specs.declared.choice.SplitStrategy.{SplitStrategy}
use Rattle.counts.specs.declared.choice.SplitStrategy.TheVariants.{MinDepth, MinMult}

-- from 0 up
abbrev pub strategy_number : SplitStrategy → ℕ
strategy_number MinDepth = 0
strategy_number MinMult = 1

-- two strategies with one number are equal
abbrev pub StrategiesTold : Type 0
StrategiesTold = (a b : SplitStrategy) → strategy_number a ≡ strategy_number b → a ≡ b
