-- No two strategies share a number: case by case.
use mathlib.Core.Path.{refl}
use native.Mathlib.Omega.{arith}
use Rattle.counts.specs.StrategyNumber.{StrategiesTold}
use Rattle.counts.specs.declared.choice.SplitStrategy.TheVariants.{MinDepth, MinMult}

pub strategies_told : StrategiesTold
strategies_told MinDepth MinDepth same = refl
strategies_told MinDepth MinMult same = absurd (omega arith)
strategies_told MinMult MinDepth same = absurd (omega arith)
strategies_told MinMult MinMult same = refl
