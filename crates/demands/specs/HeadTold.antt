-- The fields of a plan's head (docs/RULES.md, "The head"), as the call answers them for every accepted polynomial. Its counts are in specs/Counted.
use Rattle.std.specs.Prelude.{◌≡◌, Bool, cond, List, ℕ, ◌+◌, ◌*◌, ◌^◌, Float, ℤ, length}
use Rattle.algebra.specs.EnumNumbers.{basis_number, parity_number, transform_number}
use Rattle.algebra.specs.declared.Basis.{Basis}
use Rattle.algebra.specs.declared.Parity.{Parity}
use Rattle.number.specs.Interval.{change_of_basis}
use Rattle.number.specs.Tests.{degree_of}
use Rattle.needed.specs.NeededList.{needed_count}
use Rattle.counts.specs.Choice.{split_for}
use Rattle.counts.specs.Depth.{depth_of}
use Rattle.counts.specs.StrategyNumber.{strategy_number}
use Rattle.counts.specs.declared.choice.SplitStrategy.{SplitStrategy}
use Rattle.walk.specs.declared.plan.Head.{Head}
use Rattle.plan.specs.Reported.{transform_cost}
use Rattle.plan.specs.PlanCall.{planned_parity, planned_transform, planned, PlanCall, Planned}
use Rattle.demands.specs.Accepts.{BringsPlan}
use Rattle.demands.specs.FoldNumber.{fold_number}
use Rattle.demands.specs.Right.{lists_for, steps_for}

pub record HeadTold (strategy : SplitStrategy) (parity : Parity) (basis : Basis) (folded : Bool) (c : List ℤ) (a b : Float) (head : Head) : Type 0 where
  -- the settings; when folded the parity is Full, and the transform that of the fold
  pub basis_is : head.basis ≡ basis
  pub strategy_is : head.strategy ≡ strategy
  pub parity_is : head.parity ≡ planned_parity folded parity
  pub transform_is : head.transform ≡ planned_transform folded parity basis
  -- and their numbers: when folded that of the parity is 0, and that of the transform 1 to 4; unfolded that of the transform is 0
  pub basis_number_lem : basis_number head.basis ≡ basis_number basis
  pub strategy_number_lem : strategy_number head.strategy ≡ strategy_number strategy
  pub parity_number_lem : parity_number head.parity ≡ cond folded 0 (parity_number parity)
  pub transform_number_lem : transform_number head.transform ≡ cond folded (fold_number parity basis) 0
  -- the degree of what is planned, the base of its split, the depth with the transform's
  pub degree_is : head.degree ≡ degree_of (planned strategy parity basis folded c)
  pub base_is : head.base ≡ 2 ^ split_for strategy head.parity basis head.degree
  pub depth_is : head.depth ≡ depth_of strategy head.degree + transform_cost head.transform
  -- how many coefficients, lists and steps there are: a step for each needed power, one for each list, and one for each list but the first
  pub coefficients_are : head.coefficients ≡ length (planned strategy parity basis folded c)
  pub lists_are : head.lists ≡ length (lists_for strategy parity basis folded c)
  pub steps_are : head.steps ≡ length (steps_for strategy parity basis folded c)
  pub steps_count : head.steps + 1
      ≡ needed_count head.parity basis head.degree (split_for strategy head.parity basis head.degree) + 2 * head.lists
  -- the interval of the polynomial handed in, folded or not, with its change pair
  pub interval_is : head.interval ≡ change_of_basis basis a b

abbrev pub HeadsTold : Type 0
HeadsTold = (strategy : SplitStrategy) (parity : Parity) (basis : Basis) (folded : Bool) (c : List ℤ) (a b : Float) (out : List ℤ)
    (bounds steps : List ℕ) (r : Planned) (out' : List ℤ) (bounds' steps' : List ℕ) → BringsPlan strategy parity basis folded c a b out bounds steps
    → PlanCall strategy parity basis folded c a b out bounds steps r out' bounds' steps' → HeadTold strategy parity basis folded c a b r.head
