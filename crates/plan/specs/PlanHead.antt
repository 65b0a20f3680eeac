-- The head of a plan (docs/RULES.md, "Steps and the walk").
use Rattle.std.specs.Prelude.{ℕ, suc, ◌+◌, ◌^◌, length}
use Rattle.algebra.specs.declared.Basis.{Basis}
use Rattle.algebra.specs.declared.Basis.TheVariants.{Monomial}
use Rattle.algebra.specs.declared.Parity.{Parity}
use Rattle.algebra.specs.declared.Parity.TheVariants.{Full}
use Rattle.algebra.specs.declared.PolynomialInputTransform.{PolynomialInputTransform}
use Rattle.algebra.specs.declared.PolynomialInputTransform.TheVariants.{Identity}
use Rattle.number.specs.Interval.{no_interval}
use Rattle.number.specs.declared.interval.Interval.{Interval}
use Rattle.counts.specs.Choice.{split_for}
use Rattle.counts.specs.Depth.{depth_of}
use Rattle.counts.specs.declared.pair.Pair.{Pair}
use Rattle.counts.specs.declared.choice.SplitStrategy.{SplitStrategy}
use Rattle.counts.specs.declared.choice.SplitStrategy.TheVariants.{MinDepth}
use Rattle.lists.specs.Tree.{plan_tree}
use Rattle.lists.specs.Arrange.{leaves_of, lengths_of}
use Rattle.walk.specs.declared.plan.Head.{Head}
use Rattle.plan.specs.PlanSteps.{plan_steps}
use Rattle.plan.specs.Reported.{transform_cost, reported}

-- the counts of a degree's lists and steps
abbrev pub plan_counts : SplitStrategy → Parity → Basis → PolynomialInputTransform → (degree : ℕ) → Pair
plan_counts strategy parity basis transform degree =
    reported parity transform (lengths_of (plan_tree strategy parity basis degree) (suc degree)) (plan_steps strategy parity basis degree)

-- the head of a degree, behind a transform, on an interval
unfoldable pub head_of : SplitStrategy → Parity → Basis → PolynomialInputTransform → Interval → (degree : ℕ) → Head
head_of strategy parity basis transform interval degree = record {
  basis = basis;
  parity = parity;
  strategy = strategy;
  transform = transform;
  degree = degree;
  base = 2 ^ split_for strategy parity basis degree;
  ct = (plan_counts strategy parity basis transform degree).ct;
  pt = (plan_counts strategy parity basis transform degree).pt;
  depth = depth_of strategy degree + transform_cost transform;
  coefficients = suc degree;
  lists = leaves_of (plan_tree strategy parity basis degree);
  steps = length (plan_steps strategy parity basis degree);
  interval = interval;
}

-- after a refusal everything is zero, and an enum has its first value
abbrev pub no_head : Head
no_head = record {
  basis = Monomial;
  parity = Full;
  strategy = MinDepth;
  transform = Identity;
  degree = 0;
  base = 0;
  ct = 0;
  pt = 0;
  depth = 0;
  coefficients = 0;
  lists = 0;
  steps = 0;
  interval = no_interval;
}
