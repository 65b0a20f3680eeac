-- The head of a plan as a struct of numbers, and the head that such a struct means.
use Rattle.std.specs.Prelude.{Bool, ◌&&◌}
use Rattle.algebra.specs.EnumNumbers.{basis_number, parity_number, transform_number}
use Rattle.number.specs.declared.interval.Interval.{Interval}
use Rattle.counts.specs.StrategyNumber.{strategy_number}
use Rattle.walk.specs.declared.plan.Head.{Head}
use Rattle.plan.specs.PlanHead.{no_head}
use Rattle.plan.specs.PlanCall.{Planned}
use Rattle.flat.specs.Kinds.{is_transform, transform_numbered, strategy_numbered, parity_numbered, basis_numbered, knows_all}
use Rattle.flat.specs.Unknown.{unknown_kind}
use Rattle.flat.specs.declared.head.CHeadInterval.{CHeadInterval}
use Rattle.flat.specs.declared.head.CHead.{CHead}
use Rattle.flat.specs.declared.head.CPlanned.{CPlanned}

-- its interval with the change pair, number by number, and back
abbrev pub flat_head_interval : Interval → CHeadInterval
flat_head_interval r = record { a = r.a; b = r.b; u = r.u; w = r.w }

abbrev pub interval_meant : CHeadInterval → Interval
interval_meant r = record { a = r.a; b = r.b; u = r.u; w = r.w }

-- a head with its kinds by their numbers
abbrev pub flat_head : Head → CHead
flat_head h = record {
  basis = basis_number h.basis;
  parity = parity_number h.parity;
  strategy = strategy_number h.strategy;
  transform = transform_number h.transform;
  degree = h.degree;
  base = h.base;
  ct = h.ct;
  pt = h.pt;
  depth = h.depth;
  coefficients = h.coefficients;
  lists = h.lists;
  steps = h.steps;
  interval = flat_head_interval h.interval;
}

-- the head that a head of numbers means
unfoldable pub head_meant : CHead → Head
head_meant h = record {
  basis = basis_numbered h.basis;
  parity = parity_numbered h.parity;
  strategy = strategy_numbered h.strategy;
  transform = transform_numbered h.transform;
  degree = h.degree;
  base = h.base;
  ct = h.ct;
  pt = h.pt;
  depth = h.depth;
  coefficients = h.coefficients;
  lists = h.lists;
  steps = h.steps;
  interval = interval_meant h.interval;
}

-- whether all four of its kinds are known
unfoldable pub knows_head : CHead → Bool
knows_head h = is_transform h.transform && knows_all h.strategy h.parity h.basis

-- ---- the answer of the plan call

abbrev pub flat_planned : Planned → CPlanned
flat_planned r = record { refusal = r.refusal; head = flat_head r.head }

-- the answer to an unknown kind
abbrev pub no_plan : CPlanned
no_plan = record { refusal = unknown_kind; head = flat_head no_head }
