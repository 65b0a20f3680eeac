-- What a member of a set has of its own, and what it needs, by its head (docs/RULES.md, "Sets of curves"). A head has the settings that its member is
-- planned with: with folding the degree and parity of the fold, behind its transform. They decide all but the coefficients.
use Rattle.std.specs.Prelude.{List, ℕ, suc, ◌-◌, ℤ, length}
use Rattle.number.specs.Interval.{change_of_basis}
use Rattle.needed.specs.NeededList.{needed_list}
use Rattle.counts.specs.Choice.{split_for}
use Rattle.lists.specs.Tree.{Tree, plan_tree}
use Rattle.lists.specs.Arrange.{ends_of, lengths_of}
use Rattle.walk.specs.declared.plan.Head.{Head}
use Rattle.walk.specs.declared.plan.Step.{Step}
use Rattle.plan.specs.PlanSteps.{list_steps}
use Rattle.plan.specs.PlanHead.{head_of}
use Rattle.plan.specs.PlanCall.{planned_parity, planned_transform, head_for, coefficients_for}
use Rattle.plan.specs.PlanSizes.{degree_to_plan}
use Rattle.sets.specs.Members.{Curve}
use Rattle.sets.specs.declared.member.Member.{Member}

-- ---- by a head

-- the split and the tree that the member is cut by
abbrev pub own_split : Head → ℕ
own_split head = split_for head.strategy head.parity head.basis head.degree

abbrev pub own_tree : Head → Tree
own_tree head = plan_tree head.strategy head.parity head.basis head.degree

-- the powers that it needs, rising
unfoldable pub own_powers : Head → List ℕ
own_powers head = needed_list head.parity head.basis head.degree (own_split head)

-- its loads and combines: list numbers begin at 0
unfoldable pub own_steps : Head → List Step
own_steps head = list_steps head.degree (own_tree head)

-- the boundaries of its lists, from 0, and their lengths
unfoldable pub own_boundaries : Head → List ℕ
own_boundaries head = ends_of (own_tree head) 0 (suc head.degree)

unfoldable pub own_lengths : Head → List ℕ
own_lengths head = lengths_of (own_tree head) (suc head.degree)

-- ---- of a curve

-- a head with so many steps
abbrev pub with_steps : (steps : ℕ) → Head → Head
with_steps steps head = record {
  basis = head.basis;
  parity = head.parity;
  strategy = head.strategy;
  transform = head.transform;
  degree = head.degree;
  base = head.base;
  ct = head.ct;
  pt = head.pt;
  depth = head.depth;
  coefficients = head.coefficients;
  lists = head.lists;
  steps = steps;
  interval = head.interval;
}

-- "its steps counted without power steps"
abbrev pub without_powers : Head → Head
without_powers head = with_steps (length (own_steps head)) head

-- "each member's head as planned alone"
abbrev pub alone_head : Curve → Head
alone_head curve =
    head_for curve.member.strategy curve.member.parity curve.member.basis curve.member.fold curve.coefficients
    curve.member.a curve.member.b

abbrev pub member_head : Curve → Head
member_head curve = without_powers (alone_head curve)

-- the same by the member's settings and the number of its coefficients, which decide it
unfoldable pub head_by : Member → Head
head_by member =
    without_powers (head_of member.strategy (planned_parity member.fold member.parity) member.basis
    (planned_transform member.fold member.parity member.basis) (change_of_basis member.basis member.a member.b)
    (degree_to_plan member.fold member.parity (member.count - 1)))

-- its lists, one after another
abbrev pub member_coefficients : Curve → List ℤ
member_coefficients curve =
    coefficients_for curve.member.strategy curve.member.parity curve.member.basis curve.member.fold curve.coefficients
