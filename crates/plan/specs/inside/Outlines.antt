-- What the counters of a plan answer (docs/RULES.md, "Steps and the walk"): the totals of a tree's lists, and the numbers that a head and its steps go
-- by.
use Rattle.std.specs.Prelude.{ℕ, suc, ◌+◌, ◌-◌, ◌*◌, ◌^◌, Bool, cond, ◌&&◌, leb}
use Rattle.algebra.specs.declared.Basis.{Basis}
use Rattle.algebra.specs.declared.Parity.{Parity}
use Rattle.algebra.specs.declared.PolynomialInputTransform.{PolynomialInputTransform}
use Rattle.algebra.specs.declared.PolynomialInputTransform.TheVariants.{Identity, Square, SquareTimesInput, ChebyshevT2, ChebyshevT2TimesInput}
use Rattle.number.specs.Bits.{bit_len}
use Rattle.needed.specs.NeededList.{needed_count}
use Rattle.counts.specs.Choice.{split_for}
use Rattle.counts.specs.PlainCount.{allowed_to}
use Rattle.counts.specs.declared.choice.SplitStrategy.{SplitStrategy}
use Rattle.lists.specs.Tree.{Tree, tree_of, relists}
use Rattle.lists.specs.Arrange.{leaves_of, lengths_of}
use Rattle.plan.specs.PlanSteps.{last_length, last_plain}
use Rattle.plan.specs.Reported.{allowed_in}
use Rattle.plan.specs.PlanSizes.{step_count}
use Rattle.plan.specs.declared.head.Costs.{Costs}
use Rattle.plan.specs.declared.outline.Totals.{Totals}
use Rattle.plan.specs.declared.outline.Outline.{Outline}

-- the lists that a tree makes of n coefficients: how many, the allowed powers from 1 up over all of them, and the length of the last
unfoldable pub totals_of : Parity → Tree → (n : ℕ) → Totals
totals_of parity tree n = record { lists = leaves_of tree; pt = allowed_in parity (lengths_of tree n); last = last_length tree n }

-- those of the low part of a degree from the base on: it is cut in halves down to the base, so each list is as long as the base
unfoldable pub low_totals : Parity → (degree split : ℕ) → Totals
low_totals parity degree split = record {
  lists = 2 ^ (bit_len degree - 1 - split);
  pt = 2 ^ (bit_len degree - 1 - split) * allowed_to parity (2 ^ split - 1);
  last = 2 ^ split;
}

-- of a degree at a split: the split, the rule of kind 4, the number of needed powers, the allowed powers over all lists, and the sizes
abbrev pub outline_at : (leading : Bool) → Parity → Basis → (degree split : ℕ) → Outline
outline_at leading parity basis degree split = record {
  split = split;
  plain = last_plain degree (tree_of leading degree degree split);
  powers = needed_count parity basis degree split;
  pt = allowed_in parity (lengths_of (tree_of leading degree degree split) (suc degree));
  coefficients = suc degree;
  lists = leaves_of (tree_of leading degree degree split);
  steps = step_count (needed_count parity basis degree split) (leaves_of (tree_of leading degree degree split));
}

-- by a strategy
abbrev pub outline_for : SplitStrategy → Parity → Basis → (degree : ℕ) → Outline
outline_for strategy parity basis degree = outline_at (relists strategy) parity basis degree (split_for strategy parity basis degree)

-- what lists cost: a combine takes up each list but the first, and it is of kind 4 at a plain last list
abbrev pub costs_of : (plain : Bool) (lists pt : ℕ) → Costs
costs_of plain lists pt = record { threes = lists - 1 - cond (plain && leb 2 lists) 1 0; plains = pt + cond (plain && leb 2 lists) 1 0 }

-- the multiplications of a transform for so many curves
abbrev pub cost_for : PolynomialInputTransform → (curves : ℕ) → ℕ
cost_for Identity curves = 0
cost_for Square curves = 1
cost_for SquareTimesInput curves = 1 + curves
cost_for ChebyshevT2 curves = 1
cost_for ChebyshevT2TimesInput curves = 1 + curves
