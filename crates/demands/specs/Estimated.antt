-- Request Q-2: "For MinMult the reported pair, the transform's multiplications apart, is then the Rust's estimate with that one multiplication moved, at
-- a power of two no second time; MinMult still chooses by the Rust's estimate, and that no other split is cheaper is from then on said of the estimate."
-- The estimate of a degree at a split is `pair_at` (counts/specs/Pair), which `bsgs_op_counts` answers.
use Rattle.std.specs.Prelude.{◌≡◌, Bool, false, not, cond, ◌&&◌, List, ℕ, suc, ◌+◌, ◌^◌, ◌≤◌, Float, ℤ, take}
use Rattle.algebra.specs.declared.Basis.{Basis}
use Rattle.algebra.specs.declared.Basis.TheVariants.{Monomial}
use Rattle.algebra.specs.declared.Parity.{Parity}
use Rattle.algebra.specs.declared.Parity.TheVariants.{Full}
use Rattle.algebra.specs.declared.PolynomialInputTransform.TheVariants.{Identity}
use Rattle.number.specs.Bits.{bit_len, is_power_of_two}
use Rattle.counts.specs.Pair.{pair_at}
use Rattle.counts.specs.MinMult.{AtMost, min_mult}
use Rattle.counts.specs.Calls.{counts_call}
use Rattle.counts.specs.declared.pair.Pair.{Pair}
use Rattle.counts.specs.declared.choice.SplitStrategy.TheVariants.{MinMult}
use Rattle.lists.specs.Tree.{tree_of}
use Rattle.lists.specs.Arrange.{lengths_of}
use Rattle.walk.specs.declared.plan.Head.{Head}
use Rattle.plan.specs.PlanSteps.{steps_at}
use Rattle.plan.specs.PlanHead.{plan_counts}
use Rattle.plan.specs.Reported.{transform_cost, reported}
use Rattle.plan.specs.PlanCall.{PlanCall, Planned}
use Rattle.demands.specs.Accepts.{BringsPlan}
use Rattle.demands.specs.Counted.{lengths_from}
use Rattle.demands.specs.PlainStep.{lone_last}

-- how many multiplications move from ct-ct to pt-ct: that of a last list of one after another list, but at a power of two the estimate has moved it
abbrev pub moved : (degree : ℕ) → (lengths : List ℕ) → ℕ
moved degree lengths = cond (lone_last lengths && not (is_power_of_two degree)) 1 0

-- the head of a MinMult plan and the lengths of its lists, beside the estimate of what is planned
pub record Estimated (head : Head) (lengths : List ℕ) : Type 0 where
  -- the plan's split
  pub split : ℕ
  pub base : head.base ≡ 2 ^ split
  pub split_is : split ≡ min_mult head.parity head.basis head.degree
  pub from_one : 1 ≤ split
  pub to_length : split ≤ bit_len head.degree
  -- the estimate at this split, which `bsgs_op_counts` answers
  pub estimate : Pair
  pub estimate_is : estimate ≡ pair_at head.parity head.basis head.degree split
  pub counts : counts_call MinMult head.parity head.basis head.degree ≡ record { refusal = 0; ct = estimate.ct; pt = estimate.pt }
  -- no other split from 1 to the degree's bit length has a smaller one
  pub least : (other : ℕ) → 1 ≤ other → other ≤ bit_len head.degree → AtMost estimate (pair_at head.parity head.basis head.degree other)
  -- the reported pair
  pub encrypted : head.ct + moved head.degree lengths ≡ estimate.ct + transform_cost head.transform
  pub plain : head.pt ≡ estimate.pt + moved head.degree lengths

-- folded or not; the boundaries are those that the call left in the lent buffer
abbrev pub PlansEstimated : Type 0
PlansEstimated = (parity : Parity) (basis : Basis) (folded : Bool) (c : List ℤ) (a b : Float) (out : List ℤ)
    (bounds steps : List ℕ) (r : Planned) (out' : List ℤ) (bounds' steps' : List ℕ) → BringsPlan MinMult parity basis folded c a b out bounds steps
    → PlanCall MinMult parity basis folded c a b out bounds steps r out' bounds' steps'
    → Estimated r.head (lengths_from 0 (take r.head.lists bounds'))

-- ---- why it is said of the estimate

-- the pair that an unfolded plan at a split would report, with no slice listed again
abbrev pub reported_at : Parity → Basis → (degree split : ℕ) → Pair
reported_at parity basis degree split =
    reported parity Identity (lengths_of (tree_of false degree degree split) (suc degree)) (steps_at false parity basis degree split)

-- a split with a greater estimate may report a smaller pair: degree 6, which has the lists 4, 3 at split 2 and the lists 2, 2, 2, 1 at split 1
pub record CheaperReported : Type 0 where
  pub chosen : min_mult Full Monomial 6 ≡ 2
  pub estimate_chosen : pair_at Full Monomial 6 2 ≡ record { ct = 4; pt = 5 }
  pub estimate_other : pair_at Full Monomial 6 1 ≡ record { ct = 5; pt = 3 }
  pub reported_chosen : plan_counts MinMult Full Monomial Identity 6 ≡ record { ct = 4; pt = 5 }
  pub reported_other : reported_at Full Monomial 6 1 ≡ record { ct = 4; pt = 4 }
