-- Request Q-2: which combine is plain, and so counts among the plain multiplications (specs/Counted).
use Rattle.std.specs.Prelude.{◌≡◌, Bool, true, false, ◌&&◌, List, [], ◌∷◌, ◌++◌, ℕ, ◌+◌, ◌-◌, ◌*◌, ◌^◌, ◌≤◌, ◌<◌, leb, eqb, Float, ℤ, length, take}
use Rattle.algebra.specs.declared.Basis.{Basis}
use Rattle.algebra.specs.declared.Parity.{Parity}
use Rattle.number.specs.Bits.{is_power_of_two}
use Rattle.counts.specs.Slices.{last_of}
use Rattle.counts.specs.declared.choice.SplitStrategy.{SplitStrategy}
use Rattle.walk.specs.Lent.{lent_steps}
use Rattle.walk.specs.declared.plan.Step.{Step}
use Rattle.plan.specs.PlanSteps.{load_step, combine_step}
use Rattle.plan.specs.Reported.{of_kind}
use Rattle.plan.specs.PlanCall.{PlanCall, Planned}
use Rattle.demands.specs.Accepts.{BringsPlan}
use Rattle.demands.specs.Counted.{lengths_from}

-- "a last list of one, after another list": there are two or more lists, and the last of their lengths is 1
abbrev pub lone_last : (lengths : List ℕ) → Bool
lone_last lengths = leb 2 (length lengths) && eqb (last_of lengths) 1

-- "is combined by kind 4": of so many lists the last is loaded, and the next step is of kind 4, so that its high value is that of this list alone. No
-- other step is of kind 4.
pub record LoneCombined (degree lists : ℕ) (steps : List Step) : Type 0 where
  pub before : List Step
  pub after : List Step
  pub exponent : ℕ
  pub steps_are : steps ≡ before ++ (load_step (lists - 1) ∷ combine_step 4 (2 ^ exponent) ∷ after)
  pub none_before : of_kind 4 before ≡ 0
  pub none_after : of_kind 4 after ≡ 0
  -- its power is the greatest power of two that divides the degree: 4 at degree 12
  pub odd : ℕ
  pub degree_is : degree ≡ (2 * odd + 1) * 2 ^ exponent

-- of a plan's degree, base, lengths of lists and steps
pub record PlainStep (degree base : ℕ) (lengths : List ℕ) (steps : List Step) : Type 0 where
  pub lone : lone_last lengths ≡ true → LoneCombined degree (length lengths) steps
  -- in every other plan each combine is of kind 3, "an `Even` list of two stays kind 3" among them
  pub others : lone_last lengths ≡ false → of_kind 4 steps ≡ 0
  pub two : last_of lengths ≡ 2 → of_kind 4 steps ≡ 0
  -- a power of two from the base on has a last list of one, whose combine at the degree itself is the last step
  pub at_power : is_power_of_two degree ≡ true → base ≤ degree
      → (before : List Step) × ((steps ≡ before ++ (combine_step 4 degree ∷ [])) × (of_kind 4 before ≡ 0))
  -- below the base there is one list, and no combine
  pub below_base : degree < base → of_kind 4 steps ≡ 0

-- the steps and boundaries are those that the call left in the lent buffers
abbrev pub PlansPlain : Type 0
PlansPlain = (strategy : SplitStrategy) (parity : Parity) (basis : Basis) (folded : Bool) (c : List ℤ) (a b : Float) (out : List ℤ)
    (bounds steps : List ℕ) (r : Planned) (out' : List ℤ) (bounds' steps' : List ℕ) → BringsPlan strategy parity basis folded c a b out bounds steps
    → PlanCall strategy parity basis folded c a b out bounds steps r out' bounds' steps'
    → PlainStep r.head.degree r.head.base (lengths_from 0 (take r.head.lists bounds')) (lent_steps r.head steps')
