-- Adding two curves (request Q-9). The sum is folded to the sum of the folds and arranged to the sum of the arrangements, since each of these is kept by
-- the maps that make sums and multiples; tree, boundaries, steps and head go by the length of what is planned alone. The plan call leaves just these.
use mathlib.Core.Path.{◌≡◌, refl, ap, ap₂, sym, ◌∙◌}
use mathlib.Core.Bool.{Bool, true, false}
use mathlib.Core.List.{List, [], append-nil}
use Prim.Native.Nat.{ℕ, ◌-◌}
use lib.Ieee.{Float}
use lib.IntN.{ℤ, ◌*ℤ◌}
use lib.ListN.{length, length-map}
use Rattle.algebra.specs.Operations.{whole_ops}
use Rattle.algebra.specs.PolynomialSum.{sum_of, multiple_of}
use Rattle.algebra.specs.Fold.{folded_length}
use Rattle.algebra.specs.declared.Basis.{Basis}
use Rattle.algebra.specs.declared.Parity.{Parity}
use Rattle.algebra.proofs.FoldPlaces.{fold_length}
use Rattle.algebra.proofs.Integers.{integers}
use Rattle.algebra.proofs.PolynomialSum.{length_sum, fold_sum, fold_multiple}
use Rattle.number.specs.Interval.{change_of_basis}
use Rattle.counts.specs.declared.choice.SplitStrategy.{SplitStrategy}
use Rattle.lists.specs.Tree.{plan_tree}
use Rattle.lists.specs.Arrange.{ends_of}
use Rattle.lists.proofs.ArrangedSums.{listed, listed_sum, listed_multiple}
use Rattle.walk.specs.IntervalUnread.{SameButInterval, with_interval}
use Rattle.walk.specs.WalksHeld.{flat}
use Rattle.walk.specs.declared.plan.Head.{Head}
use Rattle.plan.specs.PlanSteps.{plan_steps}
use Rattle.plan.specs.PlanHead.{head_of}
use Rattle.plan.specs.PlanCall.{planned_coefficients, planned_parity, planned_transform, Accepted, planned}
use Rattle.plan.specs.PlanCall.{coefficients_for, boundaries_for, numbers_for, head_for}
use Rattle.demands.specs.AddedPlans.{LengthsShape, PlansAdd, AddedRight, PlansMultiply, MultipliedRight}
use Rattle.demands.specs.MadePlan.{MadePlan, boundaries_in, steps_in}
use Rattle.demands.specs.Right.{WalksRight}
use Rattle.demands.proofs.MadePlan.{made_head, made_lists, made_boundaries, made_steps}
use Rattle.demands.proofs.Right.{stored_right}

-- ---- what is planned

planned_length : (folded : Bool) (parity : Parity) (basis : Basis) (c d : List ℤ) → length c ≡ length d
    → length (planned_coefficients folded parity basis c) ≡ length (planned_coefficients folded parity basis d)
planned_length true parity basis c d same =
    fold_length whole_ops parity basis c ∙ ap (folded_length parity) same ∙ sym (fold_length whole_ops parity basis d)
planned_length false parity basis c d same = same

planned_sum : (folded : Bool) (parity : Parity) (basis : Basis) (c d : List ℤ) → length c ≡ length d
    → planned_coefficients folded parity basis (sum_of whole_ops c d)
    ≡ sum_of whole_ops (planned_coefficients folded parity basis c) (planned_coefficients folded parity basis d)
planned_sum true parity basis c d same = fold_sum integers parity basis c d same
planned_sum false parity basis c d same = refl

planned_multiple : (folded : Bool) (parity : Parity) (basis : Basis) (k : ℤ) (c : List ℤ)
    → planned_coefficients folded parity basis (multiple_of whole_ops k c) ≡ multiple_of whole_ops k (planned_coefficients folded parity basis c)
planned_multiple true parity basis k c = fold_multiple integers parity basis k c
planned_multiple false parity basis k c = refl

length_multiple : (k : ℤ) (c : List ℤ) → length (multiple_of whole_ops k c) ≡ length c
length_multiple k c = length-map c (λ (a : ℤ). k *ℤ a)

module _ (strategy : SplitStrategy) (parity : Parity) (basis : Basis) (folded : Bool) where
  -- ---- by the length

  module _ (c d : List ℤ) (same : length c ≡ length d) where
    size : length (planned strategy parity basis folded c) ≡ length (planned strategy parity basis folded d)
    size = planned_length folded parity basis c d same

    boundaries_same : boundaries_for strategy parity basis folded c ≡ boundaries_for strategy parity basis folded d
    boundaries_same = ap (λ (n : ℕ). ends_of (plan_tree strategy (planned_parity folded parity) basis (n - 1)) 0 n) size

    steps_same : numbers_for strategy parity basis folded c ≡ numbers_for strategy parity basis folded d
    steps_same = ap (λ (n : ℕ). flat (plan_steps strategy (planned_parity folded parity) basis (n - 1))) size

    heads_same : (a b : Float) → head_for strategy parity basis folded c a b ≡ head_for strategy parity basis folded d a b
    heads_same a b =
        ap (λ (n : ℕ). head_of strategy (planned_parity folded parity) basis (planned_transform folded parity basis) (change_of_basis basis a b) (n - 1)) size

  heads_alike : (d : List ℤ) (a b a' b' : Float) → SameButInterval (head_for strategy parity basis folded d a b) (head_for strategy parity basis folded d a' b')
  unfolding head_of
  heads_alike d a b a' b' = refl

  -- ---- sums and multiples

  lists_sum : (c d : List ℤ) → length c ≡ length d
      → coefficients_for strategy parity basis folded (sum_of whole_ops c d)
      ≡ sum_of whole_ops (coefficients_for strategy parity basis folded c) (coefficients_for strategy parity basis folded d)
  lists_sum c d same =
      ap (listed strategy (planned_parity folded parity) basis) (planned_sum folded parity basis c d same)
      ∙ listed_sum strategy (planned_parity folded parity) basis _ _ (size c d same)

  lists_multiple : (k : ℤ) (c : List ℤ)
      → coefficients_for strategy parity basis folded (multiple_of whole_ops k c) ≡ multiple_of whole_ops k (coefficients_for strategy parity basis folded c)
  lists_multiple k c =
      ap (listed strategy (planned_parity folded parity) basis) (planned_multiple folded parity basis k c)
      ∙ listed_multiple strategy (planned_parity folded parity) basis k (planned strategy parity basis folded c)

-- ---- the call

pub lengths_shape : LengthsShape
lengths_shape strategy parity basis folded c d same plan other =
    let heads : (a b : Float) → head_for strategy parity basis folded c a b ≡ head_for strategy parity basis folded d a b =
    heads_same strategy parity basis folded c d same in
    record {
      boundaries = made_boundaries plan ∙ boundaries_same strategy parity basis folded c d same ∙ sym (made_boundaries other);
      steps = made_steps plan ∙ steps_same strategy parity basis folded c d same ∙ sym (made_steps other);
      heads = ap₂ (λ (h i : Head). with_interval i.interval h) (made_head plan ∙ heads plan.lower plan.upper) (made_head other)
          ∙ heads_alike strategy parity basis folded d plan.lower plan.upper other.lower other.upper ∙ sym (made_head other);
      same_head = λ lower upper. made_head plan ∙ heads plan.lower plan.upper
          ∙ ap₂ (head_for strategy parity basis folded d) lower upper ∙ sym (made_head other);
    }

pub plans_add : (folded : Bool) → PlansAdd folded
plans_add folded strategy parity basis c d same first second sum =
    let long : length (sum_of whole_ops c d) ≡ length c = length_sum integers c d same in
    record {
      lists = made_lists sum ∙ lists_sum strategy parity basis folded c d same
          ∙ ap₂ (sum_of whole_ops) (sym (made_lists first)) (sym (made_lists second));
      as_first = lengths_shape strategy parity basis folded (sum_of whole_ops c d) c long sum first;
      as_second = lengths_shape strategy parity basis folded (sum_of whole_ops c d) d (long ∙ same) sum second;
    }

pub plans_multiply : (folded : Bool) → PlansMultiply folded
plans_multiply folded strategy parity basis k c plan multiple = record {
  lists = made_lists multiple ∙ lists_multiple strategy parity basis folded k c ∙ ap (multiple_of whole_ops k) (sym (made_lists plan));
  as_plan = lengths_shape strategy parity basis folded (multiple_of whole_ops k c) c (length_multiple k c) multiple plan;
}

-- ---- without a call

-- head, lists, boundaries and steps of a polynomial's plan are walked to its value, wherever they come from
plan_walks : (strategy : SplitStrategy) (parity : Parity) (basis : Basis) (folded : Bool) (c : List ℤ) (a b : Float) {head : Head} {lists : List ℤ}
    {bounds steps : List ℕ} → Accepted folded parity c → head ≡ head_for strategy parity basis folded c a b
    → lists ≡ coefficients_for strategy parity basis folded c → bounds ≡ boundaries_for strategy parity basis folded c
    → steps ≡ numbers_for strategy parity basis folded c → (x : ℤ) → WalksRight head lists bounds steps basis c x
plan_walks strategy parity basis folded c a b {head} {lists} {bounds} {steps} accepted head_is lists_are bounds_are steps_are x =
    rw head_is
    (stored_right strategy parity basis folded c a b lists bounds steps x accepted record {
      more_coefficients = [];
      more_bounds = [];
      more_steps = [];
      coefficients_are = lists_are ∙ sym (append-nil _);
      bounds_are = bounds_are ∙ sym (append-nil _);
      steps_are = steps_are ∙ sym (append-nil _);
    })

module _ {strategy : SplitStrategy} {parity : Parity} {basis : Basis} {folded : Bool} {c : List ℤ} (plan : MadePlan strategy parity basis folded c)
    (d : List ℤ) (same : length c ≡ length d) where
  -- beside those of a plan, the lists of another polynomial of its length
  walks_beside : {lists : List ℤ} → Accepted folded parity d → lists ≡ coefficients_for strategy parity basis folded d
      → (x : ℤ) → WalksRight plan.answer.head lists (boundaries_in plan) (steps_in plan) basis d x
  walks_beside {lists} accepted lists_are =
      plan_walks strategy parity basis folded d plan.lower plan.upper accepted
      (made_head plan ∙ heads_same strategy parity basis folded c d same plan.lower plan.upper) lists_are
      (made_boundaries plan ∙ boundaries_same strategy parity basis folded c d same)
      (made_steps plan ∙ steps_same strategy parity basis folded c d same)

pub added_right : (folded : Bool) → AddedRight folded
added_right folded strategy parity basis c d same first second accepted =
    walks_beside first (sum_of whole_ops c d) (sym (length_sum integers c d same)) accepted
    (ap₂ (sum_of whole_ops) (made_lists first) (made_lists second) ∙ sym (lists_sum strategy parity basis folded c d same))

pub multiplied_right : (folded : Bool) → MultipliedRight folded
multiplied_right folded strategy parity basis k c plan accepted =
    walks_beside plan (multiple_of whole_ops k c) (sym (length_multiple k c)) accepted
    (ap (multiple_of whole_ops k) (made_lists plan) ∙ sym (lists_multiple strategy parity basis folded k c))
