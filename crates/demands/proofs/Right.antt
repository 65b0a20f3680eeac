-- The plan is right (demand 3). Its steps leave the planned polynomial's value at the transform's y (PlanRun), from which the fold law makes the
-- value of the polynomial handed in. The buffers hold the lists and steps, so their walk is that of the lists and steps; and the trial walk
-- follows.
use mathlib.Core.Path.{◌≡◌, refl, ap, sym, ◌∙◌}
use mathlib.Core.Bool.{Bool, true, false}
use mathlib.Core.List.{List, [], ◌∷◌, ◌++◌}
use mathlib.Core.Option.{Option, some}
use Prim.Native.Nat.{ℕ, ◌*◌, ◌^◌, ◌≤◌, ◌<◌}
use native.Mathlib.Omega.{arith}
use lib.Ieee.{Float}
use lib.IntN.{ℤ}
use lib.ListN.{length, take, drop}
use lib.Seq.{sets}
use Rattle.algebra.specs.Operations.{whole_ops}
use Rattle.algebra.specs.Allowed.{HasParity}
use Rattle.algebra.specs.Cut.{cut_at}
use Rattle.algebra.specs.Value.{value}
use Rattle.algebra.specs.Remainder.{rem}
use Rattle.algebra.specs.Transform.{input_of, output_of}
use Rattle.algebra.specs.declared.Basis.{Basis}
use Rattle.algebra.specs.declared.Parity.{Parity}
use Rattle.algebra.proofs.FoldLaw.{fold_law}
use Rattle.algebra.proofs.Integers.{integers}
use Rattle.algebra.proofs.IsRemainder.{remainders_told}
use Rattle.number.specs.Options.{◌then◌, missing}
use Rattle.number.proofs.FirstRefusal.{when_accepted}
use Rattle.counts.specs.Choice.{split_for}
use Rattle.counts.specs.declared.choice.SplitStrategy.{SplitStrategy}
use Rattle.counts.proofs.Promises.{chosen}
use Rattle.lists.specs.Tree.{Tree, leaf, cut, relists}
use Rattle.lists.specs.TreeFacts.{Sound}
use Rattle.lists.specs.Lists.{lists_of, InOrder}
use Rattle.lists.proofs.Arranging.{length_ends, low_size, high_size}
use Rattle.lists.proofs.Bounds.{sound_for}
use Rattle.lists.proofs.ListCall.{front}
use Rattle.lists.proofs.Lists.{lists_in_order, length_arranged}
use Rattle.walk.specs.Limits.{modulus_limit}
use Rattle.walk.specs.Rules.{exact_rules}
use Rattle.walk.specs.State.{Lists}
use Rattle.walk.specs.Walk.{walk_of}
use Rattle.walk.specs.Lent.{steps_from, lent_steps, exact_walk}
use Rattle.walk.specs.Trial.{trial_of}
use Rattle.walk.specs.WalksHeld.{numbered, Filled, empty, more, Holds}
use Rattle.walk.specs.declared.plan.Head.{Head}
use Rattle.walk.specs.declared.plan.Step.{Step}
use Rattle.walk.proofs.FlatSteps.{flat_steps, flat_length}
use Rattle.walk.proofs.TrialFollows.{trial_follows}
use Rattle.walk.proofs.Unrunnable.{refused_for_reasons}
use Rattle.walk.proofs.WalksHeld.{walks_held}
use Rattle.plan.specs.PlanHead.{head_of}
use Rattle.plan.specs.PlanCall.{planned_coefficients, planned_parity, planned_transform, Accepted, planned, planned_degree, tree, head_for}
use Rattle.plan.specs.PlanCall.{coefficients_for, boundaries_for, numbers_for, plan_refusal, plan_answer, plan_coefficients, plan_boundaries, plan_numbers}
use Rattle.demands.specs.Right.{lists_for, steps_for, StepsRight, WalksRight, Stored, StoredRight, PlansRight}
use Rattle.demands.proofs.Accepts.{Plannable, covered_accepted, plannable}
use Rattle.demands.proofs.Refusals.{head_fits, plan_made_lem}
use Rattle.demands.proofs.PlanRun.{steps_walk}

-- ---- the steps

-- the value at the transform's y, made into the value at x
back_to : (folded : Bool) (parity : Parity) (basis : Basis) (c : List ℤ) (x : ℤ) → HasParity whole_ops parity c
    → output_of whole_ops (planned_transform folded parity basis) x
    (value whole_ops basis (input_of whole_ops (planned_transform folded parity basis) x) (planned_coefficients folded parity basis c))
    ≡ value whole_ops basis x c
unfolding input_of output_of
back_to true parity basis c x fits = fold_law integers parity basis x c fits
back_to false parity basis c x fits = refl

-- of steps that leave the planned polynomial's value at the transform's y, the transform's output is the value at x
pub walked_back : (strategy : SplitStrategy) (parity : Parity) (basis : Basis) (folded : Bool) (c : List ℤ) (x : ℤ) (lists : Lists) (steps : List Step)
    → Accepted folded parity c
    → walk_of exact_rules (planned_parity folded parity) basis lists steps (input_of whole_ops (planned_transform folded parity basis) x)
    ≡ some (value whole_ops basis (input_of whole_ops (planned_transform folded parity basis) x) (planned strategy parity basis folded c))
    → (walk_of exact_rules (planned_parity folded parity) basis lists steps (input_of whole_ops (planned_transform folded parity basis) x)
    then λ v. some (output_of whole_ops (planned_transform folded parity basis) x v))
    ≡ some (value whole_ops basis x c)
walked_back strategy parity basis folded c x lists steps accepted walks =
    ap (λ (o : Option ℤ). o then λ v. some (output_of whole_ops (planned_transform folded parity basis) x v)) walks
    ∙ ap some (back_to folded parity basis c x ((covered_accepted folded parity c).0 accepted).right_parity)

pub steps_right : StepsRight
steps_right strategy parity basis folded c x accepted =
    let facts = plannable folded parity basis c accepted in
    let from_one = (chosen (planned_parity folded parity) basis (planned_degree strategy parity basis folded c)).from_one strategy
    (omega (arith, facts.several)) facts.few in
    walked_back strategy parity basis folded c x (numbered (lists_for strategy parity basis folded c)) (steps_for strategy parity basis folded c) accepted
    (steps_walk (relists strategy) (planned_parity folded parity) basis
    (split_for strategy (planned_parity folded parity) basis (planned_degree strategy parity basis folded c))
    (planned strategy parity basis folded c) (input_of whole_ops (planned_transform folded parity basis) x) from_one
    facts.several facts.few facts.fits)

-- ---- the buffers

-- of a walk that ends with the value all is right: the trial walk follows it, and no reason to refuse it holds
pub walks_by : (head : Head) (coefficients : List ℤ) (bounds steps : List ℕ) (basis : Basis) (c : List ℤ) (x : ℤ)
    → exact_walk head coefficients bounds steps x ≡ some (value whole_ops basis x c) → WalksRight head coefficients bounds steps basis c x
walks_by head coefficients bounds steps basis c x exact = record {
  exact = exact;
  trial = trial;
  remainder = λ modulus low high. rw (trial modulus low high) (remainders_told modulus (omega arith) (value whole_ops basis x c)).is;
  runs = sym (refused_for_reasons ℤ exact_rules head coefficients bounds steps x) ∙ ap missing exact;
}
  where
    trial : (modulus : ℕ) → 2 ≤ modulus → modulus ≤ modulus_limit
        → trial_of head coefficients bounds steps x modulus ≡ record { refusal = 0; remainder = rem modulus (value whole_ops basis x c) }
    trial modulus low high = (trial_follows head coefficients bounds steps x modulus low high).answers (value whole_ops basis x c) exact

-- a sound tree makes no empty list
filled_append : (xs ys : List (List ℤ)) → Filled xs → Filled ys → Filled (xs ++ ys)
filled_append [] ys empty rest = rest
filled_append (x ∷ xs) ys (more here filled) rest = more here (filled_append xs ys filled rest)

filled_lists : (basis : Basis) (base : ℕ) (tree : Tree) (c : List ℤ) → Sound base tree (length c) → Filled (lists_of whole_ops basis tree c)
unfolding lists_of
filled_lists basis base leaf c sound = more sound.nonempty empty
filled_lists basis base (cut p low high) c sound =
    let c₁ = cut_at whole_ops basis p c in
    let under : p < length c = sound.under in
    filled_append (lists_of whole_ops basis low (take p c₁)) (lists_of whole_ops basis high (drop p c₁))
    (filled_lists basis base low (take p c₁) (rw (low_size whole_ops basis p c under) sound.low))
    (filled_lists basis base high (drop p c₁) (rw (high_size whole_ops basis p c under) sound.high))

module _ (strategy : SplitStrategy) (parity : Parity) (basis : Basis) (folded : Bool) (c : List ℤ) (accepted : Accepted folded parity c) where
  abbrev split : ℕ
  split = split_for strategy (planned_parity folded parity) basis (planned_degree strategy parity basis folded c)

  facts : Plannable (planned_parity folded parity) (planned strategy parity basis folded c)
  facts = plannable folded parity basis c accepted

  pub from_one : 1 ≤ split
  from_one =
      (chosen (planned_parity folded parity) basis (planned_degree strategy parity basis folded c)).from_one strategy (omega (arith, facts.several))
      facts.few

  pub sound : Sound (2 ^ split) (tree strategy parity basis folded c) (length (planned strategy parity basis folded c))
  sound =
      sound_for (relists strategy) (planned_degree strategy parity basis folded c) split (planned strategy parity basis folded c)
      (omega (arith, facts.several)) facts.few from_one

  pub ordered : InOrder whole_ops basis (tree strategy parity basis folded c) (planned strategy parity basis folded c)
  ordered =
      lists_in_order whole_ops (relists strategy) basis (planned_degree strategy parity basis folded c) split (planned strategy parity basis folded c)
      (omega (arith, facts.several)) facts.few from_one

  -- as many as there are coefficients, lists and steps, by the head on any interval
  module _ (a b : Float) where
    abbrev head : Head
    head = head_for strategy parity basis folded c a b

    pub coefficients_length : length (coefficients_for strategy parity basis folded c) ≡ head.coefficients
    unfolding head_of
    coefficients_length =
        length_arranged whole_ops basis (2 ^ split) (tree strategy parity basis folded c) (planned strategy parity basis folded c) sound
        ∙ omega (arith, facts.several)

    pub boundaries_length : length (boundaries_for strategy parity basis folded c) ≡ head.lists
    unfolding head_of
    boundaries_length = length_ends (tree strategy parity basis folded c) 0 (length (planned strategy parity basis folded c))

    pub numbers_length : length (numbers_for strategy parity basis folded c) ≡ 4 * head.steps
    unfolding head_of
    numbers_length = flat_length (steps_for strategy parity basis folded c)

    module _ (coefficients : List ℤ) (bounds steps : List ℕ) (stored : Stored strategy parity basis folded c coefficients bounds steps) where
      pub holds : Holds head coefficients bounds steps (lists_for strategy parity basis folded c) (steps_for strategy parity basis folded c)
      unfolding head_of
      holds = record {
        coefficient_count_lem = sym coefficients_length ∙ ap length ordered.places;
        list_count_lem = ordered.count;
        step_count_lem = refl;
        filled = filled_lists basis (2 ^ split) (tree strategy parity basis folded c) (planned strategy parity basis folded c) sound;
        more_coefficients = stored.more_coefficients;
        more_bounds = stored.more_bounds;
        more_steps = stored.more_steps;
        coefficients_are = stored.coefficients_are ∙ ap (λ (l : List ℤ). l ++ stored.more_coefficients) ordered.places;
        bounds_are = stored.bounds_are ∙ ap (λ (l : List ℕ). l ++ stored.more_bounds) (ordered.ends 0);
        steps_are = stored.steps_are;
      }

      exact : (x : ℤ) → exact_walk head coefficients bounds steps x ≡ some (value whole_ops basis x c)
      unfolding head_of
      exact x =
          walks_held ℤ exact_rules head coefficients bounds steps (lists_for strategy parity basis folded c) (steps_for strategy parity basis folded c) x
          holds
          ∙ steps_right strategy parity basis folded c x accepted

      pub walks_right : (x : ℤ) → WalksRight head coefficients bounds steps basis c x
      walks_right x = walks_by head coefficients bounds steps basis c x (exact x)

-- the steps that are read from the buffer
pub lent_steps_lem : (strategy : SplitStrategy) (parity : Parity) (basis : Basis) (folded : Bool) (c : List ℤ) (a b : Float) (coefficients : List ℤ)
    (bounds steps : List ℕ)
    → Stored strategy parity basis folded c coefficients bounds steps
    → lent_steps (head_for strategy parity basis folded c a b) steps ≡ steps_for strategy parity basis folded c
unfolding head_of
lent_steps_lem strategy parity basis folded c a b coefficients bounds steps stored =
    let all = steps_for strategy parity basis folded c in
    ap (λ (l : List ℕ). steps_from l 0 (length all)) stored.steps_are ∙ flat_steps all stored.more_steps

pub stored_right : StoredRight
stored_right strategy parity basis folded c a b coefficients bounds steps x accepted stored =
    walks_right strategy parity basis folded c accepted a b coefficients bounds steps stored x

-- ---- the call

pub plans_right : PlansRight
unfolding plan_answer plan_coefficients plan_boundaries plan_numbers
plans_right strategy parity basis folded c a b out bounds steps r out' bounds' steps' brings call =
    let accepted = brings.accepted in
    let long = head_fits strategy parity basis folded c a b out bounds steps brings in
    let done : plan_refusal strategy parity basis folded c a b out bounds steps ≡ 0 =
    plan_made_lem strategy parity basis folded c a b out bounds steps brings in
    let xs = coefficients_for strategy parity basis folded c in
    let es = boundaries_for strategy parity basis folded c in
    let ns = numbers_for strategy parity basis folded c in
    let xs_length = coefficients_length strategy parity basis folded c accepted a b in
    let es_length = boundaries_length strategy parity basis folded c accepted a b in
    let ns_length = numbers_length strategy parity basis folded c accepted a b in
    let answer_is = call.answer ∙ sym (when_accepted _ _ done) in
    let stored_is : Stored strategy parity basis folded c out' bounds' steps' = record {
      more_coefficients = drop (length xs) out;
      more_bounds = drop (length es) bounds;
      more_steps = drop (length ns) steps;
      coefficients_are = call.coefficients ∙ sym (when_accepted (sets out 0 xs) out done) ∙ front xs out (omega (arith, long.coefficients));
      bounds_are = call.boundaries ∙ sym (when_accepted (sets bounds 0 es) bounds done) ∙ front es bounds (omega (arith, long.boundaries));
      steps_are = call.numbers ∙ sym (when_accepted (sets steps 0 ns) steps done) ∙ front ns steps (omega (arith, long.numbers));
    } in
    record {
      answer = answer_is;
      stored = stored_is;
      coefficients_beyond = rw answer_is (ap (λ (n : ℕ). drop n out) xs_length);
      bounds_beyond = rw answer_is (ap (λ (n : ℕ). drop n bounds) es_length);
      steps_beyond = rw answer_is (ap (λ (n : ℕ). drop n steps) ns_length);
      walks = λ x. rw answer_is (stored_right strategy parity basis folded c a b out' bounds' steps' x accepted stored_is);
    }
