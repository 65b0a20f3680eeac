-- The published rules are laws of the crates below (demand 2). A plan has the base and depth of the calls on its degree, and its lists are those of
-- the f64 calls on the same coefficients: the f64 fold writes equal numbers, and so does the listing of whatever sums, times its length, to at most
-- 2^53.
use mathlib.Core.Path.{◌≡◌, refl, ap, sym, subst, ◌∙◌}
use mathlib.Core.Bool.{Bool, true, false, false≢true}
use mathlib.Core.List.{List, map}
use Prim.Native.Nat.{ℕ, suc, ◌+◌, ◌-◌, ◌^◌, ◌≤◌}
use native.Mathlib.Omega.{arith}
use borrow.Author.Tests.{le-ltb, le-leb, ne_eqb}
use lib.IntN.{ℤ}
use lib.Ieee.{Float}
use lib.ListN.{length, length-map}
use lib.Seq.{sets}
use Rattle.algebra.specs.Operations.{whole_ops}
use Rattle.algebra.specs.Fold.{fold}
use Rattle.algebra.specs.Magnitude.{sum_abs}
use Rattle.algebra.specs.Transform.{transform_of}
use Rattle.algebra.specs.declared.Basis.{Basis}
use Rattle.algebra.specs.declared.Parity.{Parity}
use Rattle.algebra.specs.declared.Parity.TheVariants.{Full}
use Rattle.algebra.proofs.CutLaw.{cut_law}
use Rattle.algebra.proofs.FoldLaw.{fold_law}
use Rattle.algebra.proofs.ProductLaw.{product_law}
use Rattle.number.specs.Exact.{num}
use Rattle.number.specs.FoldCall.{fold_tests, fold_refusal, fold_answer, fold_buffer, FoldCall}
use Rattle.number.specs.Limits.{plan_limit, sum_limit, degree_limit}
use Rattle.number.specs.Numbers.{whole_numbers, float_ops, float_numbers}
use Rattle.number.specs.Refusal.{unless_refused}
use Rattle.number.specs.FoldCall.{Folded}
use Rattle.number.proofs.Bits.{digits_by_halving, powers_of_two}
use Rattle.number.proofs.CutSame.{cuts_same}
use Rattle.number.proofs.EvaluateLaw.{evaluate_law}
use Rattle.number.proofs.Exact.{exact}
use Rattle.number.proofs.FoldSame.{folds_same}
use Rattle.number.proofs.FirstRefusal.{none_holds, refusal_of, when_accepted}
use Rattle.interpolation.proofs.InterpolateLaw.{interpolate_law}
use Rattle.needed.proofs.Promises.{needed_powers}
use Rattle.counts.specs.Choice.{split_for}
use Rattle.counts.specs.Depth.{depth_of}
use Rattle.counts.specs.Calls.{min_depth_call, min_mult_call, depth_call}
use Rattle.counts.specs.declared.choice.SplitStrategy.{SplitStrategy}
use Rattle.counts.specs.declared.choice.SplitStrategy.TheVariants.{MinDepth, MinMult}
use Rattle.counts.proofs.PlainCount.{allowed_counts}
use Rattle.counts.proofs.Promises.{chosen}
use Rattle.counts.proofs.SliceRule.{slice_rule}
use Rattle.lists.specs.Tree.{relists}
use Rattle.lists.specs.Arrange.{arranged, leaves_of}
use Rattle.lists.specs.ListCall.{Listed, list_refusal, list_answer, list_coefficients, list_boundaries, ListCall}
use Rattle.lists.proofs.Lists.{lists_in_order}
use Rattle.lists.proofs.Promises.{lists_to_53, folded_lists_to_53, lists_same, folded_lists_same}
use Rattle.lists.proofs.Same.{arranged_same}
use Rattle.lists.proofs.TreeRule.{trees_by_rule}
use Rattle.walk.specs.declared.plan.Head.{Head}
use Rattle.plan.specs.PlanHead.{head_of}
use Rattle.plan.specs.Reported.{transform_cost}
use Rattle.plan.specs.PlanCall.{planned_coefficients, planned_parity, planned_transform, input_tests, Accepted, planned, planned_degree, tree, head_for}
use Rattle.plan.specs.PlanCall.{coefficients_for, boundaries_for}
use Rattle.plan.proofs.PlanTests.{inputs_numbered, planned_to_53}
use Rattle.demands.specs.Accepts.{Covered}
use Rattle.demands.specs.Equal.{Published, FloatsEqual, planned_floats, split_call, ListsPlan, FoldsPlan, PlansEqual}
use Rattle.demands.proofs.Accepts.{Plannable, covered_accepted, plannable}
use Rattle.demands.proofs.Right.{from_one}

-- ---- the published rules

pub published : Published
published = record {
  digits = digits_by_halving;
  powers_of_two = powers_of_two;
  split_choice = chosen;
  slices = slice_rule;
  allowed = allowed_counts;
  needed = needed_powers;
  cuts = trees_by_rule;
  cut_values = λ 𝓡. cut_law 𝓡;
  in_order = λ A. lists_in_order {A = A};
  products = λ 𝓡. product_law 𝓡;
  folding = λ 𝓡. fold_law 𝓡;
  evaluation = λ 𝓡. evaluate_law 𝓡;
  interpolation = λ 𝓡. interpolate_law 𝓡;
}

pub floats_equal : FloatsEqual
floats_equal = record {
  exact = exact;
  cuts = cuts_same;
  folds = folds_same;
  lists = lists_same;
  lists_to_53 = lists_to_53;
  folded_lists = folded_lists_same;
  folded_lists_to_53 = folded_lists_to_53;
}

-- ---- base and depth

split_called : (strategy : SplitStrategy) (parity : Parity) (basis : Basis) (degree : ℕ) → 1 ≤ degree → degree ≤ plan_limit
    → split_for strategy parity basis degree ≡ (split_call strategy parity basis degree).split
unfolding split_for min_depth_call min_mult_call unless_refused
split_called MinDepth parity basis degree from to =
    let below : degree ≤ degree_limit = omega arith in
    rw (le-ltb degree_limit degree below, ne_eqb degree 0 (λ zero_is. omega arith))
split_called MinMult parity basis degree from to = rw (le-ltb plan_limit degree to)

depth_called : (strategy : SplitStrategy) (degree : ℕ) → degree ≤ plan_limit → depth_of strategy degree ≡ (depth_call strategy degree).depth
unfolding depth_call unless_refused
depth_called strategy degree to = let below : degree ≤ degree_limit = omega arith in rw (le-ltb degree_limit degree below)

-- ---- what is planned, on f64

small_told : (c : List ℤ) → sum_abs c ≤ sum_limit → whole_numbers.small c ≡ true
small_told c small = le-leb (sum_abs c) sum_limit small

planned_floats_lem : (folded : Bool) (parity : Parity) (basis : Basis) (c : List ℤ) → sum_abs c ≤ sum_limit
    → planned_floats folded parity basis c ≡ map num (planned_coefficients folded parity basis c)
planned_floats_lem true parity basis c small = (folds_same parity basis c (small_told c small)).written
planned_floats_lem false parity basis c small = refl

module _ (strategy : SplitStrategy) (parity : Parity) (basis : Basis) (folded : Bool) (c : List ℤ) (a b : Float) (accepted : Accepted folded parity c)
  where
    abbrev head : Head
    head = head_for strategy parity basis folded c a b

    abbrev floats : List Float
    floats = map num (planned strategy parity basis folded c)

    facts : Plannable (planned_parity folded parity) (planned strategy parity basis folded c)
    facts = plannable folded parity basis c accepted

    covered : Covered folded parity c
    covered = (covered_accepted folded parity c).0 accepted

    same_length : length floats ≡ length (planned strategy parity basis folded c)
    same_length = length-map (planned strategy parity basis folded c) num

    -- the listing
    same_listing : arranged float_ops basis (tree strategy parity basis folded c) floats ≡ map num (coefficients_for strategy parity basis folded c)
    same_listing =
        arranged_same (relists strategy) basis (planned_degree strategy parity basis folded c)
        (split_for strategy (planned_parity folded parity) basis (planned_degree strategy parity basis folded c)) (planned strategy parity basis folded c)
        (planned_to_53 folded parity basis c covered.magnitudes covered.degree_to) (omega (arith, facts.several)) facts.few
        (from_one strategy parity basis folded c accepted)

    -- the list call passes all its tests
    module _ (out : List Float) (bounds : List ℕ) (room : head.coefficients ≤ length out) (ends : head.lists ≤ length bounds) where
      list_passes : list_refusal float_numbers strategy (planned_parity folded parity) basis floats out bounds ≡ 0
      unfolding list_refusal head_of
      list_passes =
          let degree = planned_degree strategy parity basis folded c in
          let positive = facts.several in
          let enough : length (planned strategy parity basis folded c) ≤ length out = omega arith in
          rw (
            same_length,
            le-ltb plan_limit degree facts.few,
            ne_eqb degree 0 (λ zero_is. omega arith),
            le-ltb (length out) (length (planned strategy parity basis folded c)) enough,
            le-ltb (length bounds) (leaves_of (tree strategy parity basis folded c)) ends,
          )

      listed : (r : Listed) (out' : List Float) (bounds' : List ℕ)
          → ListCall float_numbers strategy (planned_parity folded parity) basis floats out bounds r out' bounds'
          → ListsPlan head (coefficients_for strategy parity basis folded c) (boundaries_for strategy parity basis folded c) out bounds r out' bounds'
      unfolding list_answer list_coefficients list_boundaries head_of
      listed r out' bounds' call =
          let places : length (planned strategy parity basis folded c) ≡ suc (planned_degree strategy parity basis folded c) = omega (arith, facts.several) in
          record {
            answer = call.answer ∙ sym (when_accepted _ _ list_passes) ∙ rw (same_length) (ap
                (λ (n : ℕ). record {
                  refusal = 0;
                  degree = planned_degree strategy parity basis folded c;
                  base = 2 ^ split_for strategy (planned_parity folded parity) basis (planned_degree strategy parity basis folded c);
                  coefficients = n;
                  lists = leaves_of (tree strategy parity basis folded c);
                }) places);
            numbers = call.coefficients ∙ sym (when_accepted _ _ list_passes) ∙ rw (same_length) (ap (sets out 0) same_listing);
            ends = call.boundaries ∙ sym (when_accepted _ _ list_passes) ∙ rw (same_length);
          }

-- ---- the fold call

module _ (parity : Parity) (basis : Basis) (c : List ℤ) (accepted : Accepted true parity c) where
  covered_fold : Covered true parity c
  covered_fold = (covered_accepted true parity c).0 accepted

  -- the whole fold, into a buffer of its own length, is accepted; so the f64 fold of the same coefficients is
  abbrev whole_fold : List ℤ
  whole_fold = fold whole_ops parity basis c

  whole_passes : fold_refusal whole_numbers parity basis c whole_fold ≡ 0
  unfolding fold_refusal
  whole_passes =
      let tests = none_holds (input_tests true parity c) (inputs_numbered true parity c) accepted in
      rw (
        tests.0,
        tests.1.1.0,
        tests.1.1.1.0,
        tests.1.1.1.1.0,
        tests.1.1.1.1.1.0,
        le-ltb (length whole_fold) (length whole_fold) (omega arith),
      )

  float_passes : fold_refusal float_numbers parity basis (map num c) (map num whole_fold) ≡ 0
  unfolding fold_answer
  float_passes =
      sym (refusal_of (fold_refusal float_numbers parity basis (map num c) (map num whole_fold)) _ _ (λ (f : Folded). f.refusal) refl refl)
      ∙ ap (λ (f : Folded). f.refusal) ((folds_same parity basis c (small_told c covered_fold.magnitudes)).answer whole_fold)
      ∙ refusal_of (fold_refusal whole_numbers parity basis c whole_fold) _ _ (λ (f : Folded). f.refusal) refl refl ∙ whole_passes

  -- the refusal goes by the length of the buffer alone
  fold_passes : (out : List Float) → length whole_fold ≤ length out → fold_refusal float_numbers parity basis (map num c) out ≡ 0
  unfolding fold_refusal
  fold_passes out room =
      let tests = none_holds (fold_tests float_numbers parity basis (map num c) (map num whole_fold))
      (omega arith, (omega arith, (omega arith, (omega arith, (omega arith, (omega arith, tt)))))) float_passes in
      let size : length (fold float_ops parity basis (map num c)) ≡ length whole_fold =
      ap length (planned_floats_lem true parity basis c covered_fold.magnitudes) ∙ length-map whole_fold num in
      rw (tests.0, tests.1.0, tests.1.1.0, tests.1.1.1.0, size, le-ltb (length out) (length whole_fold) room)

fold_called : (strategy : SplitStrategy) (parity : Parity) (basis : Basis) (folded : Bool) (c : List ℤ) (a b : Float) → Accepted folded parity c
    → folded ≡ true
    → (out : List Float) (r : Folded) (left : List Float) → FoldCall float_numbers parity basis (map num c) out r left
    → (head_for strategy parity basis folded c a b).coefficients ≤ length out
    → FoldsPlan (head_for strategy parity basis folded c a b) (planned strategy parity basis folded c) out r left
unfolding head_of fold_answer fold_buffer
fold_called strategy parity basis false c a b accepted folds out r left call room = absurd (false≢true folds)
fold_called strategy parity basis true c a b accepted folds out r left call room =
    let facts = plannable true parity basis c accepted in
    let small = ((covered_accepted true parity c).0 accepted).magnitudes in
    let several = facts.several in
    let places : length (fold whole_ops parity basis c) ≡ suc (length (fold whole_ops parity basis c) - 1) = omega arith in
    let passes = fold_passes parity basis c accepted out (omega arith) in
    let same = planned_floats_lem true parity basis c small in
    record {
      answer = call.answer ∙ sym (when_accepted _ _ passes)
          ∙ ap (λ (n : ℕ). record { refusal = 0; transform = transform_of parity basis; parity = Full; count = n })
          (ap length same ∙ length-map (fold whole_ops parity basis c) num ∙ places);
      numbers = call.buffer ∙ sym (when_accepted _ _ passes) ∙ ap (sets out 0) same;
    }

-- ---- a plan

pub plans_equal : PlansEqual
unfolding head_of
plans_equal strategy parity basis folded c a b accepted =
    let facts = plannable folded parity basis c accepted in
    let degree = planned_degree strategy parity basis folded c in
    let several = facts.several in
    record {
      base = ap (λ (s : ℕ). 2 ^ s) (split_called strategy (planned_parity folded parity) basis degree (omega arith) facts.few);
      depth = ap (λ (d : ℕ). d + transform_cost (planned_transform folded parity basis)) (depth_called strategy degree facts.few);
      fold_call = fold_called strategy parity basis folded c a b accepted;
      list_call = λ out bounds r out' bounds' call room ends. listed strategy parity basis folded c a b accepted out bounds room ends r out' bounds'
          (subst (λ (l : List Float). ListCall float_numbers strategy (planned_parity folded parity) basis l out bounds r out' bounds')
          (planned_floats_lem folded parity basis c ((covered_accepted folded parity c).0 accepted).magnitudes) call);
    }
