-- Every call ends with an answer or a refusal (demand 1). A call's refusal is that of its list of tests, so by cases of its number: 0 says that no
-- test holds, any other number that it is the first test's that does; and what is left after either is what the call's definition says.
use mathlib.Core.Path.{◌≡◌, refl, ap, sym, subst, ◌∙◌}
use mathlib.Core.Bool.{Bool, true, false, ◌||◌, true≢false}
use mathlib.Core.List.{List, [], ◌∷◌}
use Prim.Native.Nat.{ℕ, zero, suc, ◌<◌}
use native.Mathlib.Omega.{arith}
use borrow.Author.Tests.{ltb-false, eqb-false}
use lib.Dec.{ltb}
use lib.Ieee.{Float}
use lib.IntN.{ℤ}
use lib.ListN.{length}
use Rattle.algebra.specs.Remainder.{rem}
use Rattle.algebra.specs.declared.Basis.{Basis}
use Rattle.algebra.specs.declared.Basis.TheVariants.{Monomial}
use Rattle.algebra.specs.declared.Parity.{Parity}
use Rattle.algebra.specs.declared.Parity.TheVariants.{Full}
use Rattle.algebra.proofs.IsRemainder.{remainders_told}
use Rattle.number.specs.Bits.{bit_len, is_power_of_two}
use Rattle.number.specs.FoldCall.{fold_tests, fold_refusal, fold_answer, fold_buffer}
use Rattle.number.specs.Limits.{plan_limit, degree_limit, scale_limit}
use Rattle.number.specs.Numbers.{Numbers, float_numbers}
use Rattle.number.specs.Refusal.{Test, first_refusal, unless_refused, Numbered}
use Rattle.number.specs.Split.{Parts, parts_by, parts_of, no_parts, split_refusal, split_of}
use Rattle.number.specs.Tests.{degree_of, no_degree, too_high, unordered, miscounted, out_of_range, too_wide, no_room}
use Rattle.number.specs.FoldCall.{Folded}
use Rattle.number.proofs.FirstRefusal.{none_holds, numbered_append, refusals_say, refusal_of, when_refused, when_accepted}
use Rattle.number.proofs.Options.{missing_image, missing_some}
use Rattle.bases.specs.Convert.{converted}
use Rattle.bases.proofs.Promises.{values_kept}
use Rattle.conversion.specs.ConvertCall.{convert_tests, refusal_for}
use Rattle.interpolation.specs.Interpolate.{coefficients_of}
use Rattle.interpolation.specs.InterpolateCall.{Interpolated, interpolate_refusal, interpolate_answer, interpolate_buffer}
use Rattle.counts.specs.Calls.{OpCounts, SplitChoice, ConsumedBits, LargestDegree, EvalDepth}
use Rattle.counts.specs.Calls.{no_split, min_depth_refusal, min_depth_call, min_mult_refusal, min_mult_call, no_counts, counts_refusal, counts_call}
use Rattle.counts.specs.Calls.{no_depth, depth_refusal, depth_call, no_bits, bits_refusal, bits_call, no_largest, largest_tests, largest_call}
use Rattle.counts.specs.Choice.{split_for, counts_of}
use Rattle.counts.specs.ConsumedBits.{bits_of}
use Rattle.counts.specs.LargestDegree.{greatest_within, GreatestWithin}
use Rattle.counts.specs.Depth.{depth_of}
use Rattle.counts.specs.MinDepth.{min_depth}
use Rattle.counts.specs.MinMult.{min_mult}
use Rattle.counts.specs.declared.choice.SplitStrategy.{SplitStrategy}
use Rattle.counts.specs.declared.choice.SplitStrategy.TheVariants.{MinDepth, MinMult}
use Rattle.counts.proofs.BudgetPromises.{largest_degrees}
use Rattle.counts.proofs.Promises.{chosen}
use Rattle.lists.specs.Tree.{relists, plan_tree}
use Rattle.lists.specs.Arrange.{leaves_of}
use Rattle.lists.specs.Lists.{lists_of}
use Rattle.lists.specs.ListCall.{Listed, list_tests, list_refusal, list_answer, list_coefficients, list_boundaries}
use Rattle.lists.proofs.Lists.{lists_in_order}
use Rattle.rebuild.specs.RebuildCall.{Rebuilt, coefficients_from, rebuild_tests, rebuild_refusal, rebuild_answer, rebuild_coefficients}
use Rattle.rebuild.proofs.RoundTrips.{rebuilt_facts, rebuilt_size, count_is, buffer_is}
use Rattle.walk.specs.Limits.{modulus_limit}
use Rattle.walk.specs.Lent.{exact_walk}
use Rattle.walk.specs.Trial.{trial_tests, trial_refusal, trial_of}
use Rattle.walk.specs.declared.plan.Head.{Head}
use Rattle.walk.specs.Chain.{answer_made, chain_tests, chain_refusal, chain_of}
use Rattle.walk.specs.HeaviestChain.{GreatestOfAnswer}
use Rattle.walk.specs.Trial.{Trial}
use Rattle.walk.specs.Chain.{Chain}
use Rattle.walk.proofs.TrialFollows.{trial_follows}
use Rattle.walk.proofs.Paths.{heaviest_greatest}
use Rattle.walk.proofs.ChainLaws.{one_made}
use Rattle.plan.specs.PlanHead.{no_head}
use Rattle.plan.specs.PlanCall.{planned_parity, settings_tests, early_tests, plan_tests, plan_refusal, Planned}
use Rattle.plan.specs.PlanCall.{plan_answer, plan_coefficients, plan_boundaries, plan_numbers, PlanCall}
use Rattle.plan.specs.PlanSizes.{degree_to_plan, sizes_of, no_sizes, sizes_refusal, sizes_call, PlanSizes}
use Rattle.demands.specs.Total.{Ends, answers, refuses, ZeroHead, PlansTotal, PlansMade, PlanOrder, FoldsTotal, ListsTotal, RebuildsTotal}
use Rattle.demands.specs.Total.{ConvertsTotal, TrialAnswered, TrialsTotal, ChainsTotal, InterpolationsTotal, NumbersTotal}
use Rattle.plan.proofs.PlanTests.{settings_numbered, early_numbered}
use Rattle.demands.proofs.Detected.{parities_detected}
use Rattle.demands.proofs.FoldNumber.{fold_numbered_lem}
use Rattle.demands.proofs.Refusals.{late_tests, plan_made_lem, made_brings}
use Rattle.demands.proofs.Right.{plans_right}
use Rattle.conversion.proofs.CallLaws as conversion

-- ---- a call by its tests

pub ends : (tests : List Test) (refusal : ℕ) {Answered Refused : Type 0} → Numbered tests → refusal ≡ first_refusal tests → (refusal ≡ 0 → Answered)
    → (0 < refusal → Refused) → Ends tests refusal Answered Refused
ends tests zero {Answered} {Refused} numbers is made refused = answers ((refusals_say tests numbers).accepted (sym is)) refl (made refl)
ends tests (suc k) {Answered} {Refused} numbers is made refused =
    refuses (rw is ((refusals_say tests numbers).refused (omega arith))) (omega arith) (refused (omega arith))

-- ---- the plan call

module _ (strategy : SplitStrategy) (parity : Parity) (basis : Basis) (folds : Bool) (c : List ℤ) (a b : Float) (out : List ℤ) (bounds steps : List ℕ)
    (r : Planned) (out' : List ℤ) (bounds' steps' : List ℕ) (call : PlanCall strategy parity basis folds c a b out bounds steps r out' bounds' steps') where
  abbrev k : ℕ
  k = plan_refusal strategy parity basis folds c a b out bounds steps

  tests_numbered : Numbered (plan_tests strategy parity basis folds c a b out bounds steps)
  tests_numbered =
      numbered_append (early_tests folds parity c a b) (late_tests strategy parity basis folds c a b out bounds steps) (early_numbered folds parity c a b)
      (omega arith, (omega arith, (omega arith, tt)))

  pub refusal_is : r.refusal ≡ k
  unfolding plan_answer
  refusal_is = ap (λ (p : Planned). p.refusal) call.answer ∙ refusal_of k _ _ (λ (p : Planned). p.refusal) refl refl

  no_head_lem : 0 < k → r.head ≡ no_head
  unfolding plan_answer
  no_head_lem some_test = ap (λ (p : Planned). p.head) (call.answer ∙ sym (when_refused k _ _ some_test))

pub zero_head : ZeroHead no_head
zero_head = record {
  basis = refl;
  parity = refl;
  strategy = refl;
  transform = refl;
  degree = refl;
  base = refl;
  ct = refl;
  pt = refl;
  depth = refl;
  coefficients = refl;
  lists = refl;
  steps = refl;
  interval = refl;
}

pub plans_total : PlansTotal
unfolding plan_refusal plan_coefficients plan_boundaries plan_numbers
plans_total strategy parity basis folds c a b out bounds steps r out' bounds' steps' call =
    let refusal = refusal_is strategy parity basis folds c a b out bounds steps r out' bounds' steps' call in
    ends (plan_tests strategy parity basis folds c a b out bounds steps) r.refusal
    (tests_numbered strategy parity basis folds c a b out bounds steps r out' bounds' steps' call) refusal
    (λ accepted. let made = sym refusal ∙ accepted in
    plans_right strategy parity basis folds c a b out bounds steps r out' bounds' steps'
    (made_brings strategy parity basis folds c a b out bounds steps made) call)
    (λ refused. let some_test : 0 < plan_refusal strategy parity basis folds c a b out bounds steps = rw refusal at refused in
    record {
      zero_head = subst ZeroHead (sym (no_head_lem strategy parity basis folds c a b out bounds steps r out' bounds' steps' call some_test)) zero_head;
      coefficients = call.coefficients ∙ sym (when_refused _ _ out some_test);
      boundaries = call.boundaries ∙ sym (when_refused _ _ bounds some_test);
      numbers = call.numbers ∙ sym (when_refused _ _ steps some_test);
    })

pub plans_made : PlansMade
plans_made strategy parity basis folds c a b out bounds steps r out' bounds' steps' call =
    let refusal = refusal_is strategy parity basis folds c a b out bounds steps r out' bounds' steps' call in (
      λ accepted. made_brings strategy parity basis folds c a b out bounds steps (sym refusal ∙ accepted),
      λ brings. refusal ∙ plan_made_lem strategy parity basis folds c a b out bounds steps brings,
    )

pub plan_order : (strategy : SplitStrategy) (parity : Parity) (basis : Basis) (c : List ℤ) (a b : Float) (out : List ℤ) (bounds steps : List ℕ)
    → PlanOrder strategy parity basis c a b out bounds steps
plan_order strategy parity basis c a b out bounds steps = record { unfolded = refl; with_folding = refl }

-- ---- the fold call

pub folds_total : (A : Type 0) → FoldsTotal A
unfolding fold_refusal fold_answer fold_buffer
folds_total A numbers parity basis c out r left call =
    let k = fold_refusal numbers parity basis c out in
    let refusal : r.refusal ≡ k = ap (λ (f : Folded). f.refusal) call.answer ∙ refusal_of k _ _ (λ (f : Folded). f.refusal) refl refl in
    ends (fold_tests numbers parity basis c out) r.refusal (omega arith, (omega arith, (omega arith, (omega arith, (omega arith, (omega arith, tt))))))
    refusal
    (λ accepted. let passed = sym refusal ∙ accepted in
    let is = call.answer ∙ sym (when_accepted _ _ passed) in
    record {
      transform_is = rw is;
      transform_number_lem = rw is (fold_numbered_lem parity basis);
      parity_is = rw is;
      parity_number_lem = rw is;
      count_is = rw is;
      buffer_is = call.buffer ∙ sym (when_accepted _ _ passed);
    })
    (λ refused. let some_test : 0 < fold_refusal numbers parity basis c out = rw refusal at refused in
    let is = call.answer ∙ sym (when_refused k _ _ some_test) in
    record { transform = rw is; parity = rw is; count = rw is; buffer = call.buffer ∙ sym (when_refused k _ out some_test) })

-- ---- the list calls

-- the leaves of the tree are the lists, where the tests of the degree are passed
lists_counted : {A : Type 0} (numbers : Numbers A) (strategy : SplitStrategy) (parity : Parity) (basis : Basis) (c out : List A) (bounds : List ℕ)
    → list_refusal numbers strategy parity basis c out bounds ≡ 0
    → leaves_of (plan_tree strategy parity basis (degree_of c)) ≡ length (lists_of numbers.ops basis (plan_tree strategy parity basis (degree_of c)) c)
unfolding list_refusal
lists_counted numbers strategy parity basis c out bounds passed =
    let tests = none_holds (list_tests numbers strategy parity basis c out bounds)
    (omega arith, (omega arith, (omega arith, (omega arith, (omega arith, tt))))) passed in
    let few = ltb-false plan_limit (degree_of c) tests.0 in
    let several = eqb-false (degree_of c) 0 tests.1.0 in
    (lists_in_order numbers.ops (relists strategy) basis (degree_of c) (split_for strategy parity basis (degree_of c)) c (omega arith) few
    ((chosen parity basis (degree_of c)).from_one strategy (omega arith) few)).count

pub lists_total : (A : Type 0) → ListsTotal A
unfolding list_refusal list_answer list_coefficients list_boundaries
lists_total A numbers strategy parity basis c out bounds r out' bounds' call =
    let k = list_refusal numbers strategy parity basis c out bounds in
    let refusal : r.refusal ≡ k = ap (λ (f : Listed). f.refusal) call.answer ∙ refusal_of k _ _ (λ (f : Listed). f.refusal) refl refl in
    ends (list_tests numbers strategy parity basis c out bounds) r.refusal
    (omega arith, (omega arith, (omega arith, (omega arith, (omega arith, tt))))) refusal
    (λ accepted. let passed = sym refusal ∙ accepted in
    let is = call.answer ∙ sym (when_accepted _ _ passed) in
    record {
      degree_is = rw is;
      base_is = rw is;
      coefficients_are = rw is;
      lists_are = rw is (lists_counted numbers strategy parity basis c out bounds passed);
      first_buffer = call.coefficients ∙ sym (when_accepted _ _ passed);
      second_buffer = call.boundaries ∙ sym (when_accepted _ _ passed);
    })
    (λ refused. let some_test : 0 < list_refusal numbers strategy parity basis c out bounds = rw refusal at refused in
    let is = call.answer ∙ sym (when_refused k _ _ some_test) in
    record {
      degree = rw is;
      base = rw is;
      coefficients = rw is;
      lists = rw is;
      first_buffer = call.coefficients ∙ sym (when_refused k _ out some_test);
      second_buffer = call.boundaries ∙ sym (when_refused k _ bounds some_test);
    })

-- ---- the rebuild call

pub rebuilds_total : RebuildsTotal
unfolding rebuild_refusal rebuild_answer rebuild_coefficients coefficients_from
rebuilds_total strategy parity basis degree base lists bounds out r out' call =
    let k = rebuild_refusal strategy parity basis degree base lists bounds out in
    let refusal : r.refusal ≡ k = ap (λ (f : Rebuilt). f.refusal) call.answer ∙ refusal_of k _ _ (λ (f : Rebuilt). f.refusal) refl refl in
    ends (rebuild_tests strategy parity basis degree base lists bounds out) r.refusal
    (omega arith, (omega arith, (omega arith, (omega arith, (omega arith, tt))))) refusal
    (λ accepted. let facts = rebuilt_facts call accepted in
    record {
      c = facts.c;
      rebuilt = facts.c_is;
      count = count_is call accepted ∙ sym (rebuilt_size call accepted);
      buffer = buffer_is call accepted;
    })
    (λ refused. let some_test : 0 < rebuild_refusal strategy parity basis degree base lists bounds out = rw refusal at refused in
    let is = call.answer ∙ sym (when_refused k _ _ some_test) in
    record { coefficients = rw is; buffer = call.coefficients ∙ sym (when_refused k _ out some_test) })

-- ---- the conversion call

pub converts_total : ConvertsTotal
unfolding refusal_for
converts_total to c out r left call =
    ends (convert_tests to c (length out)) r.refusal (conversion.tests_numbered to c (length out)) (conversion.refusal_is call)
    (λ accepted. let kept = values_kept to c (conversion.none_whole to c (length out) (conversion.call_passes call accepted)) in
    record {
      new = converted to c;
      same_length = kept.same_length;
      same_values = kept.at_wholes;
      count = conversion.accepted_count call accepted ∙ sym kept.same_length;
      buffer = conversion.accepted_buffer call accepted;
    })
    (λ refused. record { count = conversion.refused_count call refused; buffer = conversion.refused_buffer call refused })

-- ---- the trial walk

pub neither : (a b : Bool) → (a || b) ≡ false → (a ≡ false) × (b ≡ false)
neither false b none_is = (refl, none_is)
neither true b none_is = absurd (true≢false none_is)

module _ (head : Head) (coefficients : List ℤ) (bounds steps : List ℕ) (point : ℤ) (modulus : ℕ) where
  pub trial_refusal_is : (trial_of head coefficients bounds steps point modulus).refusal ≡ trial_refusal head coefficients bounds steps point modulus
  unfolding trial_of
  trial_refusal_is = refusal_of (trial_refusal head coefficients bounds steps point modulus) _ _ (λ (t : Trial). t.refusal) refl refl

  trial_zero : 0 < trial_refusal head coefficients bounds steps point modulus → (trial_of head coefficients bounds steps point modulus).remainder ≡ 0
  unfolding trial_of
  trial_zero some_test = ap (λ (t : Trial). t.remainder) (sym (when_refused (trial_refusal head coefficients bounds steps point modulus) _ _ some_test))

  trial_answered : trial_refusal head coefficients bounds steps point modulus ≡ 0
      → TrialAnswered head coefficients bounds steps point modulus
  unfolding trial_refusal
  trial_answered passed =
      let tests = none_holds (trial_tests head coefficients bounds steps point modulus) (omega arith, (omega arith, tt)) passed in
      let range = neither (ltb modulus 2) (ltb modulus_limit modulus) tests.0 in
      let low = ltb-false modulus 2 range.0 in
      let high = ltb-false modulus_limit modulus range.1 in
      let follows = trial_follows head coefficients bounds steps point modulus low high in
      let exact = exact_walk head coefficients bounds steps point in
      let there = missing_some exact (sym (missing_image (rem modulus) exact) ∙ (rw follows.walks at tests.1.0)) in
      let answer = ap (λ (t : Trial). t.remainder) (follows.answers there.value there.is) in
      record {
        value = there.value;
        exact = there.is;
        remainder = answer;
        is_remainder = rw answer (remainders_told modulus (omega arith) there.value).is;
      }

pub trials_total : TrialsTotal
unfolding trial_refusal
trials_total head coefficients bounds steps point modulus =
    let refusal = trial_refusal_is head coefficients bounds steps point modulus in
    ends (trial_tests head coefficients bounds steps point modulus) (trial_of head coefficients bounds steps point modulus).refusal
    (omega arith, (omega arith, tt)) refusal (λ accepted. trial_answered head coefficients bounds steps point modulus (sym refusal ∙ accepted))
    (λ refused. trial_zero head coefficients bounds steps point modulus (rw refusal at refused))

-- ---- the heaviest chain

module _ (head : Head) (coefficients : List ℤ) (bounds steps : List ℕ) (input coeff : ℕ) where
  pub chain_refusal_is : (chain_of head coefficients bounds steps input coeff).refusal ≡ chain_refusal head coefficients bounds steps input coeff
  unfolding chain_of
  chain_refusal_is = refusal_of (chain_refusal head coefficients bounds steps input coeff) _ _ (λ (t : Chain). t.refusal) refl refl

  chain_zero : 0 < chain_refusal head coefficients bounds steps input coeff → (chain_of head coefficients bounds steps input coeff).weight ≡ 0
  unfolding chain_of
  chain_zero some_test = ap (λ (t : Chain). t.weight) (sym (when_refused (chain_refusal head coefficients bounds steps input coeff) _ _ some_test))

  chain_answered : chain_refusal head coefficients bounds steps input coeff ≡ 0
      → GreatestOfAnswer head coefficients bounds steps input coeff (chain_of head coefficients bounds steps input coeff).weight
  unfolding chain_refusal
  chain_answered passed =
      let tests = none_holds (chain_tests head coefficients bounds steps input coeff) (omega arith, (omega arith, (omega arith, tt))) passed in
      let there = missing_some (answer_made head coefficients bounds steps input coeff) tests.1.1.0 in
      rw (← one_made head coefficients bounds steps input coeff (ltb-false scale_limit input tests.0) (ltb-false scale_limit coeff tests.1.0)
      there.value there.is)
      (record { answer = there.value; made = there.is; greatest = heaviest_greatest there.value })

pub chains_total : ChainsTotal
unfolding chain_refusal
chains_total head coefficients bounds steps input coeff =
    let refusal = chain_refusal_is head coefficients bounds steps input coeff in
    ends (chain_tests head coefficients bounds steps input coeff) (chain_of head coefficients bounds steps input coeff).refusal
    (omega arith, (omega arith, (omega arith, tt))) refusal
    (λ accepted. chain_answered head coefficients bounds steps input coeff (sym refusal ∙ accepted))
    (λ refused. chain_zero head coefficients bounds steps input coeff (rw refusal at refused))

-- ---- interpolation

pub interpolations_total : InterpolationsTotal
unfolding interpolate_refusal interpolate_answer interpolate_buffer
interpolations_total nodes values a b out r left call =
    let k = interpolate_refusal nodes values a b out in
    let refusal : r.refusal ≡ k = ap (λ (f : Interpolated). f.refusal) call.answer ∙ refusal_of k _ _ (λ (f : Interpolated). f.refusal) refl refl in
    ends (miscounted (length nodes) (length values) ∷ unordered a b ∷ no_room (length out) (length nodes) ∷ []) r.refusal
    (omega arith, (omega arith, (omega arith, tt))) refusal
    (λ accepted. let passed = sym refusal ∙ accepted in
    let is = call.answer ∙ sym (when_accepted _ _ passed) in
    record {
      count_is = rw is;
      parity_is = rw is;
      parity_number_lem = rw is (parities_detected Float float_numbers (coefficients_of nodes values));
      interval_is = rw is;
      buffer_is = call.buffer ∙ sym (when_accepted _ _ passed);
    })
    (λ refused. let some_test : 0 < interpolate_refusal nodes values a b out = rw refusal at refused in
    let is = call.answer ∙ sym (when_refused k _ _ some_test) in
    record { count = rw is; parity = rw is; interval = rw is; buffer = call.buffer ∙ sym (when_refused k _ out some_test) })

-- ---- the calls on a bare index, degree or budget

-- what a call says, whose answer is one of two
either_way : {X : Type 0} (tests : List Test) (accepted refused : X) (read : X → ℕ) → Numbered tests → read accepted ≡ 0
    → read refused ≡ first_refusal tests
    → Ends tests (read (unless_refused (first_refusal tests) accepted refused)) (unless_refused (first_refusal tests) accepted refused ≡ accepted)
    (unless_refused (first_refusal tests) accepted refused ≡ refused)
either_way tests accepted refused read numbers none_is some_is =
    let is = refusal_of (first_refusal tests) accepted refused read none_is some_is in
    ends tests (read (unless_refused (first_refusal tests) accepted refused)) numbers is
    (λ passed. sym (when_accepted accepted refused (sym is ∙ passed)))
    (λ held. sym (when_refused (first_refusal tests) accepted refused (rw is at held)))

-- the same of other facts that follow
ends_by : {tests : List Test} {refusal : ℕ} {A B A' B' : Type 0} → (A → A') → (B → B') → Ends tests refusal A B → Ends tests refusal A' B'
ends_by f g (answers none_holds is made) = answers none_holds is (f made)
ends_by f g (refuses first_holds positive left) = refuses first_holds positive (g left)

index_split : (n : ℕ) → Ends (out_of_range n ∷ []) (split_of n).refusal (split_of n ≡ parts_of n) (split_of n ≡ no_parts (split_of n).refusal)
unfolding split_of split_refusal parts_of
index_split n =
    ends_by (λ is. is) (λ is. is ∙ ap no_parts (sym (ap (λ (p : Parts). p.refusal) is)))
    (either_way (out_of_range n ∷ []) (parts_by (is_power_of_two n) n) (no_parts (first_refusal (out_of_range n ∷ []))) (λ (p : Parts). p.refusal)
    (omega arith, tt) (by (is_power_of_two n)) refl)
  where
    by : (test : Bool) → (parts_by test n).refusal ≡ 0
    by true = refl
    by false = refl

min_depth_split : (degree : ℕ) → Ends (too_high degree_limit degree ∷ no_degree degree ∷ []) (min_depth_call degree).refusal
    ((min_depth_call degree).split ≡ split_for MinDepth Full Monomial degree) ((min_depth_call degree).split ≡ 0)
unfolding min_depth_call split_for
min_depth_split degree =
    ends_by (λ is. ap (λ (r : SplitChoice). r.split) is) (λ is. ap (λ (r : SplitChoice). r.split) is)
    (either_way (too_high degree_limit degree ∷ no_degree degree ∷ []) (record { refusal = 0; split = min_depth (bit_len degree) })
    (no_split (min_depth_refusal degree)) (λ (r : SplitChoice). r.refusal) (omega arith, (omega arith, tt)) refl refl)

min_mult_split : (parity : Parity) (basis : Basis) (degree : ℕ) → Ends (too_high plan_limit degree ∷ []) (min_mult_call parity basis degree).refusal
    ((min_mult_call parity basis degree).split ≡ split_for MinMult parity basis degree) ((min_mult_call parity basis degree).split ≡ 0)
unfolding min_mult_call split_for
min_mult_split parity basis degree =
    ends_by (λ is. ap (λ (r : SplitChoice). r.split) is) (λ is. ap (λ (r : SplitChoice). r.split) is)
    (either_way (too_high plan_limit degree ∷ []) (record { refusal = 0; split = min_mult parity basis degree }) (no_split (min_mult_refusal degree))
    (λ (r : SplitChoice). r.refusal) (omega arith, tt) refl refl)

op_counts : (strategy : SplitStrategy) (parity : Parity) (basis : Basis) (degree : ℕ)
    → Ends (too_high plan_limit degree ∷ []) (counts_call strategy parity basis degree).refusal
    (counts_call strategy parity basis degree
    ≡ record { refusal = 0; ct = (counts_of strategy parity basis degree).ct; pt = (counts_of strategy parity basis degree).pt })
    (counts_call strategy parity basis degree ≡ no_counts (counts_call strategy parity basis degree).refusal)
unfolding counts_call
op_counts strategy parity basis degree =
    ends_by (λ is. is) (λ is. is ∙ ap no_counts (sym (ap (λ (r : OpCounts). r.refusal) is)))
    (either_way (too_high plan_limit degree ∷ [])
    (record { refusal = 0; ct = (counts_of strategy parity basis degree).ct; pt = (counts_of strategy parity basis degree).pt })
    (no_counts (counts_refusal degree)) (λ (r : OpCounts). r.refusal) (omega arith, tt) refl refl)

eval_depth : (strategy : SplitStrategy) (degree : ℕ) → Ends (too_high degree_limit degree ∷ []) (depth_call strategy degree).refusal
    ((depth_call strategy degree).depth ≡ depth_of strategy degree) ((depth_call strategy degree).depth ≡ 0)
unfolding depth_call
eval_depth strategy degree =
    ends_by (λ is. ap (λ (r : EvalDepth). r.depth) is) (λ is. ap (λ (r : EvalDepth). r.depth) is)
    (either_way (too_high degree_limit degree ∷ []) (record { refusal = 0; depth = depth_of strategy degree }) (no_depth (depth_refusal degree))
    (λ (r : EvalDepth). r.refusal) (omega arith, tt) refl refl)

consumed_bits : (strategy : SplitStrategy) (degree input coeff : ℕ)
    → Ends (too_high degree_limit degree ∷ too_wide input ∷ too_wide coeff ∷ []) (bits_call strategy degree input coeff).refusal
    ((bits_call strategy degree input coeff).bits ≡ bits_of strategy degree input coeff) ((bits_call strategy degree input coeff).bits ≡ 0)
unfolding bits_call
consumed_bits strategy degree input coeff =
    ends_by (λ is. ap (λ (r : ConsumedBits). r.bits) is) (λ is. ap (λ (r : ConsumedBits). r.bits) is)
    (either_way (too_high degree_limit degree ∷ too_wide input ∷ too_wide coeff ∷ [])
    (record { refusal = 0; bits = bits_of strategy degree input coeff }) (no_bits (bits_refusal degree input coeff)) (λ (r : ConsumedBits). r.refusal)
    (omega arith, (omega arith, (omega arith, tt))) refl refl)

largest_degree : (strategy : SplitStrategy) (budget input coeff : ℕ)
    → Ends (largest_tests strategy budget input coeff) (largest_call strategy budget input coeff).refusal
    (GreatestWithin strategy budget input coeff (largest_call strategy budget input coeff).degree) ((largest_call strategy budget input coeff).degree ≡ 0)
unfolding largest_call
largest_degree strategy budget input coeff =
    ends_by (λ is. (largest_degrees strategy budget input coeff).answered (ap (λ (r : LargestDegree). r.refusal) is))
    (λ is. ap (λ (r : LargestDegree). r.degree) is)
    (either_way (largest_tests strategy budget input coeff) (record { refusal = 0; degree = greatest_within strategy budget input coeff plan_limit })
    (no_largest (first_refusal (largest_tests strategy budget input coeff))) (λ (r : LargestDegree). r.refusal)
    (omega arith, (omega arith, (omega arith, tt))) refl refl)

plan_sizes : (strategy : SplitStrategy) (parity : Parity) (basis : Basis) (folds : Bool) (degree : ℕ)
    → Ends (settings_tests folds parity degree) (sizes_call strategy parity basis folds degree).refusal
    (sizes_call strategy parity basis folds degree ≡ sizes_of strategy (planned_parity folds parity) basis (degree_to_plan folds parity degree))
    (sizes_call strategy parity basis folds degree ≡ no_sizes (sizes_call strategy parity basis folds degree).refusal)
unfolding sizes_call sizes_of
plan_sizes strategy parity basis folds degree =
    ends_by (λ is. is) (λ is. is ∙ ap no_sizes (sym (ap (λ (r : PlanSizes). r.refusal) is)))
    (either_way (settings_tests folds parity degree) (sizes_of strategy (planned_parity folds parity) basis (degree_to_plan folds parity degree))
    (no_sizes (sizes_refusal folds parity degree)) (λ (r : PlanSizes). r.refusal) (settings_numbered folds parity degree) refl refl)

pub numbers_total : NumbersTotal
numbers_total = record {
  index_split = index_split;
  min_depth_split = min_depth_split;
  min_mult_split = min_mult_split;
  op_counts = op_counts;
  eval_depth = eval_depth;
  consumed_bits = consumed_bits;
  largest_degree = largest_degree;
  plan_sizes = plan_sizes;
}
