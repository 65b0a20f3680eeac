-- The plan call over plain values: a refusal of the polynomial, of the interval or of the buffers leaves all as it was; past the tests the head is that
-- of the planned degree on its interval, and the buffers can be filled.
use mathlib.Core.Path.{◌≡◌, ap, sym, subst, ◌∙◌}
use mathlib.Core.Bool.{Bool, true, false}
use mathlib.Core.List.{List}
use Prim.Native.Nat.{ℕ, suc, ◌-◌, ◌*◌, ◌≤◌, ◌<◌}
use native.Mathlib.Omega.{arith}
use lib.Ieee.{Float, lt}
use lib.IntN.{ℤ}
use lib.ListN.{length}
use Rattle.algebra.specs.Fold.{folded_length}
use Rattle.algebra.specs.declared.Basis.{Basis}
use Rattle.algebra.specs.declared.Parity.{Parity}
use Rattle.number.specs.Interval.{change_of_basis, Ordered}
use Rattle.number.specs.Limits.{plan_limit}
use Rattle.number.specs.Refusal.{first_refusal}
use Rattle.number.specs.Tests.{degree_of}
use Rattle.number.specs.declared.interval.Interval.{Interval}
use Rattle.number.specs.inside.Between.{Between}
use Rattle.number.proofs.FirstRefusal.{first_kept, first_of_more, when_refused, when_accepted}
use Rattle.counts.specs.declared.choice.SplitStrategy.{SplitStrategy}
use Rattle.walk.specs.declared.plan.Head.{Head}
use Rattle.plan.specs.PlanHead.{head_of, no_head}
use Rattle.plan.specs.PlanCall.{planned_parity, planned_transform, input_tests, Accepted, early_tests, buffer_tests, head_for, plan_refusal, Planned}
use Rattle.plan.specs.PlanCall.{plan_answer, plan_coefficients, plan_boundaries, plan_numbers, PlanCall}
use Rattle.plan.specs.PlanSizes.{degree_to_plan, sizes_in, PlanSizes, plan_sizes_in}
use Rattle.plan.specs.declared.sizes.Sizes.{Sizes}
use Rattle.std.specs.Prelude.{Ok}
use Rattle.plan.specs.inside.Outlines.{outline_for}
use Rattle.plan.specs.inside.Filling.{planned_count, buffer_refusal, PlanFits, PlanPut}
use Rattle.plan.specs.declared.outline.Outline.{Outline}
use Rattle.plan.proofs.PlanTests.{passed, planned_length, degree_range, degree_planned, count_planned, early_numbered, early_kept}
use Rattle.plan.proofs.PlanTests.{early_unordered, early_passed, buffers_fit}

-- ---- the outline

module _ (strategy : SplitStrategy) (parity : Parity) (basis : Basis) (folded : Bool) (c : List ℤ) where
  -- of what is planned: of as many coefficients, and of a degree within the limits
  pub record OutlinePlanned (outline : Outline) : Type 0 where
    pub count_is : outline.coefficients ≡ planned_count folded parity (length c)
    pub degrees : Between 1 (outline.coefficients - 1) plan_limit
    pub outline_is : outline ≡ outline_for strategy (planned_parity folded parity) basis (outline.coefficients - 1)

  pub outline_planned : {outline : Outline} {degree : ℕ} → Accepted folded parity c → degree ≡ degree_of c
      → outline ≡ outline_for strategy (planned_parity folded parity) basis (degree_to_plan folded parity degree) → OutlinePlanned outline
  outline_planned {outline} {degree} accepted degree_is is =
      let planned = degree_range folded parity (degree_of c) (passed folded parity c accepted).settings in
      let more : outline.coefficients ≡ suc (degree_to_plan folded parity degree) = ap (λ (o : Outline). o.coefficients) is in
      let count : outline.coefficients ≡ planned_count folded parity (length c) =
      count_planned folded parity c accepted (more ∙ ap (λ (d : ℕ). suc (degree_to_plan folded parity d)) degree_is) in
      let same : outline.coefficients - 1 ≡ degree_to_plan folded parity degree = omega arith in
      record {
        count_is = count;
        degrees = rw (same, degree_is) planned;
        outline_is = is ∙ ap (outline_for strategy (planned_parity folded parity) basis) (sym same);
      }

-- ---- the call

module _ (strategy : SplitStrategy) (parity : Parity) (basis : Basis) (folded : Bool) (c : List ℤ) (a b : Float) (out : List ℤ)
    (bounds steps : List ℕ) where
  abbrev refusal : ℕ
  refusal = plan_refusal strategy parity basis folded c a b out bounds steps

  abbrev head : Head
  head = head_for strategy parity basis folded c a b

  -- the tests ahead of 21 decide where one of them holds
  early : 0 < first_refusal (early_tests folded parity c a b) → refusal ≡ first_refusal (early_tests folded parity c a b)
  unfolding plan_refusal
  early positive = first_kept (early_tests folded parity c a b) _ positive

  refuses : {k : ℕ} {r : Planned} → refusal ≡ k → 0 < k → r ≡ record { refusal = k; head = no_head }
      → PlanCall strategy parity basis folded c a b out bounds steps r out bounds steps
  unfolding plan_answer plan_coefficients plan_boundaries plan_numbers
  refuses {k} {r} is positive r_is =
      let held : 0 < refusal = omega arith in
      record {
        answer = r_is ∙ ap (λ (n : ℕ). record { refusal = n; head = no_head }) (sym is) ∙ when_refused refusal _ _ held;
        coefficients = when_refused refusal _ out held;
        boundaries = when_refused refusal _ bounds held;
        numbers = when_refused refusal _ steps held;
      }

  -- a test of the polynomial holds
  pub refused_input : {k : ℕ} {r : Planned} → k ≡ first_refusal (input_tests folded parity c) → 0 < k → r ≡ record { refusal = k; head = no_head }
      → PlanCall strategy parity basis folded c a b out bounds steps r out bounds steps
  refused_input k_is positive r_is =
      let kept = early_kept folded parity c a b (omega arith) in
      refuses (early (omega arith) ∙ kept ∙ sym k_is) positive r_is

  -- the polynomial is accepted, and a < b does not hold
  pub refused_interval : {r : Planned} → Accepted folded parity c → lt a b ≡ false → r ≡ record { refusal = 7; head = no_head }
      → PlanCall strategy parity basis folded c a b out bounds steps r out bounds steps
  refused_interval accepted unordered r_is =
      let seven = early_unordered folded parity c a b accepted unordered in
      refuses (early (omega arith) ∙ seven) (omega arith) r_is

  module _ (accepted : Accepted folded parity c) (ordered : Ordered a b) where
    -- then those of the buffers decide
    late : refusal ≡ buffer_refusal head.coefficients head.lists head.steps (length out) (length bounds) (length steps)
    unfolding plan_refusal buffer_refusal
    late =
        let later = buffer_tests head.coefficients head.lists head.steps (length out) (length bounds) (length steps) in
        first_of_more (early_tests folded parity c a b) later (early_numbered folded parity c a b) (early_passed folded parity c a b accepted ordered)

    module _ {count : ℕ} {interval : Interval} {h : Head} (count_is : count ≡ planned_count folded parity (length c))
        (interval_is : interval ≡ change_of_basis basis a b)
        (h_is : h ≡ head_of strategy (planned_parity folded parity) basis (planned_transform folded parity basis) interval (count - 1)) where
      head_same : h ≡ head
      head_same = h_is ∙ rw (interval_is, count_is ∙ sym (planned_length folded parity basis c))

      module _ {sizes : Sizes} (sizes_are : plan_sizes_in (Ok sizes) ≡ sizes_in h) {k : ℕ}
          (k_is : k ≡ buffer_refusal sizes.coefficients sizes.lists sizes.steps (length out) (length bounds) (length steps)) where
        room_is : k ≡ buffer_refusal h.coefficients h.lists h.steps (length out) (length bounds) (length steps)
        room_is =
            k_is ∙ ap (λ (s : PlanSizes). buffer_refusal s.coefficients s.lists s.steps (length out) (length bounds) (length steps)) sizes_are

        refusal_is : refusal ≡ k
        refusal_is =
            late
            ∙ ap (λ (x : Head). buffer_refusal x.coefficients x.lists x.steps (length out) (length bounds) (length steps)) (sym head_same)
            ∙ sym room_is

        -- a test of the buffers holds
        pub refused_buffers : {r : Planned} → 0 < k → r ≡ record { refusal = k; head = no_head }
            → PlanCall strategy parity basis folded c a b out bounds steps r out bounds steps
        refused_buffers positive r_is = refuses refusal_is positive r_is

        -- no test holds
        module _ (none : k ≡ 0) where
          pub plan_fits : {outline : Outline} → outline ≡ outline_for strategy (planned_parity folded parity) basis (count - 1)
              → PlanFits strategy parity basis folded count outline c out bounds steps
          unfolding head_of buffer_refusal
          plan_fits {outline} outline_for_lem =
              let tests = passed folded parity c accepted in
              let planned = degree_range folded parity (degree_of c) tests.settings in
              let degrees : Between 1 (count - 1) plan_limit = rw (count_is, degree_planned folded parity (length c)) planned in
              let fit = buffers_fit (sizes_in h) (length out) (length bounds) (length steps) (sym room_is ∙ none) in
              let places : suc (count - 1) ≤ length out = subst (λ (x : Head). x.coefficients ≤ length out) h_is fit.coefficients in
              let enough : count ≤ length out = omega arith in
              record {
                coefficients_fit = record {
                  foldable = λ folds. record { not_full = tests.settings.not_full folds; room = fold_room folds enough };
                  copy_room = λ copies. copies_room copies enough;
                  sum_limit_lem = tests.sum_limit_lem;
                };
                input_limit = tests.settings.degrees.to;
                count_is = count_is ∙ sym (planned_length folded parity basis c);
                outline_is = outline_for_lem;
                degrees = degrees;
                room = enough;
                boundary_room = subst (λ (x : Head). x.lists ≤ length bounds) h_is fit.boundaries;
                step_room_lem = subst (λ (x : Head). 4 * x.steps ≤ length steps) h_is fit.numbers;
              }
            where
              fold_room : folded ≡ true → count ≤ length out → folded_length parity (length c) ≤ length out
              fold_room folds enough =
                  let same : count ≡ folded_length parity (length c) = count_is ∙ ap (λ (f : Bool). planned_count f parity (length c)) folds in
                  omega arith

              copies_room : folded ≡ false → count ≤ length out → length c ≤ length out
              copies_room copies enough =
                  let same : count ≡ length c = count_is ∙ ap (λ (f : Bool). planned_count f parity (length c)) copies in
                  omega arith

          pub planned_call : {out' : List ℤ} {bounds' steps' : List ℕ} → PlanPut strategy parity basis folded c out bounds steps out' bounds' steps'
              → PlanCall strategy parity basis folded c a b out bounds steps (record { refusal = 0; head = h }) out' bounds' steps'
          unfolding plan_answer plan_coefficients plan_boundaries plan_numbers
          planned_call put =
              let passes : refusal ≡ 0 = refusal_is ∙ none in
              record {
                answer = ap (λ (x : Head). record { refusal = 0; head = x }) head_same ∙ when_accepted _ _ passes;
                coefficients = put.coefficients ∙ when_accepted _ out passes;
                boundaries = put.boundaries ∙ when_accepted _ bounds passes;
                numbers = put.numbers ∙ when_accepted _ steps passes;
              }
