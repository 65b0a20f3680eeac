-- The tests of the plan call: of degree and settings, of the coefficients, of the interval, of the buffers, and what holds where none of them does;
-- the degree that is planned is then within the limits.
use mathlib.Core.Path.{◌≡◌, refl, sym, ap, ◌∙◌}
use mathlib.Core.Bool.{Bool, true, false, not, cond, true≢false, false≢true}
use mathlib.Core.List.{List, [], ◌∷◌}
use Prim.Native.Nat.{ℕ, suc, ◌-◌, ◌*◌, ◌/◌, ◌≤◌, ◌<◌}
use native.Mathlib.Omega.{arith}
use borrow.Author.Tests.{lt-ltb, le-ltb, ltb-false, leb-true, eqb-false, not-false}
use lib.Dec.{ltb, eqb}
use lib.Ieee.{Float, lt}
use lib.IntN.{ℤ}
use lib.ListN.{length}
use Rattle.algebra.specs.Operations.{whole_ops}
use Rattle.algebra.specs.Fold.{folded_length}
use Rattle.algebra.specs.Magnitude.{sum_abs}
use Rattle.algebra.specs.declared.Basis.{Basis}
use Rattle.algebra.specs.declared.Parity.{Parity}
use Rattle.algebra.specs.declared.Parity.TheVariants.{Full, Even, Odd}
use Rattle.algebra.proofs.FoldPlaces.{fold_length}
use Rattle.number.specs.Interval.{Ordered}
use Rattle.number.specs.Limits.{plan_limit, sum_limit}
use Rattle.number.specs.Numbers.{whole_numbers}
use Rattle.number.specs.Refusal.{Test, Numbered, first_refusal}
use Rattle.number.specs.Tests.{degree_of, is_full, least_folded, unordered}
use Rattle.number.specs.inside.Between.{Between}
use Rattle.number.specs.inside.Room.{SumByLengthTo53}
use Rattle.number.proofs.FirstRefusal.{NumbersTo, numbers_append, first_most, none_holds, numbered_append, first_kept, first_of_more, first_passed}
use Rattle.lists.proofs.SumByLength.{sum_by_length_start}
use Rattle.lists.proofs.Bounds.{fold_sum_by_length}
use Rattle.plan.specs.PlanCall.{planned_coefficients, settings_tests, coefficient_tests, input_tests, Accepted, early_tests, buffer_tests}
use Rattle.plan.specs.PlanSizes.{degree_to_plan, HasSizes, PlanSizes}
use Rattle.plan.specs.inside.Filling.{planned_count}

-- ---- degree and settings

pub settings_numbered : (folded : Bool) (parity : Parity) (degree : ℕ) → Numbered (settings_tests folded parity degree)
settings_numbered true parity degree = (omega arith, (omega arith, (omega arith, (omega arith, tt))))
settings_numbered false parity degree = (omega arith, (omega arith, tt))

-- the tests one by one, by what they find
pub settings_found : (folded : Bool) (parity : Parity) (degree : ℕ) {full : Bool} {least : ℕ} → full ≡ is_full parity → least ≡ least_folded parity
    → first_refusal (settings_tests folded parity degree)
    ≡ cond (ltb plan_limit degree) 2 (cond (eqb degree 0) 1 (cond folded (cond full 5 (cond (ltb degree least) 6 0)) 0))
settings_found true parity degree Full-is least_is = rw (Full-is, least_is)
settings_found false parity degree Full-is least_is = refl

-- what passes
pub record SettingsPass (folded : Bool) (parity : Parity) (degree : ℕ) : Type 0 where
  pub degrees : Between 1 degree plan_limit
  pub not_full : folded ≡ true → is_full parity ≡ false
  pub not_low : folded ≡ true → least_folded parity ≤ degree

degrees_pass : (degree : ℕ) → ltb plan_limit degree ≡ false → eqb degree 0 ≡ false → Between 1 degree plan_limit
degrees_pass degree not_high some = let other = eqb-false degree 0 some in record { from = omega arith; to = ltb-false plan_limit degree not_high }

pub settings_pass : (folded : Bool) (parity : Parity) (degree : ℕ) → first_refusal (settings_tests folded parity degree) ≡ 0
    → SettingsPass folded parity degree
settings_pass true parity degree none =
    let tests = none_holds (settings_tests true parity degree) (settings_numbered true parity degree) none in
    record {
      degrees = degrees_pass degree tests.0 tests.1.0;
      not_full = λ folds. tests.1.1.0;
      not_low = λ folds. ltb-false degree (least_folded parity) tests.1.1.1.0;
    }
settings_pass false parity degree none =
    let tests = none_holds (settings_tests false parity degree) (settings_numbered false parity degree) none in
    record {
      degrees = degrees_pass degree tests.0 tests.1.0;
      not_full = λ folds. absurd (false≢true folds);
      not_low = λ folds. absurd (false≢true folds);
    }

-- ---- the degree that is planned

-- it is within the limits
pub degree_range : (folded : Bool) (parity : Parity) (degree : ℕ) → SettingsPass folded parity degree
    → Between 1 (degree_to_plan folded parity degree) plan_limit
degree_range true Full degree pass = absurd (true≢false (pass.not_full refl))
degree_range true Even degree pass =
    let enough = pass.not_low refl in
    let range = pass.degrees in
    record { from = omega arith; to = omega arith }
degree_range true Odd degree pass =
    let enough = pass.not_low refl in
    let range = pass.degrees in
    record { from = omega arith; to = omega arith }
degree_range false parity degree pass = pass.degrees

-- one less than the number of coefficients that are planned
pub degree_planned : (folded : Bool) (parity : Parity) (n : ℕ) → planned_count folded parity n - 1 ≡ degree_to_plan folded parity (n - 1)
unfolding folded_length
degree_planned true Full n = refl
degree_planned true Even n = omega arith
degree_planned true Odd n = omega arith
degree_planned false parity n = refl

pub planned_length : (folded : Bool) (parity : Parity) (basis : Basis) (c : List ℤ)
    → length (planned_coefficients folded parity basis c) ≡ planned_count folded parity (length c)
planned_length true parity basis c = fold_length whole_ops parity basis c
planned_length false parity basis c = refl

-- ---- the input

pub inputs_numbered : (folded : Bool) (parity : Parity) (c : List ℤ) → Numbered (input_tests folded parity c)
inputs_numbered true parity c = (omega arith, (omega arith, (omega arith, (omega arith, (omega arith, (omega arith, tt))))))
inputs_numbered false parity c = (omega arith, (omega arith, (omega arith, (omega arith, tt))))

pub inputs_to : (most : ℕ) → 6 ≤ most → (folded : Bool) (parity : Parity) (c : List ℤ) → NumbersTo most (input_tests folded parity c)
inputs_to most six true parity c = (omega arith, (omega arith, (omega arith, (omega arith, (omega arith, (omega arith, tt))))))
inputs_to most six false parity c = (omega arith, (omega arith, (omega arith, (omega arith, tt))))

-- what is planned of small coefficients stays within 2^53 at every cut
pub planned_to_53 : (folded : Bool) (parity : Parity) (basis : Basis) (c : List ℤ) → sum_abs c ≤ sum_limit → degree_of c ≤ plan_limit
    → SumByLengthTo53 (planned_coefficients folded parity basis c)
planned_to_53 true parity basis c small within = fold_sum_by_length parity basis c small within
planned_to_53 false parity basis c small within = sum_by_length_start c small within

module _ (folded : Bool) (parity : Parity) (c : List ℤ) where
  -- where degree and settings pass, the coefficients decide
  pub late_input : first_refusal (settings_tests folded parity (degree_of c)) ≡ 0
      → first_refusal (input_tests folded parity c) ≡ first_refusal (coefficient_tests parity c)
  late_input none =
      first_of_more (settings_tests folded parity (degree_of c)) (coefficient_tests parity c) (settings_numbered folded parity (degree_of c)) none

  -- an accepted polynomial
  pub record Passed : Type 0 where
    pub settings : SettingsPass folded parity (degree_of c)
    pub sum_limit_lem : sum_abs c ≤ sum_limit

  pub settings_accepted : Accepted folded parity c → first_refusal (settings_tests folded parity (degree_of c)) ≡ 0
  settings_accepted accepted =
      first_passed (settings_tests folded parity (degree_of c)) (coefficient_tests parity c) (settings_numbered folded parity (degree_of c)) accepted

  pub passed : Accepted folded parity c → Passed
  passed accepted =
      let early = settings_accepted accepted in
      let late = none_holds (coefficient_tests parity c) (omega arith, (omega arith, tt)) (sym (late_input early) ∙ accepted) in
      record {
        settings = settings_pass folded parity (degree_of c) early;
        sum_limit_lem = leb-true (sum_abs c) sum_limit (not-false (whole_numbers.small c) late.1.0);
      }

  -- the number of coefficients that are planned
  pub count_planned : {count : ℕ} → Accepted folded parity c → count ≡ suc (degree_to_plan folded parity (degree_of c))
      → count ≡ planned_count folded parity (length c)
  count_planned accepted count_is =
      let range = degree_range folded parity (degree_of c) (passed accepted).settings in
      omega (arith, degree_planned folded parity (length c), range.from)

-- ---- the interval

module _ (folded : Bool) (parity : Parity) (c : List ℤ) (a b : Float) where
  pub early_numbered : Numbered (early_tests folded parity c a b)
  early_numbered = numbered_append (input_tests folded parity c) (unordered a b ∷ []) (inputs_numbered folded parity c) (omega arith, tt)

  -- a refusal of the polynomial stays
  pub early_kept : 0 < first_refusal (input_tests folded parity c)
      → first_refusal (early_tests folded parity c a b) ≡ first_refusal (input_tests folded parity c)
  early_kept positive = first_kept (input_tests folded parity c) (unordered a b ∷ []) positive

  -- of an accepted one the interval decides
  interval_decides : Accepted folded parity c → first_refusal (early_tests folded parity c a b) ≡ cond (not (lt a b)) 7 0
  interval_decides accepted = first_of_more (input_tests folded parity c) (unordered a b ∷ []) (inputs_numbered folded parity c) accepted

  pub early_unordered : Accepted folded parity c → lt a b ≡ false → first_refusal (early_tests folded parity c a b) ≡ 7
  early_unordered accepted unordered_is = interval_decides accepted ∙ ap (λ (test : Bool). cond (not test) 7 0) unordered_is

  pub early_passed : Accepted folded parity c → Ordered a b → first_refusal (early_tests folded parity c a b) ≡ 0
  early_passed accepted ordered = interval_decides accepted ∙ ap (λ (test : Bool). cond (not test) 7 0) ordered

  pub early_most : first_refusal (early_tests folded parity c a b) ≤ 7
  early_most =
      first_most 7 (early_tests folded parity c a b)
      (numbers_append 7 (input_tests folded parity c) (unordered a b ∷ []) (inputs_to 7 (omega arith) folded parity c) (omega arith, tt))

  -- and where all of these tests are passed, both hold
  pub early_accepted : first_refusal (early_tests folded parity c a b) ≡ 0 → Accepted folded parity c
  early_accepted passed = first_passed (input_tests folded parity c) (unordered a b ∷ []) (inputs_numbered folded parity c) passed

  pub early_ordered : first_refusal (early_tests folded parity c a b) ≡ 0 → Ordered a b
  early_ordered passed =
      let none = none_holds (unordered a b ∷ []) (omega arith, tt) (sym (interval_decides (early_accepted passed)) ∙ passed) in
      not-false (lt a b) none.0

-- ---- the buffers

-- a step takes four numbers
pub steps_short : (steps numbers : ℕ) → numbers / 4 < steps → ltb numbers (4 * steps) ≡ true
steps_short steps numbers short = lt-ltb numbers (4 * steps) (omega arith)

pub steps_fit : (steps numbers : ℕ) → steps ≤ numbers / 4 → ltb numbers (4 * steps) ≡ false
steps_fit steps numbers fits = le-ltb numbers (4 * steps) (omega arith)

-- no test holds exactly where the buffers have the sizes
module _ (sizes : PlanSizes) (out bounds steps : ℕ) where
  abbrev tests : List Test
  tests = buffer_tests sizes.coefficients sizes.lists sizes.steps out bounds steps

  pub buffers_fit : first_refusal tests ≡ 0 → HasSizes sizes out bounds steps
  buffers_fit passed =
      let none = none_holds tests (omega arith, (omega arith, (omega arith, tt))) passed in
      record {
        coefficients = ltb-false out sizes.coefficients none.0;
        boundaries = ltb-false bounds sizes.lists none.1.0;
        numbers = ltb-false steps (4 * sizes.steps) none.1.1.0;
      }

  pub fit_passes : HasSizes sizes out bounds steps → first_refusal tests ≡ 0
  fit_passes fit = rw (
    le-ltb out sizes.coefficients fit.coefficients,
    le-ltb bounds sizes.lists fit.boundaries,
    le-ltb steps (4 * sizes.steps) fit.numbers,
  )
