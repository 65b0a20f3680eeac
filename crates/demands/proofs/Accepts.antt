-- The accepted polynomials are those that demand 3 names, and what is planned of them has from 2 to 4,096 coefficients of the planned parity.
use mathlib.Core.Path.{◌≡◌, refl}
use mathlib.Core.Bool.{Bool, true, false, true≢false, false≢true}
use mathlib.Core.List.{List}
use Prim.Native.Nat.{ℕ, ◌-◌, ◌≤◌, ◌<◌}
use native.Mathlib.Omega.{arith}
use borrow.Author.Tests.{ltb-false, le-ltb, leb-true, le-leb, eqb-false, ne_eqb, not-false}
use lib.Dec.{leb}
use lib.IntN.{ℤ}
use lib.ListN.{length}
use Rattle.algebra.specs.Operations.{whole_ops}
use Rattle.algebra.specs.Allowed.{allows, HasParity}
use Rattle.algebra.specs.Fold.{folded_length}
use Rattle.algebra.specs.Magnitude.{sum_abs}
use Rattle.algebra.specs.declared.Basis.{Basis}
use Rattle.algebra.specs.declared.Parity.{Parity}
use Rattle.algebra.specs.declared.Parity.TheVariants.{Full, Even, Odd}
use Rattle.algebra.proofs.FoldPlaces.{fold_length}
use Rattle.number.specs.Limits.{plan_limit, sum_limit}
use Rattle.number.specs.Numbers.{whole_numbers}
use Rattle.number.specs.Parity.{has_parity}
use Rattle.number.specs.Tests.{degree_of, least_folded, is_full}
use Rattle.number.proofs.ParityTold.{parity_told}
use Rattle.number.proofs.FirstRefusal.{none_holds}
use Rattle.plan.specs.PlanCall.{planned_coefficients, planned_parity, input_tests, Accepted}
use Rattle.demands.specs.Accepts.{Foldable, Covered, CoveredAccepted}

-- ---- what is accepted

foldable_told : (parity : Parity) (degree : ℕ) → is_full parity ≡ false → least_folded parity ≤ degree → Foldable parity degree
foldable_told Full degree not_full enough = absurd (true≢false not_full)
foldable_told Even degree not_full enough = enough
foldable_told Odd degree not_full enough = enough

accepted_covered : (folded : Bool) (parity : Parity) (c : List ℤ) → Accepted folded parity c → Covered folded parity c
accepted_covered true parity c accepted =
    let tests = none_holds (input_tests true parity c) (omega arith, (omega arith, (omega arith, (omega arith, (omega arith, (omega arith, tt)))))) accepted in
    let few = ltb-false plan_limit (degree_of c) tests.0 in
    let some = eqb-false (degree_of c) 0 tests.1.0 in
    record {
      degree_from = omega arith;
      degree_to = few;
      magnitudes = leb-true (sum_abs c) sum_limit (not-false (leb (sum_abs c) sum_limit) tests.1.1.1.1.1.0);
      right_parity = (parity_told parity c).0 (not-false (has_parity whole_numbers parity c) tests.1.1.1.1.0);
      foldable = λ folds. foldable_told parity (degree_of c) tests.1.1.0 (ltb-false (degree_of c) (least_folded parity) tests.1.1.1.0);
    }
accepted_covered false parity c accepted =
    let tests = none_holds (input_tests false parity c) (omega arith, (omega arith, (omega arith, (omega arith, tt)))) accepted in
    let few = ltb-false plan_limit (degree_of c) tests.0 in
    let some = eqb-false (degree_of c) 0 tests.1.0 in
    record {
      degree_from = omega arith;
      degree_to = few;
      magnitudes = leb-true (sum_abs c) sum_limit (not-false (leb (sum_abs c) sum_limit) tests.1.1.1.0);
      right_parity = (parity_told parity c).0 (not-false (has_parity whole_numbers parity c) tests.1.1.0);
      foldable = λ folds. absurd (false≢true folds);
    }

told_foldable : (parity : Parity) (degree : ℕ) → Foldable parity degree → (is_full parity ≡ false) × (least_folded parity ≤ degree)
told_foldable Full degree never = absurd never
told_foldable Even degree enough = (refl, enough)
told_foldable Odd degree enough = (refl, enough)

covered_accepted_by : (folded : Bool) (parity : Parity) (c : List ℤ) → Covered folded parity c → Accepted folded parity c
covered_accepted_by true parity c covered =
    let told = told_foldable parity (degree_of c) (covered.foldable refl) in
    rw (
      le-ltb plan_limit (degree_of c) covered.degree_to,
      ne_eqb (degree_of c) 0 (λ none. omega (arith, covered.degree_from)),
      told.0,
      le-ltb (degree_of c) (least_folded parity) told.1,
      (parity_told parity c).1 covered.right_parity,
      le-leb (sum_abs c) sum_limit covered.magnitudes,
    )
covered_accepted_by false parity c covered =
    rw (
      le-ltb plan_limit (degree_of c) covered.degree_to,
      ne_eqb (degree_of c) 0 (λ none. omega (arith, covered.degree_from)),
      (parity_told parity c).1 covered.right_parity,
      le-leb (sum_abs c) sum_limit covered.magnitudes,
    )

pub covered_accepted : CoveredAccepted
covered_accepted folded parity c = (accepted_covered folded parity c, covered_accepted_by folded parity c)

-- ---- what is planned

pub record Plannable (parity : Parity) (c : List ℤ) : Type 0 where
  pub several : 1 < length c
  pub few : degree_of c ≤ plan_limit
  pub fits : HasParity whole_ops parity c

-- every list has parity Full
full : (c : List ℤ) → HasParity whole_ops Full c
unfolding allows
full c j not_allowed = absurd (true≢false not_allowed)

-- how many coefficients a fold leaves
fold_range : (parity : Parity) (n : ℕ) → Foldable parity (n - 1) → n - 1 ≤ plan_limit
    → (1 < folded_length parity n) × (folded_length parity n - 1 ≤ plan_limit)
unfolding folded_length
fold_range Full n never few = absurd never
fold_range Even n enough few = (omega arith, omega arith)
fold_range Odd n enough few = (omega arith, omega arith)

pub plannable : (folded : Bool) (parity : Parity) (basis : Basis) (c : List ℤ) → Accepted folded parity c
    → Plannable (planned_parity folded parity) (planned_coefficients folded parity basis c)
plannable true parity basis c accepted =
    let covered = accepted_covered true parity c accepted in
    let range = fold_range parity (length c) (covered.foldable refl) covered.degree_to in
    let size = fold_length whole_ops parity basis c in
    let several = range.0 in
    let few = range.1 in
    record { several = omega arith; few = omega arith; fits = full (planned_coefficients true parity basis c) }
plannable false parity basis c accepted =
    let covered = accepted_covered false parity c accepted in
    record { several = omega (arith, covered.degree_from); few = covered.degree_to; fits = covered.right_parity }
