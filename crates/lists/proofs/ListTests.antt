-- The list calls' tests: what holds where none of them does, and what an early one leaves of the others.
use mathlib.Core.Path.{◌≡◌, ◌∙◌}
use mathlib.Core.Bool.{Bool, true}
use mathlib.Core.List.{List, [], ◌∷◌, ◌++◌}
use Prim.Native.Nat.{ℕ, ◌-◌, ◌≤◌, ◌<◌}
use native.Mathlib.Omega.{arith}
use borrow.Author.Tests.{lt-ltb, le-ltb, ltb-false, eqb-false, not-false}
use Rattle.number.specs.Limits.{plan_limit}
use Rattle.number.specs.Refusal.{Test, first_refusal, Numbered, NoneHolds}
use Rattle.number.specs.Tests.{no_boundaries}
use Rattle.number.specs.inside.Between.{Between}
use Rattle.number.proofs.FirstRefusal.{none_holds, first_kept, first_of_more}
use Rattle.lists.specs.inside.ListTests.{early_tests, early_refusal, refusal_by}

-- ---- the tests of the list calls

-- n coefficients that pass every test ahead of the boundaries
pub record Early (n : ℕ) (small : Bool) (room : ℕ) : Type 0 where
  pub degree : Between 1 (n - 1) plan_limit
  pub is_small : small ≡ true
  pub holds : n ≤ room

module _ (n : ℕ) (small : Bool) (room : ℕ) where
  numbered : Numbered (early_tests n small room)
  numbered = (omega arith, (omega arith, (omega arith, (omega arith, tt))))

  facts : (more : List Test) → NoneHolds (early_tests n small room ++ more) → Early n small room
  facts more tests = record {
    degree = record { from = let some = eqb-false (n - 1) 0 tests.1.0 in omega arith; to = ltb-false plan_limit (n - 1) tests.0 };
    is_small = not-false small tests.1.1.0;
    holds = ltb-false room n tests.1.1.1.0;
  }

  pub early_passed : early_refusal n small room ≡ 0 → Early n small room
  unfolding early_refusal
  early_passed none = facts [] (none_holds (early_tests n small room) numbered none)

  module _ (boundaries lists : ℕ) where
    -- an early refusal is the call's
    pub early_refused : 0 < early_refusal n small room → refusal_by n small room boundaries lists ≡ early_refusal n small room
    unfolding early_refusal refusal_by
    early_refused some = first_kept (early_tests n small room) (no_boundaries boundaries lists ∷ []) some

    module _ (none : early_refusal n small room ≡ 0) where
      late : refusal_by n small room boundaries lists ≡ first_refusal (no_boundaries boundaries lists ∷ [])
      unfolding early_refusal refusal_by
      late = first_of_more (early_tests n small room) (no_boundaries boundaries lists ∷ []) numbered none

      -- too few boundaries
      pub late_refused : boundaries < lists → refusal_by n small room boundaries lists ≡ 22
      late_refused short = late ∙ rw (lt-ltb boundaries lists short)

      pub none_refused : lists ≤ boundaries → refusal_by n small room boundaries lists ≡ 0
      none_refused long = late ∙ rw (le-ltb boundaries lists long)

    -- no refusal: every test passed
    pub all_passed : refusal_by n small room boundaries lists ≡ 0 → Early n small room × (lists ≤ boundaries)
    unfolding refusal_by
    all_passed none =
        let tests : List Test = early_tests n small room ++ (no_boundaries boundaries lists ∷ []) in
        let all : Numbered tests = (omega arith, (omega arith, (omega arith, (omega arith, (omega arith, tt))))) in
        let passed = none_holds tests all none in
        (facts (no_boundaries boundaries lists ∷ []) passed, ltb-false boundaries lists passed.1.1.1.1.0)
