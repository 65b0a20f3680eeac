-- Refusals (docs/RULES.md, "Refusals"): a call makes its tests in a fixed order, and answers with the number of the first that holds.
use Rattle.std.specs.Prelude.{◌≡◌, Bool, true, false, cond, List, [], ◌∷◌, ℕ, zero, suc, ◌<◌}

-- a test, and the number that a call answers with where it holds
abbrev pub Test : Type 0
Test = Bool × ℕ

-- the number of the first test that holds, or 0
abbrev pub first_refusal : List Test → ℕ
first_refusal [] = 0
first_refusal (test ∷ tests) = cond test.0 test.1 (first_refusal tests)

-- what a call answers, or leaves in a buffer: `accepted`, or, after a refusal, `refused`
unfoldable pub unless_refused : {X : Type 0} → (refusal : ℕ) → (accepted refused : X) → X
unless_refused zero accepted refused = accepted
unless_refused (suc k) accepted refused = refused

-- ---- what a refusal says

-- every test has a number from 1 up
abbrev pub Numbered : List Test → Type 0
Numbered [] = Unit {0}
Numbered (test ∷ tests) = (0 < test.1) × Numbered tests

-- no test holds
abbrev pub NoneHolds : List Test → Type 0
NoneHolds [] = Unit {0}
NoneHolds (test ∷ tests) = (test.0 ≡ false) × NoneHolds tests

-- k is the number of a test that holds, ahead of which none holds
pub data FirstHolds (k : ℕ) : List Test → Type 0 where
  here : {tests : List Test} → FirstHolds k ((true, k) ∷ tests)
  later : {n : ℕ} {tests : List Test} → FirstHolds k tests → FirstHolds k ((false, n) ∷ tests)

-- 0 says that no test holds, and any other number that it is the first test's that does
pub record RefusalSays (tests : List Test) : Type 0 where
  pub accepted : first_refusal tests ≡ 0 → NoneHolds tests
  pub refused : 0 < first_refusal tests → FirstHolds (first_refusal tests) tests

-- so it is for every call
abbrev pub RefusalsSay : Type 0
RefusalsSay = (tests : List Test) → Numbered tests → RefusalSays tests
