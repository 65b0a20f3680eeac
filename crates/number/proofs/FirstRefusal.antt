-- What a refusal says, for every list of tests and with others behind it, and what a refused and an accepted call leave. By recursion on the tests.
use mathlib.Core.Path.{◌≡◌, refl}
use mathlib.Core.Bool.{true, false}
use mathlib.Core.List.{List, [], ◌∷◌, ◌++◌}
use Prim.Native.Nat.{ℕ, zero, suc, ◌<◌, ◌≤◌}
use native.Mathlib.Omega.{arith}
use Rattle.number.specs.Refusal.{Test, first_refusal, unless_refused, Numbered, NoneHolds, FirstHolds, here, later, RefusalsSay}

-- 0: no test holds
pub none_holds : (tests : List Test) → Numbered tests → first_refusal tests ≡ 0 → NoneHolds tests
none_holds [] numbered none = tt
none_holds ((true, k) ∷ tests) numbered none = absurd (omega (arith, numbered.0))
none_holds ((false, k) ∷ tests) numbered none = (refl, none_holds tests numbered.1 none)

-- any other number: the first test's that holds
first_holds : (tests : List Test) → Numbered tests → 0 < first_refusal tests → FirstHolds (first_refusal tests) tests
first_holds [] numbered some = absurd (omega arith)
first_holds ((true, k) ∷ tests) numbered some = here
first_holds ((false, k) ∷ tests) numbered some = later (first_holds tests numbered.1 some)

pub refusals_say : RefusalsSay
refusals_say tests numbered = record { accepted = none_holds tests numbered; refused = first_holds tests numbered }

pub numbered_append : (tests more : List Test) → Numbered tests → Numbered more → Numbered (tests ++ more)
numbered_append [] more first second = second
numbered_append (test ∷ tests) more first second = (first.0, numbered_append tests more first.1 second)

-- a refusal is the same whatever tests follow
pub first_kept : (tests more : List Test) → 0 < first_refusal tests → first_refusal (tests ++ more) ≡ first_refusal tests
first_kept [] more some = absurd (omega arith)
first_kept ((true, k) ∷ tests) more some = refl
first_kept ((false, k) ∷ tests) more some = first_kept tests more some

-- where none holds, those that follow decide
pub first_of_more : (tests more : List Test) → Numbered tests → first_refusal tests ≡ 0 → first_refusal (tests ++ more) ≡ first_refusal more
first_of_more [] more numbered none = refl
first_of_more ((true, k) ∷ tests) more numbered none = absurd (omega (arith, numbered.0))
first_of_more ((false, k) ∷ tests) more numbered none = first_of_more tests more numbered.1 none

-- what passes all, passes the first of them
pub first_passed : (tests more : List Test) → Numbered tests → first_refusal (tests ++ more) ≡ 0 → first_refusal tests ≡ 0
first_passed [] more numbered none = refl
first_passed ((true, k) ∷ tests) more numbered none = none
first_passed ((false, k) ∷ tests) more numbered none = first_passed tests more numbered.1 none

-- a refusal is the number of a test, so none is greater than all of these
abbrev pub NumbersTo : (most : ℕ) → List Test → Type 0
NumbersTo most [] = Unit {0}
NumbersTo most (test ∷ tests) = (test.1 ≤ most) × NumbersTo most tests

pub first_most : (most : ℕ) (tests : List Test) → NumbersTo most tests → first_refusal tests ≤ most
first_most most [] numbers = omega arith
first_most most ((true, k) ∷ tests) numbers = numbers.0
first_most most ((false, k) ∷ tests) numbers = first_most most tests numbers.1

pub numbers_append : (most : ℕ) (tests more : List Test) → NumbersTo most tests → NumbersTo most more → NumbersTo most (tests ++ more)
numbers_append most [] more first second = second
numbers_append most (test ∷ tests) more first second = (first.0, numbers_append most tests more first.1 second)

-- the refusal that an answer carries
pub refusal_of : {X : Type 0} (k : ℕ) (accepted refused : X) (read : X → ℕ) → read accepted ≡ 0 → read refused ≡ k
    → read (unless_refused k accepted refused) ≡ k
unfolding unless_refused
refusal_of zero accepted refused read none_is some_is = none_is
refusal_of (suc k) accepted refused read none_is some_is = some_is

-- what a refused call answers or leaves, and what an accepted one does
pub when_refused : {X : Type 0} (k : ℕ) (accepted refused : X) → 0 < k → refused ≡ unless_refused k accepted refused
unfolding unless_refused
when_refused zero accepted refused some = absurd (omega arith)
when_refused (suc k) accepted refused some = refl

pub when_accepted : {X : Type 0} {k : ℕ} (accepted refused : X) → k ≡ 0 → accepted ≡ unless_refused k accepted refused
unfolding unless_refused
when_accepted accepted refused none = rw none
