-- Request Q-8, "Back from lists to the curve": the lists of a plan are rebuilt to the polynomial that was planned, or to its fold, and what was rebuilt is
-- planned to the same lists.
use Rattle.std.specs.Prelude.{◌≡◌, Bool, false, List, [], ◌∷◌, ◌++◌, ℕ, ◌≤◌, Float, ℤ, length, take}
use Rattle.algebra.specs.declared.Basis.{Basis}
use Rattle.algebra.specs.declared.Parity.{Parity}
use Rattle.counts.specs.declared.choice.SplitStrategy.{SplitStrategy}
use Rattle.lists.specs.ListCall.{Listed}
use Rattle.rebuild.specs.RebuildCall.{Rebuilt, rebuild_tests, RebuildCall}
use Rattle.rebuild.specs.Promises.{GivesAgain, ListsAgain}
use Rattle.walk.specs.declared.plan.Head.{Head}
use Rattle.plan.specs.PlanCall.{planned_coefficients, Accepted, head_for, numbers_for, PlanCall, Planned}
use Rattle.demands.specs.Right.{WalksRight}
use Rattle.demands.specs.Total.{numbers_of}

-- "For every polynomial accepted unfolded, rebuilding its lists gives its coefficients again": from the buffers as a plan call left them, with the
-- settings, degree and base of its head. Unfolded they are the polynomial's own coefficients; the lists of a folded plan give those of the fold.
abbrev pub RebuildsPlans : Type 0
RebuildsPlans = (strategy : SplitStrategy) (parity : Parity) (basis : Basis) (folded : Bool) (c : List ℤ) (a b : Float) (lists : List ℤ)
    (bounds steps : List ℕ) (r : Planned) (lists' : List ℤ) (bounds' steps' : List ℕ)
    → PlanCall strategy parity basis folded c a b lists bounds steps r lists' bounds' steps' → r.refusal ≡ 0
    → (out : List ℤ) (s : Rebuilt) (out' : List ℤ)
    → RebuildCall r.head.strategy r.head.parity r.head.basis r.head.degree r.head.base lists' bounds' out s out'
    → length (planned_coefficients folded parity basis c) ≤ length out → GivesAgain (planned_coefficients folded parity basis c) out s out'

-- what a head says of its lists
abbrev pub listed_in : Head → Listed
listed_in head = record { refusal = 0; degree = head.degree; base = head.base; coefficients = head.coefficients; lists = head.lists }

-- "for every rebuilt polynomial that the planner accepts with the same settings, listing it gives the lists"
abbrev pub PlansRebuilt : Type 0
PlansRebuilt = (strategy : SplitStrategy) (parity : Parity) (basis : Basis) (degree base : ℕ) (lists : List ℤ) (bounds : List ℕ) (c : List ℤ)
    (s : Rebuilt) (c' : List ℤ) → RebuildCall strategy parity basis degree base lists bounds c s c' → s.refusal ≡ 0
    → (a b : Float) (out : List ℤ) (ends steps : List ℕ) (r : Planned) (out' : List ℤ) (ends' steps' : List ℕ)
    → PlanCall strategy parity basis false (take s.coefficients c') a b out ends steps r out' ends' steps' → r.refusal ≡ 0
    → ListsAgain degree base lists bounds out ends (listed_in r.head) out' ends'

-- What was rebuilt has the value that the lists have: if the planner accepts it, the lists and boundaries from which it was rebuilt, lent as they stand
-- with the steps and the head of its plan, are walked to its value at every whole number, and their trial walks answer its remainders.
abbrev pub RebuiltRight : Type 0
RebuiltRight = (strategy : SplitStrategy) (parity : Parity) (basis : Basis) (degree base : ℕ) (lists : List ℤ) (bounds : List ℕ) (c : List ℤ)
    (s : Rebuilt) (c' : List ℤ) → RebuildCall strategy parity basis degree base lists bounds c s c' → s.refusal ≡ 0
    → Accepted false parity (take s.coefficients c')
    → (a b : Float) (more : List ℕ) (x : ℤ)
    → WalksRight (head_for strategy parity basis false (take s.coefficients c') a b) lists bounds
    (numbers_for strategy parity basis false (take s.coefficients c') ++ more) basis (take s.coefficients c') x

-- so two polynomials that are planned unfolded with the same settings into the same lists are the same
abbrev pub PlansTell : Type 0
PlansTell = (strategy : SplitStrategy) (parity : Parity) (basis : Basis) (c d : List ℤ) (a b a' b' : Float) (out : List ℤ) (ends steps : List ℕ)
    (r : Planned) (out' : List ℤ) (ends' steps' : List ℕ) → PlanCall strategy parity basis false c a b out ends steps r out' ends' steps'
    → r.refusal ≡ 0 → (room : List ℤ) (marks numbers : List ℕ) (s : Planned) (room' : List ℤ) (marks' numbers' : List ℕ)
    → PlanCall strategy parity basis false d a' b' room marks numbers s room' marks' numbers' → s.refusal ≡ 0
    → take r.head.coefficients out' ≡ take s.head.coefficients room' → c ≡ d

-- "It refuses with 2 and 1, then with 33 .., then with 34 .., then with 21."
abbrev pub RebuildOrder : Type 0
RebuildOrder = (strategy : SplitStrategy) (parity : Parity) (basis : Basis) (degree base : ℕ) (lists : List ℤ) (bounds : List ℕ) (out : List ℤ)
    → numbers_of (rebuild_tests strategy parity basis degree base lists bounds out) ≡ 2 ∷ 1 ∷ 33 ∷ 34 ∷ 21 ∷ []
