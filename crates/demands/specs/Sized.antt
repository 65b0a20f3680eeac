-- Request Q-1, "Buffer sizes before the curve is there": what the sizes of a degree and its settings say of every plan call of that degree with these
-- settings.
use Rattle.std.specs.Prelude.{◌≡◌, Bool, true, false, List, [], ◌∷◌, ◌↔◌, ℕ, ◌<◌, Float, ℤ, length}
use Rattle.algebra.specs.declared.Basis.{Basis}
use Rattle.algebra.specs.declared.Parity.{Parity}
use Rattle.number.specs.Interval.{Ordered}
use Rattle.number.specs.Refusal.{first_refusal}
use Rattle.number.specs.Tests.{degree_of}
use Rattle.counts.specs.declared.choice.SplitStrategy.{SplitStrategy}
use Rattle.plan.specs.PlanCall.{settings_tests, Accepted, early_tests, buffer_tests, PlanCall, Planned}
use Rattle.plan.specs.PlanSizes.{sizes_in, HasSizes, sizes_call, PlanSizes}
use Rattle.demands.specs.Total.{numbers_of}

-- the sizes of a plan call's degree and settings, held against its buffers and its answer r
pub record Sized (folded : Bool) (parity : Parity) (c : List ℤ) (a b : Float) (out : List ℤ) (bounds steps : List ℕ) (sizes : PlanSizes) (r : Planned)
    : Type 0 where
  -- a plan's head tells these sizes
  pub head_sizes : r.refusal ≡ 0 → sizes_in r.head ≡ sizes
  -- a polynomial that with its interval passes every test ahead of 21 is planned exactly if the three buffers are at least as long
  pub planned_if_long : Accepted folded parity c → Ordered a b → (r.refusal ≡ 0) ↔ HasSizes sizes (length out) (length bounds) (length steps)
  -- else the first buffer that is shorter is refused
  pub short_refused : Accepted folded parity c → Ordered a b → r.refusal
      ≡ first_refusal (buffer_tests sizes.coefficients sizes.lists sizes.steps (length out) (length bounds) (length steps))
  -- and buffers as long are never refused, whatever polynomial and interval: the tests ahead of 21 decide
  pub long_decides : HasSizes sizes (length out) (length bounds) (length steps) → r.refusal ≡ first_refusal (early_tests folded parity c a b)
  pub never_short : HasSizes sizes (length out) (length bounds) (length steps) → r.refusal < 21
  -- settings that are refused here are refused there with the same number
  pub settings_refused : 0 < sizes.refusal → r.refusal ≡ sizes.refusal

abbrev pub PlansSized : Type 0
PlansSized = (strategy : SplitStrategy) (parity : Parity) (basis : Basis) (folded : Bool) (c : List ℤ) (a b : Float) (out : List ℤ)
    (bounds steps : List ℕ) (r : Planned) (out' : List ℤ) (bounds' steps' : List ℕ)
    → PlanCall strategy parity basis folded c a b out bounds steps r out' bounds' steps'
    → Sized folded parity c a b out bounds steps (sizes_call strategy parity basis folded (degree_of c)) r

-- the refusal numbers of the sizes, in order
pub record SizesOrder (parity : Parity) (degree : ℕ) : Type 0 where
  pub unfolded : numbers_of (settings_tests false parity degree) ≡ 2 ∷ 1 ∷ []
  pub with_folding : numbers_of (settings_tests true parity degree) ≡ 2 ∷ 1 ∷ 5 ∷ 6 ∷ []
