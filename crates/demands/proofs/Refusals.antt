-- The plan call's tests (docs/RULES.md, "Refusals"), ahead of 21 and from there on: all pass exactly if the polynomial is accepted, the interval's bounds
-- are in order and the buffers are long enough.
use mathlib.Core.Path.{◌≡◌, subst, sym, ◌∙◌}
use mathlib.Core.Bool.{Bool}
use mathlib.Core.List.{List}
use Prim.Native.Nat.{ℕ}
use lib.Ieee.{Float}
use lib.IntN.{ℤ}
use lib.ListN.{length}
use Rattle.algebra.specs.declared.Basis.{Basis}
use Rattle.algebra.specs.declared.Parity.{Parity}
use Rattle.number.specs.Interval.{change_of_basis, Ordered}
use Rattle.number.specs.Refusal.{Test, first_refusal}
use Rattle.number.proofs.FirstRefusal.{first_of_more, first_passed}
use Rattle.counts.specs.declared.choice.SplitStrategy.{SplitStrategy}
use Rattle.walk.specs.declared.plan.Head.{Head}
use Rattle.plan.specs.PlanCall.{planned_parity, planned_transform, Accepted, early_tests, buffer_tests, planned_degree, head_for, plan_refusal}
use Rattle.plan.specs.PlanSizes.{sizes_for, sizes_in, HasSizes, PlanSizes}
use Rattle.plan.proofs.HeadCounts.{head_sizes}
use Rattle.plan.proofs.PlanTests.{early_numbered, early_passed, early_accepted, early_ordered, buffers_fit, fit_passes}
use Rattle.demands.specs.Accepts.{BringsPlan}

-- a head tells the sizes of its plan, whatever its interval
pub sizes_told : (strategy : SplitStrategy) (parity : Parity) (basis : Basis) (folded : Bool) (c : List ℤ) (a b : Float)
    → sizes_in (head_for strategy parity basis folded c a b) ≡ sizes_for strategy parity basis folded c
sizes_told strategy parity basis folded c a b =
    head_sizes strategy (planned_parity folded parity) basis (planned_transform folded parity basis) (change_of_basis basis a b)
    (planned_degree strategy parity basis folded c)

module _ (strategy : SplitStrategy) (parity : Parity) (basis : Basis) (folded : Bool) (c : List ℤ) (a b : Float) (out : List ℤ)
    (bounds steps : List ℕ) where
  abbrev head : Head
  head = head_for strategy parity basis folded c a b

  -- 21, 22, 23
  abbrev pub late_tests : List Test
  late_tests = buffer_tests head.coefficients head.lists head.steps (length out) (length bounds) (length steps)

  pub late_refusal : Accepted folded parity c → Ordered a b → plan_refusal strategy parity basis folded c a b out bounds steps ≡ first_refusal late_tests
  unfolding plan_refusal
  late_refusal accepted ordered =
      first_of_more (early_tests folded parity c a b) late_tests (early_numbered folded parity c a b)
      (early_passed folded parity c a b accepted ordered)

  -- long enough buffers have the sizes that the head tells
  abbrev Long : PlanSizes → Type 0
  Long sizes = HasSizes sizes (length out) (length bounds) (length steps)

  pub head_fits : BringsPlan strategy parity basis folded c a b out bounds steps → Long (sizes_in head)
  head_fits brings = subst Long (sym (sizes_told strategy parity basis folded c a b)) brings.long_enough

  pub plan_made_lem : BringsPlan strategy parity basis folded c a b out bounds steps → plan_refusal strategy parity basis folded c a b out bounds steps ≡ 0
  plan_made_lem brings =
      late_refusal brings.accepted brings.ordered
      ∙ fit_passes (sizes_in head) (length out) (length bounds) (length steps) (head_fits brings)

  pub made_brings : plan_refusal strategy parity basis folded c a b out bounds steps ≡ 0 → BringsPlan strategy parity basis folded c a b out bounds steps
  unfolding plan_refusal
  made_brings made =
      let early = first_passed (early_tests folded parity c a b) late_tests (early_numbered folded parity c a b) made in
      let accepted = early_accepted folded parity c a b early in
      let ordered = early_ordered folded parity c a b early in
      record {
        accepted = accepted;
        ordered = ordered;
        long_enough = subst Long (sizes_told strategy parity basis folded c a b)
            (buffers_fit (sizes_in head) (length out) (length bounds) (length steps) (sym (late_refusal accepted ordered) ∙ made));
      }
