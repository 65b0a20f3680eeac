-- A set of one member is that member's plan: the union of one list is that list (sets' `union_one`), and what stands one after another, of one alone, is
-- just that.
use mathlib.Core.Path.{◌≡◌, refl, sym, ◌∙◌, ap, ap₂}
use mathlib.Core.List.{List, [], ◌∷◌, ◌++◌, map, append-nil}
use Prim.Native.Nat.{ℕ, ◌+◌}
use native.Mathlib.Omega.{arith}
use lib.ListN.{length}
use Rattle.algebra.specs.declared.PolynomialInputTransform.{PolynomialInputTransform}
use Rattle.algebra.specs.declared.PolynomialInputTransform.TheVariants.{Identity, Square, SquareTimesInput, ChebyshevT2, ChebyshevT2TimesInput}
use Rattle.needed.proofs.Promises.{needed_powers}
use Rattle.lists.specs.Lists.{joined}
use Rattle.walk.specs.declared.plan.Head.{Head}
use Rattle.walk.specs.declared.plan.Step.{Step}
use Rattle.plan.specs.PlanSteps.{make_step, power_steps, steps_at}
use Rattle.plan.specs.Reported.{of_kind, transform_cost, reported}
use Rattle.plan.specs.PlanHead.{head_of}
use Rattle.sets.specs.Members.{total, Curve}
use Rattle.sets.specs.Own.{own_split, own_powers, own_steps, own_boundaries, alone_head, member_head, member_coefficients}
use Rattle.sets.specs.SetPlan.{set_powers, common_steps, member_steps, set_steps, shared_cost, set_ct, set_coefficients, set_boundaries}
use Rattle.sets.proofs.Union.{union_one}
use Rattle.demands.specs.SetOne.{OnesPlanned}
use Rattle.demands.proofs.Parts.{boundaries_alone}
use Rattle.demands.proofs.SetRight.{alone_planned}
use Rattle.demands.proofs.SetAnswer.{alone_steps}
use Rattle.demands.proofs.SetCounted.{power_steps_lem, plains_add}

-- ---- one member

shared_one : (transform : PolynomialInputTransform) → shared_cost transform 1 ≡ transform_cost transform
shared_one Identity = refl
shared_one Square = refl
shared_one SquareTimesInput = refl
shared_one ChebyshevT2 = refl
shared_one ChebyshevT2TimesInput = refl

pub one_powers : (head : Head) → set_powers (head ∷ []) ≡ own_powers head
unfolding set_powers own_powers
one_powers head =
    union_one (own_powers head) (needed_powers head.parity head.basis head.degree (own_split head)).rising

one_steps : (head : Head) → set_steps (head ∷ []) ≡ map make_step (own_powers head) ++ own_steps head
unfolding set_steps common_steps member_steps joined
one_steps head = ap₂ ◌++◌ (ap (map make_step) (one_powers head)) (append-nil (own_steps head))

alone_ct : (curve : Curve) → (alone_head curve).ct
    ≡ of_kind 1 (map make_step (own_powers (member_head curve)) ++ own_steps (member_head curve))
    + of_kind 3 (map make_step (own_powers (member_head curve)) ++ own_steps (member_head curve)) + transform_cost (member_head curve).transform
unfolding head_of reported own_steps own_powers steps_at power_steps
alone_ct curve = refl

one_coefficients : (curve : Curve) → set_coefficients (curve ∷ []) ≡ member_coefficients curve
unfolding set_coefficients joined
one_coefficients curve = append-nil (member_coefficients curve)

one_boundaries : (head : Head) → set_boundaries (head ∷ []) ≡ own_boundaries head
unfolding set_boundaries joined
one_boundaries head = append-nil (own_boundaries head)

one_total : (n : ℕ) → total (n ∷ []) ≡ n
unfolding total
one_total n = omega arith

pub ones_planned : OnesPlanned
unfolding set_ct
ones_planned curve accepted =
    let head = member_head curve in
    let steps_are = one_steps head in
    record {
      coefficients = one_coefficients curve;
      boundaries = one_boundaries head ∙ boundaries_alone curve accepted;
      steps = steps_are ∙ sym (alone_planned curve);
      ct = ap₂ ◌+◌
          (ap (◌+ of_kind 3 (set_steps (head ∷ []))) (sym (power_steps_lem (head ∷ []))) ∙ ap (λ (l : List Step). of_kind 1 l + of_kind 3 l) steps_are)
          (shared_one head.transform)
          ∙ sym (alone_ct curve);
      pt = plains_add (curve ∷ []) ∙ one_total (alone_head curve).pt;
      step_count_lem = ap (λ (l : List ℕ). length l + head.steps) (one_powers head) ∙ sym (alone_steps curve);
    }
