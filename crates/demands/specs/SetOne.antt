-- A set of one member is that member's plan: it has the same coefficients, boundaries and steps, and the same counts.
use Rattle.std.specs.Prelude.{◌≡◌, [], ◌∷◌, ◌+◌, length}
use Rattle.plan.specs.PlanCall.{Accepted, coefficients_for, boundaries_for}
use Rattle.sets.specs.Members.{Curve}
use Rattle.sets.specs.Own.{alone_head, member_head}
use Rattle.sets.specs.SetPlan.{heads_of, set_coefficients, set_powers, set_steps, set_boundaries, set_ct, set_pt}
use Rattle.demands.specs.Right.{steps_for}

pub record OneMember (curve : Curve) : Type 0 where
  pub coefficients : set_coefficients (curve ∷ [])
      ≡ coefficients_for curve.member.strategy curve.member.parity curve.member.basis curve.member.fold curve.coefficients
  pub boundaries : set_boundaries (heads_of (curve ∷ []))
      ≡ boundaries_for curve.member.strategy curve.member.parity curve.member.basis curve.member.fold curve.coefficients
  pub steps : set_steps (heads_of (curve ∷ []))
      ≡ steps_for curve.member.strategy curve.member.parity curve.member.basis curve.member.fold curve.coefficients
  pub ct : set_ct (heads_of (curve ∷ [])) ≡ (alone_head curve).ct
  pub pt : set_pt (heads_of (curve ∷ [])) ≡ (alone_head curve).pt
  pub step_count_lem : length (set_powers (heads_of (curve ∷ []))) + (member_head curve).steps ≡ (alone_head curve).steps

abbrev pub OnesPlanned : Type 0
OnesPlanned = (curve : Curve) → Accepted curve.member.fold curve.member.parity curve.coefficients → OneMember curve
