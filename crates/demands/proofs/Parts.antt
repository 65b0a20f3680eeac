-- What the members of a set have stands one after another: the part of one of them, and how long the parts are.
use mathlib.Core.Path.{◌≡◌, refl, sym, ◌∙◌, ap, ap₂}
use mathlib.Core.List.{List, [], ◌∷◌, ◌++◌, map, map-append, append_assoc, Memᴰ}
use Prim.Native.Nat.{suc, ◌+◌}
use native.Mathlib.Omega.{arith}
use lib.ListN.{length, length-append}
use Rattle.number.specs.Tests.{degree_of}
use Rattle.lists.specs.Arrange.{ends_of}
use Rattle.lists.specs.Lists.{joined}
use Rattle.lists.proofs.Arranging.{length_ends}
use Rattle.plan.specs.PlanHead.{head_of}
use Rattle.plan.specs.PlanCall.{Accepted, planned, tree, boundaries_for}
use Rattle.sets.specs.Members.{Curve, total}
use Rattle.sets.specs.Own.{own_tree, own_steps, own_boundaries, member_head, member_coefficients}
use Rattle.sets.specs.SetPlan.{heads_of, set_coefficients, member_steps, set_boundaries, coefficient_count, list_count, own_step_count}
use Rattle.demands.proofs.Accepts.{plannable}
use Rattle.demands.proofs.Right.{coefficients_length}

module _ {X Y : Type 0} where
  -- the part of one, between those before it and those behind
  pub part_of : (f : X → List Y) (before after : List X) (x : X)
      → joined (map f (before ++ (x ∷ after))) ≡ joined (map f before) ++ (f x ++ joined (map f after))
  unfolding joined
  part_of f [] after x = refl
  part_of f (first ∷ before) after x =
      ap (λ (rest : List Y). f first ++ rest) (part_of f before after x)
      ∙ sym (append_assoc (f first) (joined (map f before)) (f x ++ joined (map f after)))

pub heads_parts : (before after : List Curve) (curve : Curve)
    → heads_of (before ++ (curve ∷ after)) ≡ heads_of before ++ (member_head curve ∷ heads_of after)
heads_parts before after curve = map-append member_head before (curve ∷ after)

-- ---- lengths

pub own_steps_length : (curve : Curve) → length (own_steps (member_head curve)) ≡ (member_head curve).steps
unfolding own_steps
own_steps_length curve = refl

pub own_boundaries_length : (curve : Curve) → length (own_boundaries (member_head curve)) ≡ (member_head curve).lists
unfolding own_boundaries head_of
own_boundaries_length curve = length_ends (own_tree (member_head curve)) 0 _

-- a member's boundaries are those of its plan alone
pub boundaries_alone : (curve : Curve) → Accepted curve.member.fold curve.member.parity curve.coefficients
    → own_boundaries (member_head curve)
    ≡ boundaries_for curve.member.strategy curve.member.parity curve.member.basis curve.member.fold curve.coefficients
unfolding own_boundaries head_of
boundaries_alone curve accepted =
    let facts = plannable curve.member.fold curve.member.parity curve.member.basis curve.coefficients accepted in
    let planned_are = planned curve.member.strategy curve.member.parity curve.member.basis curve.member.fold curve.coefficients in
    let size : suc (degree_of planned_are) ≡ length planned_are = omega (arith, facts.several) in
    ap (ends_of (tree curve.member.strategy curve.member.parity curve.member.basis curve.member.fold curve.coefficients) 0) size

pub steps_total : (curves : List Curve) → length (member_steps (heads_of curves)) ≡ own_step_count (heads_of curves)
unfolding member_steps joined total
steps_total [] = refl
steps_total (curve ∷ curves) =
    length-append (own_steps (member_head curve)) (joined (map own_steps (heads_of curves)))
    ∙ ap₂ ◌+◌ (own_steps_length curve) (steps_total curves)

pub boundaries_total : (curves : List Curve) → length (set_boundaries (heads_of curves)) ≡ list_count (heads_of curves)
unfolding set_boundaries joined total
boundaries_total [] = refl
boundaries_total (curve ∷ curves) =
    length-append (own_boundaries (member_head curve)) (joined (map own_boundaries (heads_of curves)))
    ∙ ap₂ ◌+◌ (own_boundaries_length curve) (boundaries_total curves)

-- each is accepted
abbrev pub AllAccepted : List Curve → Type 0
AllAccepted curves = (curve : Curve) → Memᴰ curve curves → Accepted curve.member.fold curve.member.parity curve.coefficients

pub coefficients_total : (curves : List Curve) → AllAccepted curves → length (set_coefficients curves) ≡ coefficient_count (heads_of curves)
unfolding set_coefficients joined total
coefficients_total [] accepted = refl
coefficients_total (curve ∷ curves) accepted =
    length-append (member_coefficients curve) (joined (map member_coefficients curves))
    ∙ ap₂ ◌+◌
    (coefficients_length curve.member.strategy curve.member.parity curve.member.basis curve.member.fold curve.coefficients
    (accepted curve (Memᴰ.head refl)) curve.member.a curve.member.b)
    (coefficients_total curves (λ one member. accepted one (Memᴰ.tail member)))
