-- The numbers of a set are small: those of each member are those of its plan alone, and the common powers are powers that one of them needs.
use mathlib.Core.Path.{refl, sym, ◌∙◌, subst, ap}
use mathlib.Core.List.Memᴰ
use mathlib.Core.List.{List, [], ◌∷◌, ◌++◌, map}
use Prim.Native.Nat.{ℕ}
use Rattle.lists.specs.Lists.{joined}
use Rattle.walk.specs.WalksHeld.{flat}
use Rattle.walk.proofs.FlatSteps.{flat_append}
use Rattle.plan.specs.PlanSteps.{make_step}
use Rattle.plan.specs.PlanCall.{Accepted}
use Rattle.sets.specs.Members.{Curve}
use Rattle.sets.specs.Own.{own_powers, own_steps, own_boundaries, member_head}
use Rattle.sets.specs.SetPlan.{heads_of, set_powers, common_steps, member_steps, set_steps, set_boundaries}
use Rattle.demands.specs.Fits.{Small, none, more}
use Rattle.demands.specs.SetAccepts.{GoodSet}
use Rattle.demands.specs.SetFits.{SetsFit}
use Rattle.demands.proofs.Fits.{small_append, powers_small, plans_fit}
use Rattle.demands.proofs.SetPowers.{sets_share}
use Rattle.demands.proofs.Parts.{AllAccepted, boundaries_alone}
use Rattle.demands.proofs.SetRight.{alone_planned, from_two, to_limit}

small_behind : (xs ys : List ℕ) → Small (xs ++ ys) → Small ys
small_behind [] ys small = small
small_behind (x ∷ xs) ys (more here small) = small_behind xs ys small

-- ---- one member

module _ (curve : Curve) (accepted : Accepted curve.member.fold curve.member.parity curve.coefficients) where
  boundaries_small : Small (own_boundaries (member_head curve))
  boundaries_small =
      subst Small (sym (boundaries_alone curve accepted))
      (plans_fit curve.member.strategy curve.member.parity curve.member.basis curve.member.fold curve.coefficients accepted).boundaries

  own_small : Small (flat (own_steps (member_head curve)))
  own_small =
      let made = map make_step (own_powers (member_head curve)) in
      let own = own_steps (member_head curve) in
      small_behind (flat made) (flat own)
      (subst Small (ap flat (alone_planned curve) ∙ flat_append made own)
      (plans_fit curve.member.strategy curve.member.parity curve.member.basis curve.member.fold curve.coefficients accepted).numbers)

-- ---- all members

all_boundaries : (curves : List Curve) → AllAccepted curves → Small (set_boundaries (heads_of curves))
unfolding set_boundaries joined
all_boundaries [] accepted = none
all_boundaries (curve ∷ curves) accepted =
    small_append (own_boundaries (member_head curve)) (joined (map own_boundaries (heads_of curves)))
    (boundaries_small curve (accepted curve (Memᴰ.head refl)))
    (all_boundaries curves (λ one member. accepted one (Memᴰ.tail member)))

all_steps : (curves : List Curve) → AllAccepted curves → Small (flat (member_steps (heads_of curves)))
unfolding member_steps joined flat
all_steps [] accepted = none
all_steps (curve ∷ curves) accepted =
    let own = own_steps (member_head curve) in
    let rest = joined (map own_steps (heads_of curves)) in
    subst Small (sym (flat_append own rest))
    (small_append (flat own) (flat rest) (own_small curve (accepted curve (Memᴰ.head refl)))
    (all_steps curves (λ one member. accepted one (Memᴰ.tail member))))

common_small : (curves : List Curve) → GoodSet curves → Small (flat (common_steps (heads_of curves)))
unfolding common_steps
common_small curves good =
    powers_small (set_powers (heads_of curves))
    (λ n member. let needed = ((sets_share (heads_of curves)).listed n).0 member in (from_two curves good n needed, to_limit curves good n needed))

pub sets_fit : SetsFit
unfolding set_steps
sets_fit curves good = record {
  boundaries = all_boundaries curves good.accepted;
  numbers =
      let first = common_steps (heads_of curves) in
      let rest = member_steps (heads_of curves) in
      subst Small (sym (flat_append first rest))
      (small_append (flat first) (flat rest) (common_small curves good) (all_steps curves good.accepted));
}
