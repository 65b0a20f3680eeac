-- An empty set is all zero, so that a refused set shows its number alone.
use mathlib.Core.Path.{◌≡◌, refl, ◌∙◌, ap}
use mathlib.Core.Bool.{Bool, false}
use Prim.Native.Nat.{ℕ}
use Rattle.std.specs.Prelude.{Result}
use Rattle.std.specs.Result.{IsErrAnd}
use Rattle.number.specs.declared.refusal.Refusal.{Refusal}
use Rattle.number.specs.declared.refusal.Refusal.TheVariants.{UnknownKind}
use Rattle.lists.specs.Lists.{joined}
use Rattle.plan.specs.Reported.{of_kind}
use Rattle.sets.specs.Members.{total}
use Rattle.sets.specs.SetCall.{SetPlanned, no_set, set_in}
use Rattle.sets.specs.SetPlan.{set_of, set_ct, set_pt, set_powers, set_steps, common_steps, member_steps}
use Rattle.sets.specs.Union.{union_of}
use Rattle.sets.specs.declared.set.CurveSet.{CurveSet}
use Rattle.flat.specs.Sets.{flat_set, flat_set_planned, no_set_planned}
use Rattle.flat.specs.Unknown.{when_known}
use Rattle.flat.specs.declared.planned_set.CSetPlanned.{CSetPlanned}
use Rattle.flat.proofs.Reading.{refused_told}

pub no_set_shown : flat_set_planned (record { refusal = 43; set = no_set }) ≡ no_set_planned
unfolding no_set_planned flat_set set_of set_ct set_pt set_powers set_steps common_steps member_steps union_of joined total of_kind
no_set_shown = refl

abbrev refused_set : (refusal : ℕ) → SetPlanned
refused_set refusal = record { refusal = refusal; set = no_set }

-- a set with an unknown kind is refused with 43
pub refused_set_told : {known : Bool} (meant : CSetPlanned) {refusal : Refusal} (r : Result CurveSet Refusal) → IsErrAnd r (λ (f : Refusal). f ≡ refusal)
    → refusal ≡ UnknownKind → known ≡ false → flat_set_planned (set_in r) ≡ when_known known meant no_set_planned
refused_set_told {known} meant r same is unknown =
    refused_told flat_set_planned _ refused_set meant r same is unknown ∙ ap (λ (none : CSetPlanned). when_known known meant none) no_set_shown
