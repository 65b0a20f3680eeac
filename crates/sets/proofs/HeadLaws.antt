-- The heads of a set by its members' settings: where the coefficients stand within the slice, a head depends on their number alone.
use mathlib.Core.Path.{◌≡◌, refl, sym, ◌∙◌, ap, ap₂, subst}
use mathlib.Core.Bool.{true}
use mathlib.Core.List.{List, [], ◌∷◌, map}
use Prim.Native.Nat.{ℕ, suc, ◌+◌, ◌-◌, ◌≤◌}
use native.Mathlib.Nat.{two-pow-succ}
use native.Mathlib.Omega.{arith}
use borrow.Author.Tests.{eqb-true}
use lib.IntN.{ℤ}
use lib.ListN.{length, get_or, take, drop, replicate, length-append, length-map, length-drop, length-replicate}
use lib.Seq.{length-take-le, take-append_seam}
use lib.Pow.{pow_pos}
use Rattle.std.proofs.lemmas.Bool.{and_parts}
use Rattle.algebra.specs.Each.{Each}
use Rattle.algebra.specs.EnumNumbers.{basis_number}
use Rattle.algebra.proofs.EnumNumbers.{numbers_tell_apart}
use Rattle.number.specs.Bits.{bit_len}
use Rattle.number.specs.Interval.{change_of_basis}
use Rattle.number.specs.Limits.{count_limit}
use Rattle.number.proofs.Bits.{len_unique}
use Rattle.lists.specs.Tree.{relists}
use Rattle.lists.proofs.Arranging.{leaves_most}
use Rattle.walk.specs.declared.plan.Head.{Head}
use Rattle.plan.specs.PlanSteps.{last_plain, list_steps}
use Rattle.plan.specs.PlanHead.{head_of, no_head}
use Rattle.plan.specs.PlanCall.{planned_parity, planned_transform}
use Rattle.plan.specs.PlanSizes.{degree_to_plan}
use Rattle.plan.proofs.StepCounts.{steps_length}
use Rattle.plan.proofs.PlanTests.{planned_length, degree_planned}
use Rattle.sets.specs.Members.{Curve, curves_in, total, handed_count, alike, alike_to, all_alike}
use Rattle.sets.specs.Own.{own_split, own_tree, own_steps, without_powers, member_head, head_by}
use Rattle.sets.specs.SetPlan.{member_limit, with_zero_heads, heads_of}
use Rattle.sets.specs.inside.Heads.{HeadFits, HeadsFit, SameBasis}
use Rattle.sets.specs.inside.Planning.{SettingsPass, MembersPass, heads_by}
use Rattle.sets.specs.declared.member.Member.{Member}
use Rattle.sets.proofs.Arrays.{any_head}
use Rattle.sets.proofs.InputLaws.{range}

pub head_by_lem : (curve : Curve) → length curve.coefficients ≡ curve.member.count → member_head curve ≡ head_by curve.member
unfolding head_by head_of
head_by_lem curve size =
    let member = curve.member in
    let by : ℕ → Head = λ d. without_powers (head_of member.strategy (planned_parity member.fold member.parity) member.basis
    (planned_transform member.fold member.parity member.basis) (change_of_basis member.basis member.a member.b) d) in
    ap by (ap (◌- 1) (planned_length member.fold member.parity member.basis curve.coefficients)
    ∙ degree_planned member.fold member.parity (length curve.coefficients)
    ∙ ap (λ (n : ℕ). degree_to_plan member.fold member.parity (n - 1)) size)

-- so with all members of a set
pub heads_by_lem : (members : List Member) (c : List ℤ) → handed_count members ≤ length c → heads_of (curves_in members c) ≡ map head_by members
unfolding curves_in total
heads_by_lem [] c within = refl
heads_by_lem (member ∷ members) c within =
    ap₂ ◌∷◌
    (head_by_lem (record { member = member; coefficients = take member.count c }) (length-take-le member.count c (omega arith)))
    (heads_by_lem members (drop member.count c) (omega (arith, length-drop member.count c)))

-- ---- the split in the base

pub base_digits : {head : Head} → HeadFits head → bit_len head.base ≡ suc (own_split head)
base_digits {head} fits =
    let split = own_split head in
    let positive = pow_pos split in
    let doubles = two-pow-succ split in
    sym (len_unique head.base (suc split) (omega (arith, fits.base_is)) (omega (arith, fits.base_is)) (omega (arith, fits.base_is)))

-- ---- the sizes of a head

pub record SizesMost (head : Head) : Type 0 where
  pub coefficients : head.coefficients ≤ count_limit
  pub lists : head.lists ≤ count_limit
  pub steps : head.steps ≤ count_limit + count_limit

pub sizes_most : {head : Head} → HeadFits head → SizesMost head
unfolding own_steps list_steps
sizes_most {head} fits =
    let most = leaves_most (relists head.strategy) head.degree head.degree (own_split head) in
    let size = steps_length (last_plain head.degree (own_tree head)) (own_tree head) 0 in
    record {
      coefficients = omega (arith, fits.coefficients_are, fits.degrees.to);
      lists = omega (arith, fits.lists_are, fits.degrees.to);
      steps = omega (arith, fits.steps_are, fits.degrees.to);
    }

-- ---- the heads of members whose settings pass

pub fits_by : (member : Member) → SettingsPass member → HeadFits (head_by member)
unfolding head_by head_of own_steps
fits_by member pass = record { degrees = range member pass; base_is = refl; coefficients_are = refl; lists_are = refl; steps_are = refl }

each_by : (members : List Member) → Each SettingsPass members → Each HeadFits (map head_by members)
each_by [] passes = tt
each_by (member ∷ members) passes = (fits_by member passes.0, each_by members passes.1)

module _ {members : List Member} {heads : List Head} (pass : MembersPass members) (heads_are : heads ≡ heads_by members) where
  -- the first heads are the members'
  pub first_by : take (length members) heads ≡ map head_by members
  first_by =
      ap₂ (λ (n : ℕ) (l : List Head). take n l) (sym (length-map members head_by)) heads_are
      ∙ take-append_seam (map head_by members) (replicate (member_limit - length (map head_by members)) no_head)

  pub heads_fit : HeadsFit (take (length members) heads)
  heads_fit = subst HeadsFit (sym first_by) (record {
    few = omega (arith, length-map members head_by, pass.few);
    each = each_by members pass.passes;
  })

  pub heads_size : length heads ≡ member_limit
  heads_size =
      ap length heads_are
      ∙ length-append (map head_by members) (replicate (member_limit - length (map head_by members)) no_head)
      ∙ omega (arith, length-map members head_by, pass.few, length-replicate (member_limit - length (map head_by members)) no_head)

  -- and behind them zero heads stand
  pub zeros_behind : heads ≡ with_zero_heads (take (length members) heads)
  zeros_behind = heads_are ∙ ap with_zero_heads (sym first_by)

-- ---- one basis

-- members that are alike to one have its basis, and so have their heads
bases_by : (one : Member) (members : List Member) → alike_to one members ≡ true → Each (λ (head : Head). head.basis ≡ one.basis) (map head_by members)
unfolding alike_to alike head_by head_of
bases_by one [] alikes = tt
bases_by one (member ∷ members) alikes =
    let two = and_parts _ _ alikes in
    let same = eqb-true (basis_number one.basis) (basis_number member.basis) (and_parts _ _ two.0).0 in
    (sym (numbers_tell_apart.bases one.basis member.basis same), bases_by one members two.1)

-- so all have that of the first
bases_first : (members : List Member) → all_alike members ≡ true
    → Each (λ (head : Head). head.basis ≡ (get_or (heads_by members) 0 any_head).basis) (map head_by members)
unfolding all_alike head_by head_of
bases_first [] alikes = tt
bases_first (first ∷ members) alikes = (refl, bases_by first members alikes)

pub one_basis : {members : List Member} {heads : List Head} → MembersPass members → heads ≡ heads_by members → all_alike members ≡ true
    → SameBasis (get_or heads 0 any_head).basis (take (length members) heads)
one_basis {members} {heads} pass heads_are alikes = record {
  each =
      subst (λ (h : Head). Each (λ (head : Head). head.basis ≡ h.basis) (take (length members) heads))
      (ap (λ (l : List Head). get_or l 0 any_head) (sym heads_are))
      (subst (Each (λ (head : Head). head.basis ≡ (get_or (heads_by members) 0 any_head).basis)) (sym (first_by pass heads_are))
      (bases_first members alikes));
}
