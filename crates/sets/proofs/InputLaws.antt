-- The members' own tests, one member after another, and a member's head by its settings.
use mathlib.Core.Path.{◌≡◌, refl, sym, ◌∙◌, ap, ap₂}
use mathlib.Core.List.{List, [], ◌∷◌, ◌++◌, map, map-append}
use Prim.Native.Nat.{ℕ, suc, ◌+◌, ◌-◌, ◌≤◌, ◌<◌}
use native.Mathlib.Omega.{arith}
use lib.IntN.{ℤ}
use lib.ListN.{length, get_or, set, take, drop, replicate, length-map, drop_of_length-le}
use lib.Seq.{length-take-le, take_all}
use Rattle.std.proofs.lemmas.List.{take_more}
use Rattle.number.specs.Interval.{change_of_basis}
use Rattle.number.specs.Limits.{plan_limit}
use Rattle.number.specs.declared.interval.Interval.{Interval}
use Rattle.number.specs.Refusal.{Test, first_refusal}
use Rattle.number.specs.inside.Between.{Between}
use Rattle.number.proofs.FirstRefusal.{first_kept, first_of_more}
use Rattle.lists.specs.Lists.{joined}
use Rattle.walk.specs.declared.plan.Head.{Head}
use Rattle.plan.specs.PlanSteps.{last_plain, list_steps}
use Rattle.plan.specs.PlanHead.{head_of, no_head}
use Rattle.plan.specs.PlanCall.{planned_parity, planned_transform, early_tests}
use Rattle.plan.specs.PlanSizes.{degree_to_plan}
use Rattle.plan.specs.inside.Outlines.{outline_for}
use Rattle.plan.specs.declared.outline.Outline.{Outline}
use Rattle.plan.proofs.PlanTests.{early_numbered, settings_pass, degree_range}
use Rattle.plan.proofs.StepCounts.{steps_length}
use Rattle.sets.specs.Members.{curves_in}
use Rattle.sets.specs.Own.{own_tree, own_steps, with_steps, head_by}
use Rattle.sets.specs.SetPlan.{member_limit, with_zero_heads}
use Rattle.sets.specs.SetCall.{own_tests}
use Rattle.sets.specs.inside.Planning.{SettingsPass, heads_by}
use Rattle.sets.specs.declared.member.Member.{Member}
use Rattle.sets.proofs.Arrays.{no_member, from_place, zeros_more}

-- ---- one member after another

-- the refusal of the members from place i on, whose coefficients come first in the rest
abbrev pub refusal_from : (i : ℕ) → List Member → List ℤ → ℕ
refusal_from i members rest = first_refusal (joined (map own_tests (curves_in (drop i members) rest)))

module _ (members : List Member) (rest : List ℤ) (i : ℕ) (inside : i < length members) where
  abbrev member : Member
  member = get_or members i no_member

  abbrev tests_of : List ℤ → List Test
  tests_of own = early_tests member.fold member.parity own member.a member.b

  abbrev behind : List Test
  behind = joined (map own_tests (curves_in (drop (i + 1) members) (drop member.count rest)))

  from_member : refusal_from i members rest ≡ first_refusal (tests_of (take member.count rest) ++ behind)
  unfolding curves_in joined
  from_member = ap (λ (l : List Member). first_refusal (joined (map own_tests (curves_in l rest)))) (from_place no_member i members inside)

  module _ {own : List ℤ} {k : ℕ} (own_is : own ≡ take member.count rest) (k_is : k ≡ first_refusal (tests_of own)) where
    is : k ≡ first_refusal (tests_of (take member.count rest))
    is = k_is ∙ ap (λ (l : List ℤ). first_refusal (tests_of l)) own_is

    pub refused_here : 0 < k → k ≡ refusal_from i members rest
    refused_here some =
        let positive : 0 < first_refusal (tests_of (take member.count rest)) = rw is at some in
        is ∙ sym (from_member ∙ first_kept (tests_of (take member.count rest)) behind positive)

    pub passed_here : {others : List ℤ} → others ≡ drop member.count rest → k ≤ 0 → refusal_from i members rest ≡ refusal_from (i + 1) members others
    passed_here others_are none =
        from_member
        ∙ first_of_more (tests_of (take member.count rest)) behind
        (early_numbered member.fold member.parity (take member.count rest) member.a member.b) (sym is ∙ omega arith)
        ∙ ap (refusal_from (i + 1) members) (sym others_are)

pub refusal_end : (members : List Member) (rest : List ℤ) (i : ℕ) → length members ≤ i → refusal_from i members rest ≡ 0
unfolding curves_in joined
refusal_end members rest i past =
    ap (λ (l : List Member). first_refusal (joined (map own_tests (curves_in l rest)))) (drop_of_length-le members past)

-- ---- the head of a member

module _ (member : Member) (pass : SettingsPass member) where
  abbrev degree : ℕ
  degree = degree_to_plan member.fold member.parity (member.count - 1)

  pub range : Between 1 degree plan_limit
  range = degree_range member.fold member.parity (member.count - 1) (settings_pass member.fold member.parity (member.count - 1) pass)

  -- what its outline tells: the degree, and the steps without power steps
  module _ {outline : Outline} {d : ℕ} (d_is : d ≡ member.count - 1)
      (is : outline ≡ outline_for member.strategy (planned_parity member.fold member.parity) member.basis
      (degree_to_plan member.fold member.parity d)) where
    outline_is : outline ≡ outline_for member.strategy (planned_parity member.fold member.parity) member.basis degree
    outline_is =
        is ∙ ap (λ (n : ℕ). outline_for member.strategy (planned_parity member.fold member.parity) member.basis
        (degree_to_plan member.fold member.parity n)) d_is

    pub count_is : outline.coefficients ≡ suc degree
    count_is = ap (λ (o : Outline). o.coefficients) outline_is

    pub degree_is : outline.coefficients - 1 ≡ degree
    degree_is = omega (arith, count_is)

    pub powers_within : outline.powers ≤ outline.steps
    powers_within =
        omega (arith, ap (λ (o : Outline). o.powers) outline_is, ap (λ (o : Outline). o.steps) outline_is)

    pub head_asked : Between 1 (outline.coefficients - 1) plan_limit
        × (outline ≡ outline_for member.strategy (planned_parity member.fold member.parity) member.basis (outline.coefficients - 1))
    head_asked = (
      record { from = omega (arith, degree_is, range.from); to = omega (arith, degree_is, range.to) },
      outline_is ∙ ap (outline_for member.strategy (planned_parity member.fold member.parity) member.basis) (sym degree_is),
    )

    abbrev head_on : Interval → ℕ → Head
    head_on interval n = head_of member.strategy (planned_parity member.fold member.parity) member.basis
        (planned_transform member.fold member.parity member.basis) interval n

    abbrev head_at : ℕ → Head
    head_at n = head_on (change_of_basis member.basis member.a member.b) n

    own_count : outline.steps - outline.powers ≡ length (own_steps (head_at degree))
    unfolding own_steps list_steps head_of
    own_count =
        let tree = own_tree (head_at degree) in
        let size = steps_length (last_plain degree tree) tree 0 in
        let lists = ap (λ (o : Outline). o.lists) outline_is in
        omega (arith, ap (λ (o : Outline). o.powers) outline_is, ap (λ (o : Outline). o.steps) outline_is)

    pub head_put : {head : Head} {interval : Interval} → interval ≡ change_of_basis member.basis member.a member.b
        → head ≡ head_on interval (outline.coefficients - 1) → with_steps (outline.steps - outline.powers) head ≡ head_by member
    unfolding head_by
    head_put {head} {interval} interval_is head_is = ap₂ with_steps own_count (head_is ∙ ap₂ head_on interval_is degree_is)

-- ---- the heads of all members

-- those of the first i
abbrev pub heads_upto : (i : ℕ) → List Member → List Head
heads_upto i members = heads_by (take i members)

pub heads_none : (members : List Member) → replicate member_limit no_head ≡ heads_upto 0 members
heads_none members = refl

pub heads_more : (members : List Member) → length members ≤ member_limit → (i : ℕ) {heads heads' : List Head} {head : Head} → i < length members
    → heads ≡ heads_upto i members → head ≡ head_by (get_or members i no_member) → heads' ≡ set heads i head → heads' ≡ heads_upto (i + 1) members
heads_more members few i {heads} {heads'} {head} inside was head_is put =
    let xs = take i members in
    let member = get_or members i no_member in
    let size : length (map head_by xs) ≡ i = length-map xs head_by ∙ length-take-le i members (omega (arith, inside)) in
    put ∙ ap₂ (λ (l : List Head) (h : Head). set l i h) was head_is
    ∙ ap (λ (n : ℕ). set (heads_by xs) n (head_by member)) (sym size)
    ∙ zeros_more (map head_by xs) (head_by member) (omega (arith, size, few))
    ∙ ap with_zero_heads (sym (map-append head_by xs (member ∷ [])))
    ∙ ap heads_by (sym (take_more members i no_member inside))

pub heads_all : (members : List Member) {i : ℕ} {heads : List Head} → length members ≤ i → heads ≡ heads_upto i members → heads ≡ heads_by members
heads_all members {i} past was = was ∙ ap heads_by (take_all i members past)
