-- The sizes of a set, over plain values: the tests of the members' settings, one member after another, and what the passed tests tell.
use mathlib.Core.Path.{◌≡◌, sym, ◌∙◌, ap}
use mathlib.Core.Bool.{true}
use mathlib.Core.List.{List, [], ◌∷◌, ◌++◌, map}
use Prim.Native.Nat.{ℕ, ◌+◌, ◌-◌, ◌≤◌, ◌<◌}
use native.Mathlib.Omega.{arith}
use borrow.Author.Tests.{ltb-false, not-false}
use lib.Dec.{ltb, eqb}
use lib.ListN.{length, get_or, drop, drop_of_length-le}
use Rattle.std.proofs.lemmas.List.{length-take}
use Rattle.std.specs.Prelude.{Ok}
use Rattle.algebra.specs.Each.{Each}
use Rattle.number.specs.Refusal.{Test, first_refusal, Numbered}
use Rattle.number.proofs.FirstRefusal.{none_holds, first_kept, first_of_more, first_passed, numbered_append, when_refused, when_accepted}
use Rattle.lists.specs.Lists.{joined}
use Rattle.plan.specs.PlanCall.{settings_tests}
use Rattle.plan.specs.PlanSizes.{no_sizes, PlanSizes, plan_sizes_in}
use Rattle.plan.proofs.PlanTests.{settings_numbered}
use Rattle.sets.specs.Members.{members_in, all_alike}
use Rattle.sets.specs.SetPlan.{member_limit}
use Rattle.sets.specs.SetCall.{unlike_members}
use Rattle.sets.specs.SetSizes.{bad_count, member_settings_tests, set_sizes_tests, set_sizes_of, set_sizes_call}
use Rattle.sets.specs.inside.Planning.{SettingsPass, MembersPass}
use Rattle.sets.specs.declared.member.Member.{Member}
use Rattle.sets.specs.declared.member.Members.{Members}
use Rattle.sets.proofs.Arrays.{no_member, from_place}
use Rattle.sets.proofs.HeadLaws.{first_by}
use Rattle.set_plan.specs.inside.Counting.{Outlined}
use Rattle.set_plan.specs.declared.outline.SetOutline.{SetOutline}
use Rattle.set_plan.proofs.CallLaws.{one_false}

-- ---- one member after another

member_numbered : (member : Member) → Numbered (member_settings_tests member)
member_numbered member = settings_numbered member.fold member.parity (member.count - 1)

all_numbered : (members : List Member) → Numbered (joined (map member_settings_tests members))
unfolding joined
all_numbered [] = tt
all_numbered (member ∷ members) =
    numbered_append (member_settings_tests member) (joined (map member_settings_tests members)) (member_numbered member) (all_numbered members)

-- the refusal of the members from place i on
abbrev pub settings_from : (i : ℕ) → List Member → ℕ
settings_from i members = first_refusal (joined (map member_settings_tests (drop i members)))

module _ (members : List Member) (i : ℕ) (inside : i < length members) where
  abbrev member : Member
  member = get_or members i no_member

  abbrev behind : List Test
  behind = joined (map member_settings_tests (drop (i + 1) members))

  from_member : settings_from i members ≡ first_refusal (member_settings_tests member ++ behind)
  unfolding joined
  from_member = ap (λ (l : List Member). first_refusal (joined (map member_settings_tests l))) (from_place no_member i members inside)

  module _ {k d : ℕ} (d_is : d ≡ member.count - 1) (k_is : k ≡ first_refusal (settings_tests member.fold member.parity d)) where
    own_is : k ≡ first_refusal (member_settings_tests member)
    own_is = k_is ∙ ap (λ (n : ℕ). first_refusal (settings_tests member.fold member.parity n)) d_is

    pub refused_here : 0 < k → k ≡ settings_from i members
    refused_here some =
        let positive : 0 < first_refusal (member_settings_tests member) = rw own_is at some in
        own_is ∙ sym (from_member ∙ first_kept (member_settings_tests member) behind positive)

    pub passed_here : k ≤ 0 → settings_from i members ≡ settings_from (i + 1) members
    passed_here none =
        from_member ∙ first_of_more (member_settings_tests member) behind (member_numbered member) (sym own_is ∙ omega arith)

pub settings_end : (members : List Member) (i : ℕ) → length members ≤ i → settings_from i members ≡ 0
unfolding joined
settings_end members i past =
    ap (λ (l : List Member). first_refusal (joined (map member_settings_tests l))) (drop_of_length-le members past)

-- ---- past the tests

module _ (handed : Members) where
  abbrev answer : ℕ
  answer = first_refusal (set_sizes_tests handed)

  abbrev front : List Test
  front = bad_count handed.count ∷ unlike_members handed ∷ []

  abbrev own : List Test
  own = joined (map member_settings_tests (members_in handed))

  front_numbered : Numbered front
  front_numbered = (omega arith, (omega arith, tt))

  each_passes : (members : List Member) → first_refusal (joined (map member_settings_tests members)) ≡ 0 → Each SettingsPass members
  unfolding joined
  each_passes [] passes = tt
  each_passes (member ∷ members) passes =
      let behind = joined (map member_settings_tests members) in
      let mine = first_passed (member_settings_tests member) behind (member_numbered member) passes in
      (mine, each_passes members (sym (first_of_more (member_settings_tests member) behind (member_numbered member) mine) ∙ passes))

  -- all members are alike
  pub settings_alike : answer ≡ 0 → all_alike (members_in handed) ≡ true
  settings_alike accepted =
      let passed = first_passed front own front_numbered accepted in
      let none = none_holds front front_numbered passed in
      not-false (all_alike (members_in handed)) none.1.0

  -- there are few
  pub settings_few : answer ≡ 0 → handed.count ≤ member_limit
  settings_few accepted =
      let passed = first_passed front own front_numbered accepted in
      let none = none_holds front front_numbered passed in
      let shape = one_false (eqb handed.count 0) (ltb member_limit handed.count) none.0 in
      ltb-false member_limit handed.count shape.1

  pub settings_pass : answer ≡ 0 → MembersPass (members_in handed)
  settings_pass accepted =
      let passed = first_passed front own front_numbered accepted in
      record {
        few = omega (arith, length-take handed.count handed.members, settings_few accepted);
        passes = each_passes (members_in handed) (sym (first_of_more front own front_numbered passed) ∙ accepted);
      }

  pub sizes_refused : {k : ℕ} {r : PlanSizes} → k ≡ answer → 0 < k → r ≡ no_sizes k → r ≡ set_sizes_call handed
  unfolding set_sizes_call
  sizes_refused {k} k_is positive r_is =
      let held : 0 < answer = omega arith in
      r_is ∙ ap no_sizes k_is ∙ when_refused answer _ _ held

  pub sizes_told : {outline : SetOutline} → answer ≡ 0 → Outlined (members_in handed) outline → plan_sizes_in (Ok outline.sizes) ≡ set_sizes_call handed
  unfolding set_sizes_call
  sizes_told accepted outlined =
      outlined.sizes_are ∙ ap set_sizes_of (first_by (settings_pass accepted) outlined.heads_are) ∙ when_accepted _ _ accepted
