-- The sizes of a set before its curves are there (docs/RULES.md, "The sizes of a set"): the members' settings and the numbers of their coefficients
-- alone decide how many coefficients, lists and steps the set has, and so how long its buffers must be.
use Rattle.std.specs.Prelude.{◌||◌, List, ◌∷◌, map, ℕ, ◌-◌, ltb, eqb}
use Rattle.number.specs.Refusal.{Test, first_refusal, unless_refused}
use Rattle.lists.specs.Lists.{joined}
use Rattle.walk.specs.declared.plan.Head.{Head}
use Rattle.plan.specs.PlanCall.{settings_tests}
use Rattle.plan.specs.PlanSizes.{no_sizes, PlanSizes}
use Rattle.sets.specs.Members.{members_in}
use Rattle.sets.specs.Own.{head_by}
use Rattle.sets.specs.SetPlan.{member_limit, coefficient_count, list_count, set_step_count}
use Rattle.sets.specs.SetCall.{unlike_members}
use Rattle.sets.specs.declared.member.Member.{Member}
use Rattle.sets.specs.declared.member.Members.{Members}

-- 35: no member, or more than 16; there is no slice yet that the lengths could pass
abbrev pub bad_count : (members : ℕ) → Test
bad_count members = (eqb members 0 || ltb member_limit members, 35)

-- of a member 2, 1, with folding 5, 6, as in the sizes of its plan
abbrev pub member_settings_tests : Member → List Test
member_settings_tests member = settings_tests member.fold member.parity (member.count - 1)

-- 35, 36, then those of the members in member order
abbrev pub set_sizes_tests : Members → List Test
set_sizes_tests handed = bad_count handed.count ∷ unlike_members handed ∷ joined (map member_settings_tests (members_in handed))

-- the totals of members with these heads
unfoldable pub set_sizes_of : List Head → PlanSizes
set_sizes_of heads = record { refusal = 0; coefficients = coefficient_count heads; lists = list_count heads; steps = set_step_count heads }

-- `set_sizes`: the totals, or the first test that holds
unfoldable pub set_sizes_call : Members → PlanSizes
set_sizes_call handed =
    let refusal : ℕ = first_refusal (set_sizes_tests handed) in
    unless_refused refusal (set_sizes_of (map head_by (members_in handed))) (no_sizes refusal)
