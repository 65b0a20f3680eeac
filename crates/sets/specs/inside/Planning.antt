-- What the functions of the set call ask of one another (docs/RULES.md, "Sets of curves").
use Rattle.std.specs.Prelude.{◌≡◌, List, map, ◌-◌, ◌≤◌, length}
use Rattle.algebra.specs.Each.{Each}
use Rattle.number.specs.Refusal.{first_refusal}
use Rattle.walk.specs.declared.plan.Head.{Head}
use Rattle.plan.specs.PlanCall.{settings_tests}
use Rattle.sets.specs.Own.{head_by}
use Rattle.sets.specs.SetPlan.{member_limit, with_zero_heads}
use Rattle.sets.specs.declared.member.Member.{Member}

-- a member's degree and settings pass
abbrev pub SettingsPass : Member → Type 0
SettingsPass member = first_refusal (settings_tests member.fold member.parity (member.count - 1)) ≡ 0

-- those of each member pass, and there are no more members than an array of heads has places
pub record MembersPass (members : List Member) : Type 0 where
  pub few : length members ≤ member_limit
  pub passes : Each SettingsPass members

-- the heads of members, and zero heads behind them
abbrev pub heads_by : List Member → List Head
heads_by members = with_zero_heads (map head_by members)
