use mathlib.Core.Path.{◌≡◌}
use mathlib.Core.List.{map}
use Rattle.number.specs.Refusal.{first_refusal}
use Rattle.lists.specs.Lists.{joined}
use Rattle.sets.specs.SetSizes.{member_settings_tests}
use Rattle.set_plan.proofs.SizesLaws.{settings_from}
use Rattle.set_plan.proofs.sizes.check_all_settings.Given as goal

abbrev pub invariant-loop-member : goal.invariant-loop-member
invariant-loop-member l = first_refusal (joined (map member_settings_tests l.members)) ≡ settings_from l.member-index l.members
