-- `rebuild::call::matches_settings` meets its contract. Base, boundaries and places are tested in the order of the definition. The boundaries are
-- matched list by list along the plan tree, which answers 0 exactly if the lent ones do not begin with those of the settings.
use mathlib.Core.Path.{◌≡◌, ap, ap₂, sym, ◌∙◌}
use mathlib.Core.List.{List}
use Prim.Native.Nat.{ℕ, suc, ◌≤◌, ◌^◌}
use native.Mathlib.Omega.{arith}
use Rattle.algebra.specs.declared.Basis.{Basis}
use Rattle.algebra.specs.declared.Parity.{Parity}
use Rattle.counts.specs.Choice.{split_for}
use Rattle.counts.specs.declared.choice.SplitStrategy.{SplitStrategy}
use Rattle.counts.proofs.ChoiceLaws.{split_range}
use Rattle.lists.specs.Tree.{tree_of, plan_tree}
use Rattle.lists.specs.Arrange.{ends_of}
use Rattle.std.specs.Prelude.{is_some}
use Rattle.rebuild.specs.RebuildCall.{begins}
use Rattle.rebuild.specs.inside.Matching.{match_from}
use Rattle.rebuild.proofs.EndsSteps as steps
use Rattle.rebuild.proofs.RebuildTests as tests
use Rattle.rebuild.proofs.call.matches_settings.Goals as goal
use Rattle.rebuild.proofs.call.matches_settings.Goals.{After-match_ends, Else-base-power_of_two, Start}

-- the boundaries of the settings
abbrev ends : SplitStrategy → Parity → Basis → (degree : ℕ) → List ℕ
ends strategy parity basis degree = ends_of (plan_tree strategy parity basis degree) 0 (suc degree)

-- the split is small
small : (c : Start) → c.args.split ≤ 12
small c =
    let asked = c.args in
    omega (arith, c.requires.1, (split_range asked.settings.strategy asked.settings.parity asked.settings.basis asked.degree c.requires.0).to)

-- the base is that of the settings
base_is : (c : Else-base-power_of_two) → let asked = c.args in
    asked.base ≡ 2 ^ split_for asked.settings.strategy asked.settings.parity asked.settings.basis asked.degree
base_is c = c.if-base-power_of_two.false ∙ c.power_of_two.ensures ∙ ap (2 ^◌) c.requires.1

-- whether they are there is what the plan tree finds
found_is : (c : After-match_ends) → let asked = c.args in
    is_some c.match_ends.result ≡ begins (ends asked.settings.strategy asked.settings.parity asked.settings.basis asked.degree) asked.bounds.now
found_is c =
    let degree = c.args.degree in
    ap is_some (c.match_ends.ensures
    ∙ ap₂ (λ leading split. match_from (ends_of (tree_of leading degree degree split) 0 (suc degree)) c.args.bounds.now 0) c.relists.ensures
    c.requires.1)
    ∙ steps.front_is _ c.args.bounds.now

pub power_of_two-requires : goal.power_of_two-requires
power_of_two-requires c = omega (arith, small (goal.at.power_of_two-requires c).Start)

pub returns-then-base-power_of_two : goal.returns-then-base-power_of_two
returns-then-base-power_of_two c =
    let asked = c.args in
    tests.other_base asked.settings.strategy asked.settings.parity asked.settings.basis asked.degree asked.base asked.lists.now asked.bounds.now
    (λ same. c.if-base-power_of_two.true (same ∙ ap (2 ^◌) (sym c.requires.1) ∙ sym c.power_of_two.ensures))

pub match_ends-requires : goal.match_ends-requires
match_ends-requires c =
    let degrees = c.requires.0 in (
      record { positive = degrees.from; whole_limit = degrees.to; part_limit = degrees.to; split_limit = small (goal.at.match_ends-requires c).Start },
      omega (arith, degrees.to),
    )

pub returns-then-is_some : goal.returns-then-is_some
returns-then-is_some c =
    let here = goal.at.returns-then-is_some c in
    let asked = c.args in
    tests.by_places asked.settings.strategy asked.settings.parity asked.settings.basis asked.degree asked.base asked.lists.now asked.bounds.now
    (base_is here.Else-base-power_of_two) (sym (found_is here.After-match_ends) ∙ sym c.is_some.ensures ∙ c.if-is_some.true)

pub returns-else-is_some : goal.returns-else-is_some
returns-else-is_some c =
    let here = goal.at.returns-else-is_some c in
    let asked = c.args in
    c.if-is_some.false
    ∙ tests.other_ends asked.settings.strategy asked.settings.parity asked.settings.basis asked.degree asked.base asked.lists.now asked.bounds.now
    (base_is here.Else-base-power_of_two) (sym (found_is here.After-match_ends) ∙ sym c.is_some.ensures ∙ c.if-is_some.false)
