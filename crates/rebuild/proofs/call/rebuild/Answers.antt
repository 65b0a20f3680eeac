-- `rebuild::call::rebuild` meets its contract. It makes the first three tests in their order, and `rebuild_in_scratch` makes the last two and writes. The
-- refusal of that one is then the call's.
use mathlib.Core.Path.{◌≡◌, refl, ap, sym, ◌∙◌}
use mathlib.Core.Bool.{true}
use Prim.Native.Nat.{◌+◌, ◌≤◌}
use native.Mathlib.Numerals.{add-one}
use native.Mathlib.Omega.{arith}
use lib.ListN.{length, take}
use lib.Seq.{length-take-le}
use Rattle.number.specs.Limits.{plan_limit}
use Rattle.number.specs.inside.Between.{Between}
use Rattle.number.proofs.Refused.{refused}
use Rattle.counts.proofs.ChoiceLaws.{split_range}
use Rattle.rebuild.specs.RebuildCall.{matches_settings}
use Rattle.rebuild.proofs.RebuildTests as tests
use Rattle.rebuild.proofs.call.rebuild.Goals as goal
use Rattle.rebuild.proofs.call.rebuild.Goals.{Else-degree-eq0, Else-not-matches_settings}

-- the degree is within the limits
degrees : (c : Else-degree-eq0) → Between 1 c.args.degree plan_limit
degrees c = record { from = omega arith; to = omega arith }

-- the lists have the settings
has : (c : Else-not-matches_settings) → let asked = c.args in
    matches_settings asked.settings.strategy asked.settings.parity asked.settings.basis asked.degree asked.base asked.lists.now asked.bounds.now ≡ true
has c = sym c.matches_settings.ensures ∙ c.if-not-matches_settings.false

-- so there is a number for each coefficient
places : (c : Else-not-matches_settings) → let asked = c.args in asked.degree + 1 ≤ length asked.lists.now
places c =
    let asked = c.args in
    let settings = tests.settings_of asked.settings.strategy asked.settings.parity asked.settings.basis asked.degree asked.base asked.lists.now asked.bounds.now
    (has c) in
    omega (arith, settings.places)

-- the first so many numbers are there
size : (c : Else-not-matches_settings) → let asked = c.args in length (take (asked.degree + 1) asked.lists.now) ≡ asked.degree + 1
size c = let asked = c.args in length-take-le (asked.degree + 1) asked.lists.now (places c)

pub returns-then-degree-gt-PLAN_LIMIT : goal.returns-then-degree-gt-PLAN_LIMIT
returns-then-degree-gt-PLAN_LIMIT c =
    let asked = c.args in
    tests.refused_high asked.settings.strategy asked.settings.parity asked.settings.basis asked.degree asked.base asked.lists.now asked.bounds.now
    asked.out.now c.if-degree-gt-PLAN_LIMIT.true refl

pub returns-then-degree-eq0 : goal.returns-then-degree-eq0
returns-then-degree-eq0 c =
    let asked = c.args in
    tests.refused_none asked.settings.strategy asked.settings.parity asked.settings.basis asked.degree asked.base asked.lists.now asked.bounds.now
    asked.out.now c.if-degree-eq0.true refl

pub split_for_strategy-split-requires : goal.split_for_strategy-split-requires
split_for_strategy-split-requires c = degrees (goal.at.split_for_strategy-split-requires c).Else-degree-eq0

pub matches_settings-requires : goal.matches_settings-requires
matches_settings-requires c = (degrees (goal.at.matches_settings-requires c).Else-degree-eq0, c.split_for_strategy-split.ensures)

pub returns-then-not-matches_settings : goal.returns-then-not-matches_settings
returns-then-not-matches_settings c =
    let asked = c.args in
    tests.refused_settings asked.settings.strategy asked.settings.parity asked.settings.basis asked.degree asked.base asked.lists.now asked.bounds.now
    asked.out.now (degrees (goal.at.returns-then-not-matches_settings c).Else-degree-eq0) (sym c.matches_settings.ensures ∙ c.if-not-matches_settings.true) refl

pub overflow_add-n : goal.overflow_add-n
overflow_add-n c = let few = degrees (goal.at.overflow_add-n c).Else-degree-eq0 in record { fits = omega (arith, few.to) }

pub slice_bounds-rebuild_in_scratch-end : goal.slice_bounds-rebuild_in_scratch-end
slice_bounds-rebuild_in_scratch-end c = sym (size (goal.at.slice_bounds-rebuild_in_scratch-end c).Else-not-matches_settings)

pub rebuild_in_scratch-requires : goal.rebuild_in_scratch-requires
rebuild_in_scratch-requires c =
    let here = goal.at.rebuild_in_scratch-requires c in
    let asked = c.args in
    let few = degrees here.Else-degree-eq0 in
    let range = split_range asked.settings.strategy asked.settings.parity asked.settings.basis asked.degree few in
    let count = size here.Else-not-matches_settings in
    record {
      degrees = record { from = omega (arith, count, few.from); to = omega (arith, count, few.to) };
      split_limit = omega (arith, c.split_for_strategy-split.ensures, range.to);
    }

pub returns-in_err-rebuild_in_scratch : goal.returns-in_err-rebuild_in_scratch
returns-in_err-rebuild_in_scratch c =
    let here = goal.at.returns-in_err-rebuild_in_scratch c in
    let asked = c.args in
    let settings = asked.settings in
    let refusal = c.in_err-rebuild_in_scratch.field-0.0 in
    let wrote = tests.written_from settings.strategy settings.parity settings.basis asked.degree asked.base asked.lists.now asked.bounds.now
    (add-one asked.degree) (places here.Else-not-matches_settings) c.split_for_strategy-split.ensures c.in_err-rebuild_in_scratch.ensures in
    tests.refused_last settings.strategy settings.parity settings.basis asked.degree asked.base asked.lists.now asked.bounds.now
    asked.out.now (degrees here.Else-degree-eq0) (has here.Else-not-matches_settings) wrote (refused refusal)
    (tests.handed refusal c.from_residual.result c.from_residual.ensures.1)

pub returns : goal.returns
returns c =
    let here = goal.at.returns c in
    let asked = c.args in
    let settings = asked.settings in
    let wrote = tests.written_from settings.strategy settings.parity settings.basis asked.degree asked.base asked.lists.now asked.bounds.now
    (add-one asked.degree) (places here.Else-not-matches_settings) c.split_for_strategy-split.ensures c.in_ok-rebuild_in_scratch.ensures in
    tests.call_made settings.strategy settings.parity settings.basis asked.degree asked.base asked.lists.now asked.bounds.now
    asked.out.now (degrees here.Else-degree-eq0) (has here.Else-not-matches_settings) wrote refl
    (ap (λ n. record { refusal = 0; coefficients = n }) (add-one asked.degree))
