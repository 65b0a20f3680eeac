-- `lists::list::decompose_bsgs` meets its contract. It makes the tests in their order, and nothing is stored ahead of the last. Past all of them the
-- coefficients are copied to the front of the buffer and listed there.
use mathlib.Core.Path.{◌≡◌, ap₂, sym, ◌∙◌}
use mathlib.Core.Bool.{Bool}
use Prim.Native.Nat.{ℕ, ◌-◌}
use native.Mathlib.Omega.{arith}
use lib.ListN.{length, take}
use lib.Seq.{length-take-le}
use Rattle.number.specs.inside.Between.{Between}
use Rattle.number.proofs.Refused.{refused}
use Rattle.counts.proofs.ChoiceLaws.{split_range}
use Rattle.lists.specs.Tree.{tree_of, plan_tree}
use Rattle.lists.specs.Arrange.{leaves_of}
use Rattle.lists.proofs.ListTests.{Early, early_passed}
use Rattle.lists.proofs.ListCall as calls
use Rattle.lists.proofs.ListCall.{put_whole}
use Rattle.lists.proofs.list.decompose_bsgs.Goals as goal
use Rattle.lists.proofs.list.decompose_bsgs.Goals.{In_ok-check_sizes, After-split_for_strategy-split, After-count_lists-lists}

-- past the early tests
passes : (g : _) (c : In_ok-check_sizes g) → Early (length c.args.c.now) c.sum_fits.result (length c.args.out.now)
passes g c = early_passed _ _ _ (sym c.in_ok-check_sizes.ensures)

-- the front of the buffer is as long as the coefficients
places : (g : _) (c : In_ok-check_sizes g) → length (take (length c.args.c.now) c.args.out.now) ≡ length c.args.c.now
places g c = length-take-le (length c.args.c.now) c.args.out.now (passes g c).holds

splits : (g : _) (c : After-split_for_strategy-split g) → Between 1 c.split_for_strategy-split.result 12
splits g c =
    let settings = c.args.settings in
    let degree = (early_passed _ _ _ (sym c.in_ok-check_sizes.ensures)).degree in
    rw c.split_for_strategy-split.ensures (split_range settings.strategy settings.parity settings.basis _ degree)

-- the number of lists is the plan tree's
counted : (g : _) (c : After-count_lists-lists g) → let settings = c.args.settings in
    c.count_lists-lists.result ≡ leaves_of (plan_tree settings.strategy settings.parity settings.basis (length c.args.c.now - 1))
counted g c =
    let degree = length c.args.c.now - 1 in
    c.count_lists-lists.ensures
    ∙ ap₂ (λ (split : ℕ) (leading : Bool). leaves_of (tree_of leading degree degree split)) c.split_for_strategy-split.ensures
    c.relists-leading.ensures

pub returns-in_err-check_sizes : goal.returns-in_err-check_sizes
returns-in_err-check_sizes g c =
    let settings = c.args.settings in
    let told = c.in_err-check_sizes.ensures in
    calls.call_handed g.C.Coefficient.numbers settings.strategy settings.parity settings.basis c.args.c.now c.args.out.now c.args.bounds.now
    c.in_err-check_sizes.field-0.0 c.from_residual.result c.from_residual.ensures.1
    (calls.early_is g.C.Coefficient.numbers settings.strategy settings.parity settings.basis c.args.c.now c.args.out.now c.args.bounds.now
    c.sum_fits.ensures (rw (← told) (refused c.in_err-check_sizes.field-0.0)) ∙ sym told)

pub overflow_sub-degree : goal.overflow_sub-degree
overflow_sub-degree g c = omega (arith, (passes g c).degree)

pub split_for_strategy-split-requires : goal.split_for_strategy-split-requires
split_for_strategy-split-requires g c = (passes g (goal.at.split_for_strategy-split-requires g c).In_ok-check_sizes).degree

pub count_lists-lists-requires : goal.count_lists-lists-requires
count_lists-lists-requires g c =
    let here = goal.at.count_lists-lists-requires g c in
    let range = splits g here.After-split_for_strategy-split in
    let degree = (passes g here.In_ok-check_sizes).degree in
    record { positive = omega arith; whole_limit = omega arith; part_limit = omega arith; split_limit = omega arith }

pub returns-then-bounds-lists : goal.returns-then-bounds-lists
returns-then-bounds-lists g c =
    let here = goal.at.returns-then-bounds-lists g c in
    let settings = c.args.settings in
    calls.call_refused g.C.Coefficient.numbers settings.strategy settings.parity settings.basis c.args.c.now c.args.out.now c.args.bounds.now
    (omega arith)
    (calls.late_is g.C.Coefficient.numbers settings.strategy settings.parity settings.basis c.args.c.now c.args.out.now c.args.bounds.now
    c.sum_fits.ensures (sym c.in_ok-check_sizes.ensures) (omega (arith, counted g here.After-count_lists-lists, c.if-bounds-lists.true)))

pub slice_bounds-part-end : goal.slice_bounds-part-end
slice_bounds-part-end g c = (passes g (goal.at.slice_bounds-part-end g c).In_ok-check_sizes).holds

pub slice_bounds-part-end-2 : goal.slice_bounds-part-end-2
slice_bounds-part-end-2 g c = sym (places g (goal.at.slice_bounds-part-end-2 g c).In_ok-check_sizes)

pub copy_coeffs-requires : goal.copy_coeffs-requires
copy_coeffs-requires g c = omega (arith, places g (goal.at.copy_coeffs-requires g c).In_ok-check_sizes)

pub list_coeffs-requires : goal.list_coeffs-requires
list_coeffs-requires g c =
    let here = goal.at.list_coeffs-requires g c in
    let settings = c.args.settings in
    let passed = passes g here.In_ok-check_sizes in
    let copied = c.copy_coeffs.ensures ∙ put_whole c.args.c.now _ (places g here.In_ok-check_sizes) in (
      calls.listable g.C.Coefficient.numbers settings.strategy settings.parity settings.basis c.args.c.now c.args.out.now c.args.bounds.now
          passed.degree copied c.relists-leading.ensures c.split_for_strategy-split.ensures
          (omega (arith, counted g here.After-count_lists-lists, c.if-bounds-lists.false)),
      rw copied (g.met.C.Coefficient.small_lists _ (sym c.sum_fits.ensures ∙ passed.is_small) passed.degree.to),
    )

pub power_of_two-requires : goal.power_of_two-requires
power_of_two-requires g c = omega (arith, splits g (goal.at.power_of_two-requires g c).After-split_for_strategy-split)

pub returns : goal.returns
returns g c =
    let here = goal.at.returns g c in
    let settings = c.args.settings in
    let passed = passes g here.In_ok-check_sizes in
    let counts = counted g here.After-count_lists-lists in
    let copied = c.copy_coeffs.ensures ∙ put_whole c.args.c.now _ (places g here.In_ok-check_sizes) in
    calls.call_listed g.C.Coefficient.numbers settings.strategy settings.parity settings.basis c.args.c.now c.args.out.now c.args.bounds.now
    passed.degree copied c.relists-leading.ensures c.split_for_strategy-split.ensures
    (calls.none_is g.C.Coefficient.numbers settings.strategy settings.parity settings.basis c.args.c.now c.args.out.now c.args.bounds.now
    c.sum_fits.ensures (sym c.in_ok-check_sizes.ensures) (omega (arith, counts, c.if-bounds-lists.false)))
    passed.holds c.list_coeffs.auto.c c.power_of_two.ensures counts c.list_coeffs.ensures
