-- Worked examples of a plan, proved by computing.
use Rattle.std.specs.Prelude.{◌≡◌, refl, true, false, List, [], ◌∷◌, Float, ℤ, pos, drop}
use Rattle.std.specs.Float.Ieee.{of_int}
use Rattle.algebra.specs.Allowed.{allows}
use Rattle.algebra.specs.Cut.{cut_at}
use Rattle.algebra.specs.Fold.{every_second, fold}
use Rattle.algebra.specs.Transform.{transform_of}
use Rattle.algebra.specs.declared.Basis.TheVariants.{Monomial, Chebyshev}
use Rattle.algebra.specs.declared.Parity.TheVariants.{Full, Even, Odd}
use Rattle.algebra.specs.declared.PolynomialInputTransform.TheVariants.{Identity, SquareTimesInput}
use Rattle.number.specs.Exact.{num}
use Rattle.number.specs.Bits.{digits, bit_len, top_power, power_below, is_power_of_two}
use Rattle.number.specs.Refusal.{unless_refused}
use Rattle.number.specs.Split.{parts_of}
use Rattle.needed.specs.NeededList.{is_target, is_part, is_part_of_one, listed_down, needed_list, needed_count}
use Rattle.counts.specs.Slices.{slices_in, slices_of, last_of}
use Rattle.counts.specs.PlainCount.{allowed_to, plain_count}
use Rattle.counts.specs.Pair.{last_is_plain, pair_of, pair_at}
use Rattle.counts.specs.MinDepth.{a_exceeds_b, min_depth}
use Rattle.counts.specs.MinMult.{better, best_of, min_mult}
use Rattle.counts.specs.Choice.{split_for, counts_of}
use Rattle.counts.specs.Depth.{depth_of}
use Rattle.counts.specs.Calls.{counts_call}
use Rattle.counts.specs.declared.choice.SplitStrategy.TheVariants.{MinDepth, MinMult}
use Rattle.lists.specs.Tree.{listed_again, tree_in, tree_of, plan_tree}
use Rattle.lists.specs.Arrange.{arranged, leaves_of, lengths_of, ends_of}
use Rattle.plan.specs.PlanSteps.{make_step, load_step, combine_step, power_steps, last_length, last_plain, combine_kind, tree_steps, list_steps, steps_at}
use Rattle.plan.specs.PlanSteps.{plan_steps}
use Rattle.plan.specs.Reported.{of_kind, allowed_in, reported}
use Rattle.plan.specs.PlanHead.{plan_counts, head_of}
use Rattle.plan.specs.PlanCall.{head_for, coefficients_for, boundaries_for}
use Rattle.plan.specs.PlanSizes.{sizes_of, no_sizes, sizes_call}

abbrev five : List ℤ
five = pos 1 ∷ pos 2 ∷ pos 3 ∷ pos 4 ∷ pos 5 ∷ []

-- the nine-line plan of 1 to 5, on any interval: `H 4 4 0 3 4 3`
pub nine_lines_head : (a b : Float) → head_for MinDepth Full Monomial false five a b ≡ record {
  basis = Monomial;
  parity = Full;
  strategy = MinDepth;
  transform = Identity;
  degree = 4;
  base = 4;
  ct = 3;
  pt = 4;
  depth = 3;
  coefficients = 5;
  lists = 2;
  steps = 6;
  interval = record { a = a; b = b; u = num (pos 1); w = num (pos 0) };
}
unfolding of_int head_of reported allowed_in of_kind steps_at list_steps tree_steps combine_kind last_plain last_length power_steps leaves_of lengths_of
    tree_of tree_in listed_again split_for min_depth a_exceeds_b depth_of allowed_to needed_list listed_down is_part_of_one is_part is_target allows top_power
    parts_of power_below is_power_of_two bit_len digits
nine_lines_head a b = refl

-- `L 1 2 3 4`, `L 5`
pub nine_lines_lists : coefficients_for MinDepth Full Monomial false five ≡ five
unfolding arranged cut_at tree_of tree_in listed_again split_for min_depth a_exceeds_b top_power bit_len digits parts_of power_below is_power_of_two
nine_lines_lists = refl

pub nine_lines_boundaries : boundaries_for MinDepth Full Monomial false five ≡ 4 ∷ 5 ∷ []
unfolding ends_of tree_of tree_in listed_again split_for min_depth a_exceeds_b top_power bit_len digits parts_of power_below is_power_of_two
nine_lines_boundaries = refl

-- `P 2 1 1`, `P 3 1 2`, `P 4 2 2`, `B 0`, `B 1`, `Q 4`
pub nine_lines_steps : plan_steps MinDepth Full Monomial 4
    ≡ record { kind = 1; x = 2; y = 1; z = 1 }
    ∷ record { kind = 1; x = 3; y = 1; z = 2 }
    ∷ record { kind = 1; x = 4; y = 2; z = 2 }
    ∷ load_step 0
    ∷ load_step 1
    ∷ combine_step 4 4
    ∷ []
unfolding steps_at list_steps tree_steps combine_kind last_plain last_length power_steps leaves_of tree_of tree_in listed_again split_for min_depth
    a_exceeds_b needed_list listed_down is_part_of_one is_part is_target allows top_power parts_of power_below is_power_of_two bit_len digits
nine_lines_steps = refl

-- at degree 5 the last list is no constant alone, and its combine has kind 3
pub steps_5 : plan_steps MinDepth Full Monomial 5 ≡ make_step 2 ∷ make_step 3 ∷ make_step 4 ∷ load_step 0 ∷ load_step 1 ∷ combine_step 3 4 ∷ []
unfolding steps_at list_steps tree_steps combine_kind last_plain last_length power_steps leaves_of tree_of tree_in listed_again split_for min_depth
    a_exceeds_b needed_list listed_down is_part_of_one is_part is_target allows top_power parts_of power_below is_power_of_two bit_len digits
steps_5 = refl

-- at degree 7 the leading slice is listed again: lists of 4, 2 and 2
pub steps_7 : plan_steps MinDepth Full Monomial 7
    ≡ make_step 2 ∷ make_step 3 ∷ make_step 4 ∷ load_step 0 ∷ load_step 1 ∷ load_step 2 ∷ combine_step 3 2 ∷ combine_step 3 4 ∷ []
unfolding steps_at list_steps tree_steps combine_kind last_plain last_length power_steps leaves_of tree_of tree_in listed_again split_for min_depth
    a_exceeds_b needed_list listed_down is_part_of_one is_part is_target allows top_power parts_of power_below is_power_of_two bit_len digits
steps_7 = refl

-- ---- a last list of one

-- degree 12 has the lists 4, 4, 4, 1: the combine of the last alone, at power 4, has kind 4, and the one at the top, at power 8, kind 3
pub steps_12 : plan_steps MinDepth Full Monomial 12
    ≡ make_step 2
    ∷ make_step 3
    ∷ make_step 4
    ∷ make_step 8
    ∷ load_step 0
    ∷ load_step 1
    ∷ combine_step 3 4
    ∷ load_step 2
    ∷ load_step 3
    ∷ combine_step 4 4
    ∷ combine_step 3 8
    ∷ []
unfolding steps_at list_steps tree_steps combine_kind last_plain last_length power_steps leaves_of tree_of tree_in listed_again split_for min_depth
    a_exceeds_b needed_list listed_down is_part_of_one is_part is_target allows top_power parts_of power_below is_power_of_two bit_len digits
steps_12 = refl

-- a last list of one that is there since the leading slice, of degree 12, is listed again: degree 124 ends with the lists 16, 4, 4, 4, 1
pub last_steps_124 : drop 11 (list_steps 124 (plan_tree MinDepth Full Chebyshev 124))
    ≡ load_step 7
    ∷ load_step 8
    ∷ combine_step 3 4
    ∷ load_step 9
    ∷ load_step 10
    ∷ combine_step 4 4
    ∷ combine_step 3 8
    ∷ combine_step 3 16
    ∷ combine_step 3 32
    ∷ combine_step 3 64
    ∷ []
unfolding list_steps tree_steps combine_kind last_plain last_length leaves_of tree_of tree_in listed_again split_for min_depth a_exceeds_b top_power bit_len
    digits
last_steps_124 = refl

-- the list of one of an Odd polynomial is one too: degree 12 has the same steps
pub steps_odd : plan_steps MinDepth Odd Monomial 12 ≡ plan_steps MinDepth Full Monomial 12
unfolding steps_at list_steps tree_steps combine_kind last_plain last_length power_steps leaves_of tree_of tree_in listed_again split_for min_depth
    a_exceeds_b needed_list listed_down is_part_of_one is_part is_target allows top_power parts_of power_below is_power_of_two bit_len digits
steps_odd = refl

-- an Even list of two, at degree 5, stays kind 3, though it has no allowed power
pub steps_even : plan_steps MinDepth Even Monomial 5 ≡ make_step 2 ∷ make_step 4 ∷ load_step 0 ∷ load_step 1 ∷ combine_step 3 4 ∷ []
unfolding steps_at list_steps tree_steps combine_kind last_plain last_length power_steps leaves_of tree_of tree_in listed_again split_for min_depth
    a_exceeds_b needed_list listed_down is_part_of_one is_part is_target allows top_power parts_of power_below is_power_of_two bit_len digits
steps_even = refl

-- MinMult at degree 12: the estimate, and what the plan reports, with one multiplication moved
pub estimate_12 : counts_call MinMult Full Monomial 12 ≡ record { refusal = 0; ct = 7; pt = 9 }
unfolding counts_call counts_of split_for min_mult best_of better pair_at pair_of last_is_plain slices_of slices_in last_of plain_count allowed_to
    needed_count needed_list listed_down is_part_of_one is_part is_target allows top_power unless_refused parts_of power_below is_power_of_two bit_len digits
estimate_12 = refl

pub reported_12 : plan_counts MinMult Full Monomial Identity 12 ≡ record { ct = 6; pt = 10 }
unfolding reported allowed_in of_kind steps_at list_steps tree_steps combine_kind last_plain last_length power_steps leaves_of lengths_of tree_of tree_in
    split_for min_mult best_of better pair_at pair_of last_is_plain slices_of slices_in last_of plain_count allowed_to needed_count needed_list listed_down
    is_part_of_one is_part is_target allows top_power parts_of power_below is_power_of_two bit_len digits
reported_12 = refl

-- at degree 4, a power of two, the estimate has moved it already (demands/specs/Starred), and the plan reports the same
pub reported_4 : plan_counts MinMult Full Monomial Identity 4 ≡ record { ct = 3; pt = 3 }
unfolding reported allowed_in of_kind steps_at list_steps tree_steps combine_kind last_plain last_length power_steps leaves_of lengths_of tree_of tree_in
    split_for min_mult best_of better pair_at pair_of last_is_plain slices_of slices_in last_of plain_count allowed_to needed_count needed_list listed_down
    is_part_of_one is_part is_target allows top_power parts_of power_below is_power_of_two bit_len digits
reported_4 = refl

-- ---- a fold

-- Odd 0 1 0 2 folded: one list of 1 2, no step but its load, and two multiplications and two levels for the transform
pub folded_head : (a b : Float) → head_for MinDepth Odd Monomial true (pos 0 ∷ pos 1 ∷ pos 0 ∷ pos 2 ∷ []) a b ≡ record {
  basis = Monomial;
  parity = Full;
  strategy = MinDepth;
  transform = SquareTimesInput;
  degree = 1;
  base = 2;
  ct = 2;
  pt = 1;
  depth = 3;
  coefficients = 2;
  lists = 1;
  steps = 1;
  interval = record { a = a; b = b; u = num (pos 1); w = num (pos 0) };
}
unfolding of_int fold every_second transform_of head_of reported allowed_in of_kind steps_at list_steps tree_steps combine_kind last_plain last_length
    power_steps leaves_of lengths_of tree_of tree_in listed_again split_for min_depth a_exceeds_b depth_of allowed_to needed_list listed_down is_part_of_one
    is_part is_target allows top_power parts_of power_below is_power_of_two bit_len digits
folded_head a b = refl

-- ---- sizes

-- those of the nine-line plan, before its coefficients are there
pub sizes_4 : sizes_call MinDepth Full Monomial false 4 ≡ record { refusal = 0; coefficients = 5; lists = 2; steps = 6 }
unfolding sizes_call sizes_of unless_refused leaves_of tree_of tree_in listed_again split_for min_depth a_exceeds_b needed_count needed_list listed_down
    is_part_of_one is_part is_target allows top_power parts_of power_below is_power_of_two bit_len digits
sizes_4 = refl

-- and of the fold of 0 1 0 2: two coefficients in one list
pub sizes_folded : sizes_call MinDepth Odd Monomial true 3 ≡ record { refusal = 0; coefficients = 2; lists = 1; steps = 1 }
unfolding sizes_call sizes_of unless_refused leaves_of tree_of tree_in listed_again split_for min_depth a_exceeds_b needed_count needed_list listed_down
    is_part_of_one is_part is_target allows top_power parts_of power_below is_power_of_two bit_len digits
sizes_folded = refl

-- 2 comes before 5, and 1 before 5 and 6
pub sizes_too_high : sizes_call MinMult Full Chebyshev true 4096 ≡ no_sizes 2
unfolding sizes_call unless_refused
sizes_too_high = refl

pub sizes_no_degree : sizes_call MinMult Odd Chebyshev true 0 ≡ no_sizes 1
unfolding sizes_call unless_refused
sizes_no_degree = refl

pub sizes_full : sizes_call MinMult Full Chebyshev true 1 ≡ no_sizes 5
unfolding sizes_call unless_refused
sizes_full = refl

pub sizes_low : sizes_call MinMult Odd Chebyshev true 2 ≡ no_sizes 6
unfolding sizes_call unless_refused
sizes_low = refl
