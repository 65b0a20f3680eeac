-- The starred examples hold: each is worked out from the definitions. MinMult's lists of degree 5 are taken at its split, which stands in the
-- table.
use mathlib.Core.Path.{◌≡◌, refl, ap}
use mathlib.Core.Bool.{false}
use mathlib.Core.List.{[], ◌∷◌, map}
use lib.IntN.{pos, negsuc}
use Rattle.algebra.specs.Allowed.{allows}
use Rattle.algebra.specs.Cut.{differences, doubled, lowered, cut_at}
use Rattle.algebra.specs.Fold.{every_second, coeff_r, add_r, sum_rFrom, fold}
use Rattle.algebra.specs.Operations.{whole_ops}
use Rattle.algebra.specs.Power.{cheb}
use Rattle.algebra.specs.Transform.{transform_of, input_of, output_of}
use Rattle.algebra.specs.Value.{sum, dot}
use Rattle.algebra.specs.declared.Basis.{Basis}
use Rattle.algebra.specs.declared.Basis.TheVariants.{Monomial, Chebyshev}
use Rattle.algebra.specs.declared.Parity.TheVariants.{Full}
use Rattle.algebra.specs.declared.PolynomialInputTransform.TheVariants.{Identity}
use Rattle.number.specs.Bits.{digits, bit_len, top_power, power_below, is_power_of_two}
use Rattle.number.specs.Refusal.{unless_refused}
use Rattle.number.specs.Split.{parts_of, split_refusal, split_of}
use Rattle.needed.specs.NeededList.{is_target, is_part, is_part_of_one, listed_down, needed_list, needed_count}
use Rattle.counts.specs.Slices.{slices_in, slices_of, last_of}
use Rattle.counts.specs.PlainCount.{allowed_to, plain_count}
use Rattle.counts.specs.Pair.{last_is_plain, pair_of, pair_at}
use Rattle.counts.specs.MinDepth.{a_exceeds_b, min_depth}
use Rattle.counts.specs.MinMult.{better, best_of, min_mult}
use Rattle.counts.specs.Choice.{split_for, counts_of}
use Rattle.counts.specs.Depth.{depth_of}
use Rattle.counts.specs.ConsumedBits.{pure_chain, chain_before, bits_of}
use Rattle.counts.specs.Calls.{SplitChoice, min_mult_call, counts_call, depth_call, bits_call}
use Rattle.counts.specs.declared.choice.SplitStrategy.TheVariants.{MinDepth, MinMult}
use Rattle.lists.specs.Tree.{listed_again, tree_in, tree_of}
use Rattle.lists.specs.Arrange.{leaves_of, lengths_of}
use Rattle.lists.specs.Lists.{lists_of}
use Rattle.plan.specs.PlanSteps.{power_steps, last_length, last_plain, combine_kind, tree_steps, list_steps, steps_at}
use Rattle.plan.specs.Reported.{of_kind, allowed_in, reported}
use Rattle.plan.specs.PlanHead.{plan_counts}
use Rattle.demands.specs.Starred.{MultFull, Starred}

in_both : (P : Basis → Type 0) → P Monomial → P Chebyshev → (basis : Basis) → P basis
in_both P in_monomial in_chebyshev Monomial = in_monomial
in_both P in_monomial in_chebyshev Chebyshev = in_chebyshev

-- ---- MinMult's splits and pairs

chosen_5 : (basis : Basis) → MultFull basis 5 1 4 3
unfolding min_mult_call counts_call counts_of split_for min_mult best_of better pair_at pair_of last_is_plain slices_of slices_in last_of plain_count allowed_to
    needed_count needed_list listed_down is_part_of_one is_part is_target allows top_power unless_refused parts_of power_below is_power_of_two bit_len digits
chosen_5 =
    in_both (λ (basis : Basis). MultFull basis 5 1 4 3) (record { chosen = refl; counted = refl }) (record { chosen = refl; counted = refl })

split_of_5 : split_for MinMult Full Chebyshev 5 ≡ 1
unfolding split_for min_mult_call unless_refused
split_of_5 = ap (λ (choice : SplitChoice). choice.split) (chosen_5 Chebyshev).chosen

-- the lists of 1..6 at that split
lists_at_1 : lists_of whole_ops Chebyshev (tree_of false 5 5 1) (map pos (1 ∷ 2 ∷ 3 ∷ 4 ∷ 5 ∷ 6 ∷ []))
    ≡ (pos 1 ∷ pos 4 ∷ []) ∷ (pos 3 ∷ negsuc 3 ∷ []) ∷ (pos 5 ∷ pos 12 ∷ []) ∷ []
unfolding lists_of cut_at lowered doubled differences tree_of tree_in top_power bit_len digits
lists_at_1 = refl

-- MinDepth's counts of degree 7
counts_of_7 : (basis : Basis) → plan_counts MinDepth Full basis Identity 7 ≡ record { ct = 5; pt = 5 }
unfolding reported allowed_in of_kind steps_at list_steps tree_steps combine_kind last_plain last_length power_steps leaves_of lengths_of tree_of tree_in
    listed_again split_for min_depth a_exceeds_b allowed_to needed_list listed_down is_part_of_one is_part is_target allows top_power parts_of power_below
    is_power_of_two bit_len digits
counts_of_7 = in_both (λ (basis : Basis). plan_counts MinDepth Full basis Identity 7 ≡ record { ct = 5; pt = 5 }) refl refl

-- ---- the table

pub starred : Starred
unfolding min_mult_call counts_call counts_of split_for min_mult best_of better pair_at pair_of last_is_plain slices_of slices_in last_of plain_count allowed_to
    needed_count needed_list listed_down is_part_of_one is_part is_target allows top_power unless_refused split_of split_refusal parts_of power_below
    is_power_of_two
    bit_len digits a_exceeds_b min_depth depth_call depth_of bits_call bits_of pure_chain chain_before lengths_of tree_of tree_in listed_again dot sum cheb fold
    every_second sum_rFrom add_r coeff_r transform_of input_of output_of
starred = record {
  split_3 = refl;
  split_5 = refl;
  split_1 = refl;
  depth_splits = refl;
  mult_2 =
      in_both (λ (basis : Basis). MultFull basis 2 1 1 2) (record { chosen = refl; counted = refl }) (record { chosen = refl; counted = refl });
  tie_2 = in_both (λ (basis : Basis). map (pair_at Full basis 2) (1 ∷ 2 ∷ []) ≡ record { ct = 1; pt = 2 } ∷ record { ct = 1; pt = 2 } ∷ []) refl refl;
  mult_4 =
      in_both (λ (basis : Basis). MultFull basis 4 1 3 3) (record { chosen = refl; counted = refl }) (record { chosen = refl; counted = refl });
  mult_5 = chosen_5;
  mult_7 =
      in_both (λ (basis : Basis). MultFull basis 7 2 4 6) (record { chosen = refl; counted = refl }) (record { chosen = refl; counted = refl });
  lengths_6 = λ parity basis. refl;
  lengths_7 = λ parity basis. refl;
  reported_7 = counts_of_7;
  lists_1_6 = rw split_of_5 lists_at_1;
  value_1_6 = refl;
  folded = refl;
  value_folded = refl;
  value_unfolded = refl;
  deep_6 = refl;
  deep_7 = refl;
  bits_5 = refl;
  bits_4 = refl;
  bits_0 = refl;
}
