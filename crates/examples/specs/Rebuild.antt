-- Worked examples of rebuilding, computed: lists back to their coefficients, and each refusal.
use Rattle.std.specs.Prelude.{◌≡◌, refl, List, [], ◌∷◌, ℕ, ℤ, pos, negsuc}
use Rattle.algebra.specs.Allowed.{allows}
use Rattle.algebra.specs.declared.Basis.TheVariants.{Monomial, Chebyshev}
use Rattle.algebra.specs.declared.Parity.TheVariants.{Full}
use Rattle.number.specs.Bits.{digits, bit_len, top_power, power_below, is_power_of_two}
use Rattle.number.specs.Refusal.{unless_refused}
use Rattle.number.specs.Split.{parts_of}
use Rattle.needed.specs.NeededList.{is_target, is_part, is_part_of_one, listed_down, needed_list, needed_count}
use Rattle.counts.specs.Slices.{slices_in, slices_of, last_of}
use Rattle.counts.specs.PlainCount.{allowed_to, plain_count}
use Rattle.counts.specs.Pair.{last_is_plain, pair_of, pair_at}
use Rattle.counts.specs.MinDepth.{min_depth}
use Rattle.counts.specs.MinMult.{better, best_of, min_mult}
use Rattle.counts.specs.Choice.{split_for}
use Rattle.counts.specs.declared.choice.SplitStrategy.TheVariants.{MinDepth, MinMult}
use Rattle.lists.specs.Tree.{listed_again, tree_in, tree_of}
use Rattle.lists.specs.Arrange.{ends_of}
use Rattle.rebuild.specs.Undo.{every, sums, halved, raised, before_cut, can_undo, undone}
use Rattle.rebuild.specs.Rebuild.{rebuilt}
use Rattle.rebuild.specs.RebuildCall.{begins, matches_settings, coefficients_from, rebuild_refusal, rebuild_coefficients}

-- ---- there and back

-- the lists of document 01's Chebyshev 1 to 6 with MinMult, [1, 4], [3, −4], [5, 12]
pub chebyshev_six : rebuild_coefficients MinMult Full Chebyshev 5 2 (pos 1 ∷ pos 4 ∷ pos 3 ∷ negsuc 3 ∷ pos 5 ∷ pos 12 ∷ []) (2 ∷ 4 ∷ 6 ∷ [])
    (pos 0 ∷ pos 0 ∷ pos 0 ∷ pos 0 ∷ pos 0 ∷ pos 0 ∷ [])
    ≡ pos 1 ∷ pos 2 ∷ pos 3 ∷ pos 4 ∷ pos 5 ∷ pos 6 ∷ []
unfolding rebuild_coefficients unless_refused rebuild_refusal matches_settings begins coefficients_from rebuilt undone can_undo before_cut raised halved sums
    every ends_of tree_of tree_in listed_again split_for min_mult best_of better pair_at pair_of last_is_plain plain_count allowed_to slices_of slices_in
    last_of needed_count needed_list listed_down is_part_of_one is_part is_target allows top_power parts_of power_below is_power_of_two bit_len digits
chebyshev_six = refl

-- ---- refusals, with MinDepth: degree 3 has lists of 2 and 2, and base 2

-- what a call with four places of room answers, for lists of Full coefficients in the Chebyshev basis
abbrev refusal : (degree base : ℕ) → (lists : List ℤ) → (bounds : List ℕ) → ℕ
refusal degree base lists bounds = rebuild_refusal MinDepth Full Chebyshev degree base lists bounds (pos 0 ∷ pos 0 ∷ pos 0 ∷ pos 0 ∷ [])

abbrev four : List ℤ
four = pos 1 ∷ pos 2 ∷ pos 3 ∷ pos 4 ∷ []

pub accepted : refusal 3 2 four (2 ∷ 4 ∷ []) ≡ 0
unfolding rebuild_refusal matches_settings begins coefficients_from rebuilt undone can_undo before_cut raised halved sums every ends_of tree_of tree_in
    listed_again split_for min_depth top_power bit_len digits
accepted = refl

-- places beyond are not read: neither an odd number nor a boundary
pub beyond_unread : refusal 3 2 (pos 1 ∷ pos 2 ∷ pos 3 ∷ pos 4 ∷ pos 5 ∷ []) (2 ∷ 4 ∷ 9 ∷ []) ≡ 0
unfolding rebuild_refusal matches_settings begins coefficients_from rebuilt undone can_undo before_cut raised halved sums every ends_of tree_of tree_in
    listed_again split_for min_depth top_power bit_len digits
beyond_unread = refl

pub high_degree : refusal 4096 2 four (2 ∷ 4 ∷ []) ≡ 2
unfolding rebuild_refusal
high_degree = refl

pub no_degree_lem : refusal 0 2 four (2 ∷ 4 ∷ []) ≡ 1
unfolding rebuild_refusal
no_degree_lem = refl

-- another base, another boundary, a boundary too few, a number too few
pub other_base : refusal 3 4 four (2 ∷ 4 ∷ []) ≡ 33
unfolding rebuild_refusal matches_settings split_for min_depth bit_len digits
other_base = refl

pub other_boundary : refusal 3 2 four (3 ∷ 4 ∷ []) ≡ 33
unfolding rebuild_refusal matches_settings begins ends_of tree_of tree_in listed_again split_for min_depth top_power bit_len digits
other_boundary = refl

pub boundaries_short : refusal 3 2 four (2 ∷ []) ≡ 33
unfolding rebuild_refusal matches_settings begins ends_of tree_of tree_in listed_again split_for min_depth top_power bit_len digits
boundaries_short = refl

pub lists_short : refusal 3 2 (pos 1 ∷ pos 2 ∷ pos 3 ∷ []) (2 ∷ 4 ∷ []) ≡ 33
unfolding rebuild_refusal matches_settings begins ends_of tree_of tree_in listed_again split_for min_depth top_power bit_len digits
lists_short = refl

-- a doubled coefficient that is odd; with another base too it is 33
pub odd_doubled : refusal 3 2 (pos 1 ∷ pos 2 ∷ pos 3 ∷ pos 5 ∷ []) (2 ∷ 4 ∷ []) ≡ 34
unfolding rebuild_refusal matches_settings begins coefficients_from rebuilt undone can_undo before_cut raised halved sums every ends_of tree_of tree_in
    listed_again split_for min_depth top_power bit_len digits
odd_doubled = refl

pub settings_first : refusal 3 4 (pos 1 ∷ pos 2 ∷ pos 3 ∷ pos 5 ∷ []) (2 ∷ 4 ∷ []) ≡ 33
unfolding rebuild_refusal matches_settings split_for min_depth bit_len digits
settings_first = refl

-- sums at both ends of i64: −2^63 and 2^63 − 1 are rebuilt, and one beyond is not
pub lowest_sum : refusal 3 2 (pos 1 ∷ negsuc 9223372036854775806 ∷ pos 3 ∷ negsuc 1 ∷ []) (2 ∷ 4 ∷ []) ≡ 0
unfolding rebuild_refusal matches_settings begins coefficients_from rebuilt undone can_undo before_cut raised halved sums every ends_of tree_of tree_in
    listed_again split_for min_depth top_power bit_len digits
lowest_sum = refl

pub below_lowest : refusal 3 2 (pos 1 ∷ negsuc 9223372036854775807 ∷ pos 3 ∷ negsuc 1 ∷ []) (2 ∷ 4 ∷ []) ≡ 34
unfolding rebuild_refusal matches_settings begins coefficients_from rebuilt undone can_undo before_cut raised halved sums every ends_of tree_of tree_in
    listed_again split_for min_depth top_power bit_len digits
below_lowest = refl

pub highest_sum : refusal 3 2 (pos 1 ∷ pos 9223372036854775806 ∷ pos 3 ∷ pos 2 ∷ []) (2 ∷ 4 ∷ []) ≡ 0
unfolding rebuild_refusal matches_settings begins coefficients_from rebuilt undone can_undo before_cut raised halved sums every ends_of tree_of tree_in
    listed_again split_for min_depth top_power bit_len digits
highest_sum = refl

pub above_highest : refusal 3 2 (pos 1 ∷ pos 9223372036854775807 ∷ pos 3 ∷ pos 2 ∷ []) (2 ∷ 4 ∷ []) ≡ 34
unfolding rebuild_refusal matches_settings begins coefficients_from rebuilt undone can_undo before_cut raised halved sums every ends_of tree_of tree_in
    listed_again split_for min_depth top_power bit_len digits
above_highest = refl

-- the lists 4, 2, 2 of degree 7: at the inner cut 2^63 − 2 and half of 4 are 2^63, which is beyond i64. The outer cut would halve it to 2^62, and every
-- number would be even and fit in the end; it is refused all the same.
pub inner_cut : refusal 7 4 (pos 0 ∷ pos 0 ∷ pos 0 ∷ pos 0 ∷ pos 0 ∷ pos 9223372036854775806 ∷ pos 0 ∷ pos 4 ∷ []) (4 ∷ 6 ∷ 8 ∷ []) ≡ 34
unfolding rebuild_refusal matches_settings begins coefficients_from rebuilt undone can_undo before_cut raised halved sums every ends_of tree_of tree_in
    listed_again split_for min_depth top_power bit_len digits
inner_cut = refl

-- with 2^63 − 4 the inner cut gives 2^63 − 2, and only the four places of room are refused
pub inner_cut_fits : refusal 7 4 (pos 0 ∷ pos 0 ∷ pos 0 ∷ pos 0 ∷ pos 0 ∷ pos 9223372036854775804 ∷ pos 0 ∷ pos 4 ∷ []) (4 ∷ 6 ∷ 8 ∷ []) ≡ 21
unfolding rebuild_refusal matches_settings begins coefficients_from rebuilt undone can_undo before_cut raised halved sums every ends_of tree_of tree_in
    listed_again split_for min_depth top_power bit_len digits
inner_cut_fits = refl

-- no room for the coefficients: 21, the last of the tests. In the Monomial basis nothing is halved.
pub no_room_lem : rebuild_refusal MinDepth Full Monomial 3 2 (pos 1 ∷ pos 2 ∷ pos 3 ∷ pos 5 ∷ []) (2 ∷ 4 ∷ []) (pos 0 ∷ pos 0 ∷ pos 0 ∷ []) ≡ 21
unfolding rebuild_refusal matches_settings begins coefficients_from rebuilt undone can_undo before_cut every ends_of tree_of tree_in listed_again split_for
    min_depth top_power bit_len digits
no_room_lem = refl
