-- The lists of two curves, of their sum and of a multiple, worked by hand (request Q-9); `negsuc n` is -(n + 1). In the Chebyshev basis, of degree 5 and
-- with MinMult they are cut at 4, and the low part at 2; the first curve is that of `Starred`.
use Rattle.std.specs.Prelude.{◌≡◌, refl, false, ◌^◌, ℤ, pos, negsuc}
use mathlib.Core.List.{List, [], ◌∷◌, map, zip_with}
use Rattle.algebra.specs.Allowed.{allows}
use Rattle.algebra.specs.Cut.{differences, doubled, lowered, cut_at}
use Rattle.algebra.specs.Fold.{coeff_r, add_r, sum_rFrom, every_second, fold}
use Rattle.algebra.specs.Magnitude.{sum_abs}
use Rattle.algebra.specs.Operations.{whole_ops}
use Rattle.algebra.specs.PolynomialSum.{sum_of, multiple_of}
use Rattle.algebra.specs.declared.Basis.TheVariants.{Chebyshev}
use Rattle.algebra.specs.declared.Parity.TheVariants.{Full, Odd}
use Rattle.number.specs.Parity.{has_parity_from}
use Rattle.number.specs.Refusal.{first_refusal}
use Rattle.lists.specs.Tree.{Tree, leaf, cut}
use Rattle.lists.specs.Arrange.{arranged}
use Rattle.plan.specs.PlanCall.{input_tests, Accepted}

abbrev tree : Tree
tree = cut 4 (cut 2 leaf leaf) leaf

abbrev pipe : List ℤ
pipe = map pos (1 ∷ 2 ∷ 3 ∷ 4 ∷ 5 ∷ 6 ∷ [])

abbrev filter : List ℤ
filter = map pos (0 ∷ 0 ∷ 10 ∷ 0 ∷ 0 ∷ 1 ∷ [])

-- [1, 4], [3, -4], [5, 12]
pub pipe_lists : arranged whole_ops Chebyshev tree pipe ≡ pos 1 ∷ pos 4 ∷ pos 3 ∷ negsuc 3 ∷ pos 5 ∷ pos 12 ∷ []
unfolding arranged cut_at lowered doubled differences
pipe_lists = refl

-- [0, 1], [10, -2], [0, 2]
pub filter_lists : arranged whole_ops Chebyshev tree filter ≡ pos 0 ∷ pos 1 ∷ pos 10 ∷ negsuc 1 ∷ pos 0 ∷ pos 2 ∷ []
unfolding arranged cut_at lowered doubled differences
filter_lists = refl

-- 1 2 13 4 5 7
pub both : sum_of whole_ops pipe filter ≡ map pos (1 ∷ 2 ∷ 13 ∷ 4 ∷ 5 ∷ 7 ∷ [])
unfolding zip_with
both = refl

-- [1, 5], [13, -6], [5, 14]
pub both_lists : arranged whole_ops Chebyshev tree (sum_of whole_ops pipe filter) ≡ pos 1 ∷ pos 5 ∷ pos 13 ∷ negsuc 5 ∷ pos 5 ∷ pos 14 ∷ []
unfolding arranged cut_at lowered doubled differences zip_with
both_lists = refl

-- times -2: [-2, -8], [-6, 8], [-10, -24]
pub multiple_lists : arranged whole_ops Chebyshev tree (multiple_of whole_ops (negsuc 1) pipe)
    ≡ negsuc 1 ∷ negsuc 7 ∷ negsuc 5 ∷ pos 8 ∷ negsuc 9 ∷ negsuc 23 ∷ []
unfolding arranged cut_at lowered doubled differences
multiple_lists = refl

-- ---- folded: T_1 + 2·T_3 is x · (-1 + 4y) with y = 2x² - 1; 5·T_3 is x · (-5 + 10y); their sum T_1 + 7·T_3 is x · (-6 + 14y)

abbrev small : List ℤ
small = map pos (0 ∷ 1 ∷ 0 ∷ 2 ∷ [])

abbrev third : List ℤ
third = map pos (0 ∷ 0 ∷ 0 ∷ 5 ∷ [])

pub small_folded : fold whole_ops Odd Chebyshev small ≡ negsuc 0 ∷ pos 4 ∷ []
unfolding fold every_second sum_rFrom add_r coeff_r
small_folded = refl

pub third_folded : fold whole_ops Odd Chebyshev third ≡ negsuc 4 ∷ pos 10 ∷ []
unfolding fold every_second sum_rFrom add_r coeff_r
third_folded = refl

pub sum_folded : fold whole_ops Odd Chebyshev (sum_of whole_ops small third) ≡ negsuc 5 ∷ pos 14 ∷ []
unfolding fold every_second sum_rFrom add_r coeff_r zip_with
sum_folded = refl

-- ---- too large: two curves are accepted, and their sum, whose magnitudes sum to 2^30 + 1, is refused with 3; of its lists nothing is said

abbrev half : List ℤ
half = map pos (0 ∷ 2 ^ 29 ∷ [])

abbrev one_more : List ℤ
one_more = map pos (1 ∷ 2 ^ 29 ∷ [])

pub half_accepted : Accepted false Full half
unfolding allows has_parity_from sum_abs
half_accepted = refl

pub one_more_accepted : Accepted false Full one_more
unfolding allows has_parity_from sum_abs
one_more_accepted = refl

pub twice_accepted : Accepted false Full (sum_of whole_ops half half)
unfolding allows has_parity_from sum_abs zip_with
twice_accepted = refl

pub sum_refused : first_refusal (input_tests false Full (sum_of whole_ops half one_more)) ≡ 3
unfolding allows has_parity_from sum_abs zip_with
sum_refused = refl
