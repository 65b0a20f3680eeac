-- The promises: within the limits the sum of the magnitudes times the number of coefficients is at most 2^53, of the coefficients and of their fold,
-- so that Bounds and Same hold of both.
use mathlib.Core.Path.{◌≡◌, ap, ◌∙◌}
use mathlib.Core.Bool.{true}
use mathlib.Core.List.{List}
use Prim.Native.Nat.{◌≤◌}
use borrow.Author.Tests.{leb-true}
use lib.IntN.{ℤ}
use lib.ListN.{length-map}
use Rattle.algebra.specs.Operations.{whole_ops}
use Rattle.algebra.specs.Fold.{fold}
use Rattle.algebra.specs.Magnitude.{sum_abs}
use Rattle.number.specs.Limits.{sum_limit}
use Rattle.number.specs.Numbers.{whole_numbers, float_ops}
use Rattle.number.specs.Exact.{num}
use Rattle.number.proofs.FoldSame.{folds_same}
use Rattle.lists.specs.Promises.{listed_as, ListsTo53, FoldedListsTo53, ListsSame, FoldedListsSame}
use Rattle.lists.proofs.SumByLength.{sum_by_length_start}
use Rattle.lists.proofs.Bounds.{listed_to_53, fold_sum_by_length, fold_degree}
use Rattle.lists.proofs.Same.{arranged_same, calls_same}

sum_small : (c : List ℤ) → whole_numbers.small c ≡ true → sum_abs c ≤ sum_limit
sum_small c small = leb-true (sum_abs c) sum_limit small

pub lists_to_53 : ListsTo53
lists_to_53 leading basis whole split c small nonempty few from =
    listed_to_53 leading basis whole split c (sum_by_length_start c (sum_small c small) few) nonempty few from

pub folded_lists_to_53 : FoldedListsTo53
folded_lists_to_53 leading parity basis whole split c small nonempty few from =
    listed_to_53 leading basis whole split (fold whole_ops parity basis c) (fold_sum_by_length parity basis c (sum_small c small) few) nonempty
    (fold_degree whole_ops parity basis c few) from

pub lists_same : ListsSame
lists_same = calls_same

-- the f64 fold is the whole fold's numbers, and those are listed alike
pub folded_lists_same : FoldedListsSame
folded_lists_same leading parity basis whole split c small nonempty few from =
    let whole_fold = fold whole_ops parity basis c in
    ap (listed_as float_ops leading basis whole split) (folds_same parity basis c small).written
    ∙ rw (length-map whole_fold num)
    (arranged_same leading basis whole split whole_fold (fold_sum_by_length parity basis c (sum_small c small) few) nonempty
    (fold_degree whole_ops parity basis c few) from)
