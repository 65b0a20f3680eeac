-- Every number written has magnitude at most 2^53, and so has every number on the way: the sum of the magnitudes times the number of coefficients is at most
-- 2^53 from the start, and no cut makes it more.
use mathlib.Core.Path.{◌≡◌}
use mathlib.Core.Bool.{Bool}
use mathlib.Core.List.{List, [], ◌∷◌}
use Prim.Native.Nat.{ℕ, suc, ◌+◌, ◌-◌, ◌*◌, ◌^◌, ◌≤◌, ◌<◌}
use native.Mathlib.Nat.{mul-le-mul, le_trans, mul-le-mul_right, suc-mul}
use native.Mathlib.Omega.{arith}
use lib.IntN.{ℤ, pos}
use lib.ListN.{length, take, drop, length-drop}
use Rattle.algebra.specs.Operations.{Operations, whole_ops}
use Rattle.algebra.specs.Cut.{cut_at}
use Rattle.algebra.specs.Fold.{every_second, folded_length, sum_rFrom, fold}
use Rattle.algebra.specs.Magnitude.{sum_abs}
use Rattle.algebra.specs.declared.Basis.{Basis}
use Rattle.algebra.specs.declared.Basis.TheVariants.{Monomial, Chebyshev}
use Rattle.algebra.specs.declared.Parity.{Parity}
use Rattle.algebra.specs.declared.Parity.TheVariants.{Full, Even, Odd}
use Rattle.algebra.proofs.FoldPlaces.{length_every_second, length_sum_rFrom, fold_length}
use Rattle.algebra.proofs.FoldMagnitudes.{abs_add_r, sum_abs_every_second}
use Rattle.algebra.proofs.Magnitudes.{sum_abs_drop}
use Rattle.number.specs.Limits.{plan_limit, sum_limit}
use Rattle.number.specs.Exact.{To53, AllTo53}
use Rattle.number.specs.inside.Room.{SumByLengthTo53}
use Rattle.number.specs.Tests.{degree_of}
use Rattle.number.proofs.Within.{within_sum}
use Rattle.lists.specs.Tree.{Tree, leaf, cut, tree_of}
use Rattle.lists.specs.ArrangedKept.{EachMade}
use Rattle.lists.specs.TreeFacts.{Sound}
use Rattle.lists.specs.Promises.{listed_as}
use Rattle.lists.proofs.ArrangedKept.{each_arranged}
use Rattle.lists.proofs.Arranging.{low_size, high_size}
use Rattle.number.specs.inside.Laws.{lists_low, lists_high}
use Rattle.lists.proofs.SumByLength.{sum_by_length_start, sum_by_length_sum}
use Rattle.lists.proofs.TreeFacts.{trees_sound}

-- ---- through the cuts

-- every number made on the way is at most 2^53
pub made_to_53 : (basis : Basis) (base : ℕ) (tree : Tree) (c : List ℤ) → Sound base tree (length c) → SumByLengthTo53 c
    → EachMade To53 whole_ops basis tree c
made_to_53 basis base leaf c sound room = within_sum (2 ^ 53) c (sum_by_length_sum c room)
made_to_53 basis base (cut p low high) c sound room =
    let c₁ = cut_at whole_ops basis p c in
    let under : p < length c = sound.under in
    record {
      given = within_sum (2 ^ 53) c (sum_by_length_sum c room);
      low = made_to_53 basis base low (take p c₁) (rw (low_size whole_ops basis p c under) sound.low) (lists_low basis p c (omega arith) room);
      high = made_to_53 basis base high (drop p c₁) (rw (high_size whole_ops basis p c under) sound.high)
          (lists_high basis p c (omega arith) sound.half room);
    }

-- every plan tree is sound for the coefficients that it lists
pub sound_for : {A : Type 0} (leading : Bool) (whole split : ℕ) (c : List A) → 0 < length c → degree_of c ≤ plan_limit → 1 ≤ split
    → Sound (2 ^ split) (tree_of leading whole (degree_of c) split) (length c)
sound_for leading whole split c nonempty few from =
    let size : suc (degree_of c) ≡ length c = omega arith in
    rw size at (trees_sound leading whole (degree_of c) split few from)

pub listed_to_53 : (leading : Bool) (basis : Basis) (whole split : ℕ) (c : List ℤ) → SumByLengthTo53 c → 0 < length c → degree_of c ≤ plan_limit
    → 1 ≤ split → AllTo53 (listed_as whole_ops leading basis whole split c)
listed_to_53 leading basis whole split c room nonempty few from =
    let tree = tree_of leading whole (degree_of c) split in
    each_arranged To53 whole_ops basis tree c (made_to_53 basis (2 ^ split) tree c (sound_for leading whole split c nonempty few from) room)

-- ---- before the first cut

-- each place of an odd Chebyshev fold is at most twice the sum
sum_rows : (i S : ℕ) (os : List ℤ) → sum_abs os ≤ S → sum_abs (sum_rFrom whole_ops i os) ≤ length os * (2 * S)
unfolding sum_abs sum_rFrom
sum_rows i S [] within = omega arith
sum_rows i S (o ∷ os) within =
    let first = abs_add_r i i (pos 0) (o ∷ os) in
    let others = sum_rows (suc i) S os (omega arith) in
    let more : suc (length os) * (2 * S) ≡ length os * (2 * S) + 2 * S = suc-mul (length os) (2 * S) in
    omega arith

rows_sum_by_length : (os : List ℤ) → sum_abs os ≤ 2 ^ 30 → length os ≤ 2048 → SumByLengthTo53 (sum_rFrom whole_ops 0 os)
unfolding SumByLengthTo53
rows_sum_by_length os small few =
    let all : length os * (2 * 2 ^ 30) ≤ 2048 * (2 * 2 ^ 30) = mul-le-mul_right (2 * 2 ^ 30) few in
    let rows = sum_rows 0 (2 ^ 30) os small in
    let size = length_sum_rFrom whole_ops 0 os in
    le_trans (mul-le-mul {m₂ = 2048} (le_trans rows all) (rw size few)) (omega arith)

-- of a fold of coefficients within the limits
pub fold_sum_by_length : (parity : Parity) (basis : Basis) (c : List ℤ) → sum_abs c ≤ sum_limit → degree_of c ≤ plan_limit
    → SumByLengthTo53 (fold whole_ops parity basis c)
unfolding fold
fold_sum_by_length Full basis c small few = sum_by_length_start c small few
fold_sum_by_length Even basis c small few =
    sum_by_length_start (every_second c) (omega (arith, sum_abs_every_second c)) (omega (arith, length_every_second c))
fold_sum_by_length Odd Monomial c small few =
    sum_by_length_start (every_second (drop 1 c)) (omega (arith, sum_abs_every_second (drop 1 c), sum_abs_drop 1 c))
    (omega (arith, length_every_second (drop 1 c), length-drop 1 c))
fold_sum_by_length Odd Chebyshev c small few =
    rows_sum_by_length (every_second (drop 1 c)) (omega (arith, sum_abs_every_second (drop 1 c), sum_abs_drop 1 c))
    (omega (arith, length_every_second (drop 1 c), length-drop 1 c))

-- a fold has no higher degree
folded_few : (parity : Parity) (n : ℕ) → folded_length parity n - 1 ≤ n - 1
unfolding folded_length
folded_few Full n = omega arith
folded_few Even n = omega arith
folded_few Odd n = omega arith

pub fold_degree : {A : Type 0} (𝓞 : Operations A) (parity : Parity) (basis : Basis) (c : List A) → degree_of c ≤ plan_limit
    → degree_of (fold 𝓞 parity basis c) ≤ plan_limit
fold_degree 𝓞 parity basis c few = omega (arith, fold_length 𝓞 parity basis c, folded_few parity (length c))
