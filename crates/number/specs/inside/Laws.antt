-- The laws of `Coefficient` at i64 and at f64. They stand here, and not with the proofs, since the impls cite them.
-- Over whole numbers the sum of the magnitudes times the number of coefficients is at most 2^53 at the start, and after every cut too: low has
-- at most the sum, and high at most twice the sum on at most half the places.
use Rattle.std.specs.Prelude.{◌≡◌, true, List, [], ◌∷◌, ℕ, ◌+◌, ◌*◌, ◌≤◌, ◌^◌, ℤ, Float, length, take, drop}
use mathlib.Core.Path.{ap, ◌∙◌}
use native.Mathlib.Nat.{mul-le-mul, mul-le-mul_left, mul-le-mul_right, add-mul, mul-add, le_trans}
use native.Mathlib.Omega.{arith}
use borrow.Author.Tests.{leb-true}
use lib.ListN.{length-drop}
use lib.Seq.{length-take-le}
use Rattle.algebra.specs.Operations.{whole_ops}
use Rattle.algebra.specs.Each.{Each}
use Rattle.algebra.specs.Cut.{cut_at}
use Rattle.algebra.specs.Magnitude.{sum_abs}
use Rattle.algebra.specs.declared.Basis.{Basis}
use Rattle.algebra.proofs.CutPlaces.{cut_length}
use Rattle.algebra.proofs.CutMagnitudes.{low_magnitude, high_magnitude}
use Rattle.number.specs.Exact.{Within, AllTo52}
use Rattle.number.specs.Limits.{plan_limit, count_limit, sum_limit}
use Rattle.number.specs.Numbers.{whole_numbers}
use Rattle.number.specs.Tests.{degree_of}
use Rattle.number.specs.inside.Room.{SumByLengthTo53}

-- of coefficients within the limits: 2^30 times 4,096 is 2^42
pub small_lists : (c : List ℤ) → whole_numbers.small c ≡ true → degree_of c ≤ plan_limit → SumByLengthTo53 c
unfolding SumByLengthTo53
small_lists c small few =
    let most : length c ≤ count_limit = omega arith in
    le_trans (mul-le-mul (leb-true (sum_abs c) sum_limit small) most) (omega arith)

within_sum : (n : ℕ) (c : List ℤ) → sum_abs c ≤ n → Within n c
unfolding sum_abs
within_sum n [] h = tt
within_sum n (x ∷ c) h = (omega arith, within_sum n c (omega arith))

-- with two coefficients or more the sum is at most 2^52
pub lists_cut : (c : List ℤ) → 2 ≤ length c → SumByLengthTo53 c → AllTo52 c
unfolding SumByLengthTo53
lists_cut c two fine =
    let twice : sum_abs c * 2 ≤ sum_abs c * length c = mul-le-mul_left (sum_abs c) two in
    within_sum (2 ^ 52) c (omega (arith, fine))

twice_on_half : {bound a : ℕ} (m S n : ℕ) → a ≤ 2 * S → m + m ≤ n → S * n ≤ bound → a * m ≤ bound
twice_on_half m S n sum short fine =
    let moved : (2 * S) * m ≡ S * (m + m) = ap (λ (x : ℕ). x * m) (doubled S) ∙ rw (add-mul, mul-add) in
    le_trans (mul-le-mul_right m sum) (rw moved (le_trans (mul-le-mul_left S short) fine))
  where
    doubled : (x : ℕ) → 2 * x ≡ x + x
    doubled x = omega arith

pub lists_low : (basis : Basis) (p : ℕ) (c : List ℤ) → p ≤ length c → SumByLengthTo53 c → SumByLengthTo53 (take p (cut_at whole_ops basis p c))
unfolding SumByLengthTo53
lists_low basis p c under fine =
    let long = cut_length whole_ops p c under basis in
    let size : length (take p (cut_at whole_ops basis p c)) ≤ length c = omega (arith, length-take-le p (cut_at whole_ops basis p c) (omega arith)) in
    le_trans (mul-le-mul (low_magnitude p c under basis) size) fine

pub lists_high : (basis : Basis) (p : ℕ) (c : List ℤ) → p ≤ length c → length c ≤ p + p → SumByLengthTo53 c
    → SumByLengthTo53 (drop p (cut_at whole_ops basis p c))
unfolding SumByLengthTo53
lists_high basis p c under half fine =
    let long = cut_length whole_ops p c under basis in
    let size = length-drop p (cut_at whole_ops basis p c) in
    twice_on_half (length (drop p (cut_at whole_ops basis p c))) (sum_abs c) (length c) (high_magnitude p c under basis) (omega arith) fine

-- where nothing is asked of a number, nothing is asked of a list of them
pub any_cut : (c : List Float) → Each (λ (x : Float). Unit {0}) c
any_cut [] = tt
any_cut (x ∷ c) = (tt, any_cut c)
