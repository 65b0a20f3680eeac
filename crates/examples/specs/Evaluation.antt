-- Worked examples of evaluation, parity and intervals, computed.
use Rattle.std.specs.Prelude.{◌≡◌, refl, true, [], ◌∷◌, map, pos, negsuc, Float}
use Rattle.std.specs.Float.{nan, fin}
use Rattle.std.specs.Float.Ieee.{add, sub, mul, div, neg, eq, of_int}
use Rattle.algebra.specs.Allowed.{allows}
use Rattle.algebra.specs.declared.Basis.TheVariants.{Monomial, Chebyshev}
use Rattle.algebra.specs.declared.Parity.TheVariants.{Full, Even, Odd}
use Rattle.number.specs.Numbers.{float_ops, whole_numbers, float_numbers}
use Rattle.number.specs.Exact.{num}
use Rattle.number.specs.Evaluate.{horner, clenshaw_pair, clenshaw, evaluate}
use Rattle.number.specs.Parity.{has_parity_from, parity_of}
use Rattle.number.specs.Interval.{change_of_basis}

-- -0
abbrev minus_zero : Float
minus_zero = fin true 0 (pos 0)

-- Chebyshev 1..6 at 2 is 2,787
pub six_at_two : evaluate float_ops Chebyshev (map num (pos 1 ∷ pos 2 ∷ pos 3 ∷ pos 4 ∷ pos 5 ∷ pos 6 ∷ [])) (num (pos 2)) ≡ num (pos 2787)
unfolding clenshaw clenshaw_pair of_int add sub mul neg
six_at_two = refl

-- 1 + 2x + 3x² at 2 is 17
pub three_at_two : evaluate float_ops Monomial (map num (pos 1 ∷ pos 2 ∷ pos 3 ∷ [])) (num (pos 2)) ≡ num (pos 17)
unfolding horner of_int add mul
three_at_two = refl

-- no coefficient gives zero in either basis
pub none_monomial : evaluate float_ops Monomial [] nan ≡ float_ops.zero
unfolding horner
none_monomial = refl

pub none_chebyshev : evaluate float_ops Chebyshev [] nan ≡ float_ops.zero
unfolding clenshaw
none_chebyshev = refl

-- one coefficient: Clenshaw returns it as it is, Horner adds it to 0·x, so that its -0 depends on the sign of x
pub one_chebyshev : evaluate float_ops Chebyshev (minus_zero ∷ []) nan ≡ minus_zero
unfolding clenshaw
one_chebyshev = refl

pub one_monomial_right : evaluate float_ops Monomial (minus_zero ∷ []) (num (pos 1)) ≡ float_ops.zero
unfolding horner of_int add mul
one_monomial_right = refl

pub one_monomial_left : evaluate float_ops Monomial (minus_zero ∷ []) (num (negsuc 0)) ≡ minus_zero
unfolding horner of_int add mul
one_monomial_left = refl

-- -0 counts as zero, a NaN does not
pub minus_zero_even : parity_of float_numbers (num (pos 1) ∷ minus_zero ∷ []) ≡ Even
unfolding parity_of has_parity_from allows of_int eq
minus_zero_even = refl

pub nan_full : parity_of float_numbers (num (pos 1) ∷ nan ∷ []) ≡ Full
unfolding parity_of has_parity_from allows of_int eq
nan_full = refl

-- no coefficient, one, and zeros alone are Even; 0 1 0 2 is Odd; 1 2 is Full
pub none_even : parity_of whole_numbers [] ≡ Even
unfolding parity_of has_parity_from allows
none_even = refl

pub one_even : parity_of whole_numbers (pos 5 ∷ []) ≡ Even
unfolding parity_of has_parity_from allows
one_even = refl

pub zeros_even : parity_of whole_numbers (pos 0 ∷ pos 0 ∷ []) ≡ Even
unfolding parity_of has_parity_from allows
zeros_even = refl

pub odd_places : parity_of whole_numbers (pos 0 ∷ pos 1 ∷ pos 0 ∷ pos 2 ∷ []) ≡ Odd
unfolding parity_of has_parity_from allows
odd_places = refl

pub both_places : parity_of whole_numbers (pos 1 ∷ negsuc 1 ∷ []) ≡ Full
unfolding parity_of has_parity_from allows
both_places = refl

-- the Chebyshev change pair of -1 to 1 is 1 and -0
pub unit_interval : change_of_basis Chebyshev (num (negsuc 0)) (num (pos 1))
    ≡ record { a = num (negsuc 0); b = num (pos 1); u = num (pos 1); w = minus_zero }
unfolding of_int add sub neg div
unit_interval = refl
