-- Worked examples of interpolation and its refusals, computed ("Interpolation" and "Refusals").
use Rattle.std.specs.Prelude.{◌≡◌, refl, true, [], ◌∷◌, map, pos, negsuc, Float}
use Rattle.std.specs.Float.{nan, fin}
use Rattle.std.specs.Float.Ieee.{add, sub, mul, div, lt, of_int}
use Rattle.algebra.specs.Allowed.{allows}
use Rattle.algebra.specs.Power.{cheb}
use Rattle.algebra.specs.declared.Basis.TheVariants.{Chebyshev}
use Rattle.algebra.specs.declared.Parity.TheVariants.{Even}
use Rattle.number.specs.Exact.{num}
use Rattle.number.specs.Interval.{change_of_basis}
use Rattle.number.specs.Numbers.{float_ops}
use Rattle.number.specs.Parity.{has_parity_from, parity_of}
use Rattle.number.specs.Refusal.{unless_refused}
use Rattle.interpolation.specs.Interpolate.{add_node, add_nodes, scaled, coefficients_of}
use Rattle.interpolation.specs.InterpolateCall.{no_interpolation, interpolate_refusal, interpolate_answer, interpolate_buffer}

-- -0
abbrev minus_zero : Float
minus_zero = fin true 0 (pos 0)

-- values 3 and 1 at 1 and -1: the sums are 4 and 2, times 1/2 and times 1
pub two_nodes : coefficients_of (map num (pos 1 ∷ negsuc 0 ∷ [])) (map num (pos 3 ∷ pos 1 ∷ [])) ≡ map num (pos 2 ∷ pos 2 ∷ [])
unfolding add_node add_nodes scaled cheb of_int add sub mul div
two_nodes = refl

-- one value is its own coefficient, and -0 becomes +0, as the sum begins at +0; the place beyond is unchanged
pub one_node : interpolate_answer (num (pos 0) ∷ []) (minus_zero ∷ []) (num (pos 0)) (num (pos 2)) (nan ∷ num (pos 7) ∷ [])
    ≡ record { refusal = 0; count = 1; parity = Even; interval = change_of_basis Chebyshev (num (pos 0)) (num (pos 2)) }
unfolding interpolate_answer interpolate_refusal unless_refused parity_of has_parity_from allows add_node add_nodes scaled cheb of_int add sub mul div lt
one_node = refl

pub one_node_buffer : interpolate_buffer (num (pos 0) ∷ []) (minus_zero ∷ []) (num (pos 0)) (num (pos 2)) (nan ∷ num (pos 7) ∷ [])
    ≡ float_ops.zero ∷ num (pos 7) ∷ []
unfolding interpolate_buffer interpolate_refusal unless_refused add_node add_nodes scaled cheb of_int add sub mul div lt
one_node_buffer = refl

-- 8 goes ahead of 7, and 7 ahead of 21
pub count_first : interpolate_refusal (nan ∷ []) [] (num (pos 1)) (num (pos 1)) [] ≡ 8
unfolding interpolate_refusal
count_first = refl

pub no_node : interpolate_refusal [] [] (num (pos 1)) (num (pos 1)) [] ≡ 8
unfolding interpolate_refusal
no_node = refl

pub interval_next : interpolate_refusal (nan ∷ []) (nan ∷ []) (num (pos 1)) (num (pos 1)) [] ≡ 7
unfolding interpolate_refusal of_int lt
interval_next = refl

pub room_last : interpolate_refusal (nan ∷ []) (nan ∷ []) (num (pos 0)) (num (pos 1)) [] ≡ 21
unfolding interpolate_refusal of_int lt
room_last = refl

-- an end that is a NaN is 7: zero in every other field, and the buffer as it was
pub nan_refused : interpolate_answer (nan ∷ []) (nan ∷ []) (num (pos 0)) nan (num (pos 7) ∷ []) ≡ no_interpolation 7
unfolding interpolate_answer interpolate_refusal unless_refused of_int lt
nan_refused = refl

pub nan_buffer : interpolate_buffer (nan ∷ []) (nan ∷ []) (num (pos 0)) nan (num (pos 7) ∷ []) ≡ num (pos 7) ∷ []
unfolding interpolate_buffer interpolate_refusal unless_refused of_int lt
nan_buffer = refl
